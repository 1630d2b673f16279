-- The order of ranks, and the least of the ranks of several cells.
use Rattle.std.proofs.Common.{◌≡◌, ◌⊎◌, ◌<◌, ℕ, zero, suc, ◌==◌, Bool, true, false, nat_lt, ◌&&◌, List, [], ◌∷◌, refl}
use Rattle.std.proofs.Common.{sym, ◌∙◌, ap, subst, inl, inr, arith}
use Rattle.std.proofs.lemmas.Bool.{cases_Bool, cases_eq, both_ways, eqb-true, eq-eqb, and_parts, and_cases, and_from}
use Rattle.std.proofs.lemmas.Bool.{or_cases, or_left, or_right, and_right, or_from, lt-ltb, ltb-true}
use Rattle.std.proofs.lemmas.Bool.{false_from_ne_true}
use Rattle.df_rank.specs.Ranks.{is_lower, IsLower}

pub lower_self : (r : List ℕ) → is_lower r r ≡ false
lower_self [] = refl
lower_self (a ∷ r) = or_from (nat_lt a a) ((a == a) && is_lower r r)
    (false_from_ne_true (nat_lt a a) (λ t. let l = ltb-true a a t in omega arith))
    (and_right (a == a) (is_lower r r) (lower_self r))

pub lower_through : (r s t : List ℕ) → IsLower r s → IsLower s t → IsLower r t
lower_through [] [] t x y = cc
lower_through [] (b ∷ s) [] x y = cc
lower_through [] (b ∷ s) (c ∷ t) x y = refl
lower_through (a ∷ r) [] t x y = cc
lower_through (a ∷ r) (b ∷ s) [] x y = cc
lower_through (a ∷ r) (b ∷ s) (c ∷ t) x y =
    let rest = (a == c) && is_lower r t in
    elim (or_cases (nat_lt a b) ((a == b) && is_lower r s) x) [
      | inl p ↦ let l = ltb-true a b p in elim (or_cases (nat_lt b c) ((b == c) && is_lower s t) y) [
        | inl q ↦ let m = ltb-true b c q in or_left (nat_lt a c) rest (lt-ltb a c (omega arith))
        | inr q ↦ let e = eqb-true b c (and_parts (b == c) (is_lower s t) q).0 in or_left (nat_lt a c) rest
            (lt-ltb a c (omega arith))
      ]
      | inr p ↦
          let ab = and_parts (a == b) (is_lower r s) p in
          let e = eqb-true a b ab.0 in
          elim (or_cases (nat_lt b c) ((b == c) && is_lower s t) y) [
            | inl q ↦ let m = ltb-true b c q in or_left (nat_lt a c) rest (lt-ltb a c (omega arith))
            | inr q ↦
                let bc = and_parts (b == c) (is_lower s t) q in
                let f = eqb-true b c bc.0 in
                or_right (nat_lt a c) rest (and_from (a == c) (is_lower r t) (eq-eqb a c (omega arith))
                (lower_through r s t ab.1 bc.1))
          ]
    ]

-- of the cells below n that pass the test, m has the least rank
abbrev pub IsLeast : (ℕ → Bool) → (ℕ → List ℕ) → ℕ → ℕ → Type 0
IsLeast p rank n m = (m < n) × (p m ≡ true) × ((d : ℕ) → d < n → p d ≡ true → is_lower (rank d) (rank m) ≡ false)

pub least : (p : ℕ → Bool) (rank : ℕ → List ℕ) (n : ℕ) → ((c : ℕ) → c < n → p c ≡ false)
    ⊎ ((m : ℕ) × IsLeast p rank n m)
least p rank zero = inl (λ c l. absurd (omega arith))
least p rank (suc n) = elim (least p rank n) [
  | inl none ↦ elim (cases_Bool (p n)) [
    | inl t ↦ inr (
      n,
      (
        omega arith,
        t,
        λ d l h. elim (cases_eq d n) [
          | inl same ↦ subst (λ x. is_lower (rank x) (rank n) ≡ false) (sym same) (lower_self (rank n))
          | inr other ↦ absurd (both_ways (p d) (none d (omega arith)) h)
        ],
      ),
    )
    | inr f ↦ inl (λ c l. elim (cases_eq c n) [
      | inl same ↦ ap p same ∙ f
      | inr other ↦ none c (omega arith)
    ])
  ]
  | inr old ↦
      let m = old.0 in
      elim (cases_Bool (p n && is_lower (rank n) (rank m))) [
        | inl t ↦
            let parts = and_parts (p n) (is_lower (rank n) (rank m)) t in
            inr (
              n,
              (
                omega arith,
                parts.0,
                λ d l h. elim (cases_eq d n) [
                  | inl same ↦ subst (λ x. is_lower (rank x) (rank n) ≡ false) (sym same) (lower_self (rank n))
                  | inr other ↦ false_from_ne_true (is_lower (rank d) (rank n))
                      (λ q. both_ways (is_lower (rank d) (rank m)) (old.1.2 d (omega arith) h)
                      (lower_through (rank d) (rank n) (rank m) q parts.1))
                ],
              ),
            )
        | inr f ↦
            let l' = old.1.0 in
            inr (
              m,
              (
                omega arith,
                old.1.1,
                λ d l h. elim (cases_eq d n) [
                  | inl same ↦ elim (and_cases (p n) (is_lower (rank n) (rank m)) f) [
                    | inl not_n ↦ absurd (both_ways (p d) (ap p same ∙ not_n) h)
                    | inr not_lower ↦ subst (λ x. is_lower (rank x) (rank m) ≡ false) (sym same) not_lower
                  ]
                  | inr other ↦ old.1.2 d (omega arith) h
                ],
              ),
            )
      ]
]
