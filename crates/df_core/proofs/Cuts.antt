-- Lists of members up to their first nothing.
use Rattle.std.proofs.Common.{◌≡◌, ℕ, zero, suc, ◌+◌, ◌<◌, List, [], ◌∷◌, ◌++◌, length, take, get_or, refl, ap, arith, add-one, Bool, true, false, Some, None}
use Rattle.df_values.specs.declared.values.Value.{Value}
use Rattle.df_partial.specs.Members.{Member, cut}

-- whether no member is nothing
abbrev pub all_there : List Member → Bool
all_there [] = true
all_there (Some v ∷ ms) = all_there ms
all_there (None ∷ ms) = false

one_more : (ms : List Member) (i : ℕ) (d : Member) (v : Value) → i < length ms → all_there (take i ms) ≡ true → get_or ms i d ≡ Some v
    → (all_there (take (suc i) ms) ≡ true) × (cut (take (suc i) ms) ≡ cut (take i ms) ++ v ∷ [])
one_more [] i d v h there is = absurd (omega (arith, h))
one_more (m ∷ ms) zero d v h there is = rw is (refl, refl)
one_more (Some w ∷ ms) (suc i) d v h there is =
    let more = one_more ms i d v (omega (arith, h)) there is in
    (more.0, ap (λ l. w ∷ l) more.1)
one_more (None ∷ ms) (suc i) d v h there is = absurd (cc)

-- a value more
pub cut_more : (ms : List Member) (i : ℕ) (d : Member) (v : Value) → i < length ms → all_there (take i ms) ≡ true → get_or ms i d ≡ Some v
    → (all_there (take (i + 1) ms) ≡ true) × (cut (take (i + 1) ms) ≡ cut (take i ms) ++ v ∷ [])
cut_more ms i d v h there is = rw add-one (one_more ms i d v h there is)

-- the first nothing
pub cut_ends : (ms : List Member) (i : ℕ) (d : Member) → i < length ms → all_there (take i ms) ≡ true → get_or ms i d ≡ None → cut ms ≡ cut (take i ms)
cut_ends [] i d h there is = absurd (omega (arith, h))
cut_ends (m ∷ ms) zero d h there is = rw is refl
cut_ends (Some w ∷ ms) (suc i) d h there is = ap (λ l. w ∷ l) (cut_ends ms i d (omega (arith, h)) there is)
cut_ends (None ∷ ms) (suc i) d h there is = absurd (cc)
