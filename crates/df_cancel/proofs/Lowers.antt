-- The least number, and the numbers less it.
use Rattle.std.proofs.Common.{◌≡◌, ℕ, ◌+◌, ◌<◌, ℤ, pos, ◌-ℤ◌, ◌≤ℤ◌, List, [], ◌∷◌, ◌++◌, length, Bool, true, false, cond, ◌⊎◌, inl, inr, refl, sym, ap, ◌∙◌, below_more, arith}
use Rattle.std.specs.Int.{int_min}
use Rattle.std.specs.Int.RustNames.{int_lt}
use Rattle.std.proofs.lemmas.Int.{ints}
use Rattle.std.proofs.lemmas.List.{get_or_append_left, get_or_push}
use Rattle.df_cancel.specs.Rows.{at_row}
use Rattle.df_cancel.specs.Lowered.{IsLowered}

pub min_cases : (a b : ℤ) → (int_min a b ≡ a) ⊎ (int_min a b ≡ b)
min_cases a b = by (int_lt b a) refl
  where
    by : (t : Bool) → int_lt b a ≡ t → (int_min a b ≡ a) ⊎ (int_min a b ≡ b)
    by true e = inr (ap (λ t. cond t b a) e)
    by false e = inl (ap (λ t. cond t b a) e)

module _ (numbers : List ℤ) (i : ℕ) (least m : ℤ) (is : m ≡ int_min least (at_row numbers i)) (left : m ≤ℤ least) (right : m ≤ℤ at_row numbers i) where
  pub least_below : ((k : ℕ) → k < i → least ≤ℤ at_row numbers k) → (k : ℕ) → k < i + 1 → m ≤ℤ at_row numbers k
  least_below below = below_more (λ k. m ≤ℤ at_row numbers k) i (λ k h. let b = below k h in omega (arith, ints)) right

  pub least_reached : i < length numbers → (k : ℕ) × (k < length numbers) × (at_row numbers k ≡ least) → (k : ℕ) × (k < length numbers) × (at_row numbers k ≡ m)
  least_reached h (k, l, e) = by (min_cases least (at_row numbers i))
    where
      by : (int_min least (at_row numbers i) ≡ least) ⊎ (int_min least (at_row numbers i) ≡ at_row numbers i) → (k : ℕ) × (k < length numbers) × (at_row numbers k ≡ m)
      by (inl f) = (k, l, e ∙ sym f ∙ sym is)
      by (inr f) = (i, h, sym f ∙ sym is)

pub lower_push : (numbers stages : List ℤ) (j : ℕ) (least v : ℤ) → length stages ≡ j → v ≡ at_row numbers j -ℤ least → ((k : ℕ) → k < j → at_row stages k ≡ at_row numbers k -ℤ least) → (k : ℕ) → k < j + 1 → at_row (stages ++ v ∷ []) k ≡ at_row numbers k -ℤ least
lower_push numbers stages j least v e is lower =
    below_more (λ k. at_row (stages ++ v ∷ []) k ≡ at_row numbers k -ℤ least) j
    (λ k h. get_or_append_left stages (v ∷ []) (pos 0) k (omega arith) ∙ lower k h) (get_or_push stages v (pos 0) j e ∙ is)

pub lowered_none : (numbers stages : List ℤ) → length numbers ≡ 0 → stages ≡ [] → IsLowered numbers stages
lowered_none numbers stages e s = record {
  len = ap length s ∙ sym e;
  least = pos 0;
  lower = λ k h. absurd (omega arith);
  below = λ k h. absurd (omega arith);
  reached = λ h. absurd (omega arith);
}
