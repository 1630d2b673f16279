-- The numbers of a window.
use Rattle.std.proofs.Common.{◌⊎◌, inl, inr, pos, negsuc, refl, ◌≡◌, ℕ, ℤ, ◌-◌, ◌≤◌, ◌<◌, ◌^◌, min, arith, ◌∙◌, ap, sym, true, false, Bool, Some, None}
use Rattle.std.specs.Prelude.{◌==◌, nat_lt, if◌then◌else◌, ◌+ℤ◌, ◌-ℤ◌}
use Rattle.std.specs.Int.{w128, saturate_signed}
use borrow.Author.Differences.{up, down}
use Rattle.df_build_access.specs.declared.windows.Array.{Array}
use Rattle.df_build_access.specs.Windows.{window_by, window_of, window_with}

is_zero : (k : ℕ) → k ≡ 0 → (k == 0) ≡ true
is_zero k is = grind (arith, is)

pub none_met : (n m missed skipped : ℕ) → min (n - missed) (m - skipped) ≡ 0 → window_with n m missed skipped ≡ None
none_met n m missed skipped is =
    ap (λ t. if t then None else Some (record { missed = missed; skipped = skipped; kept = min (n - missed) (m - skipped) })) (is_zero (min (n - missed) (m - skipped)) is)

-- the elements come after all turns
pub after_all : (n m : ℕ) (gap : ℤ) → n ≤ up gap → window_by n m gap ≡ None
unfolding window_by
after_all n m gap past = none_met n m (up gap) (down gap) (omega (arith, past))

-- or before them
pub before_all : (n m : ℕ) (gap : ℤ) → m ≤ down gap → window_by n m gap ≡ None
unfolding window_by
before_all n m gap before = none_met n m (up gap) (down gap) (omega (arith, before))

pub by_numbers : (n m missed skipped : ℕ) (gap : ℤ) → up gap ≡ missed → down gap ≡ skipped → window_by n m gap ≡ window_with n m missed skipped
unfolding window_by
by_numbers n m missed skipped gap e f = ap (λ p. window_with n m p (down gap)) e ∙ ap (window_with n m missed) f

pub apart : (z : ℤ) → (up z ≡ 0) ⊎ (down z ≡ 0)
apart (pos k) = inr refl
apart (negsuc k) = inl refl

-- an array without elements has no window
pub no_window : (lo : ℤ) (n : ℕ) (a : Array) (offset : ℤ) → a.n ≡ 0 → window_of lo n a offset ≡ None
no_window lo n a offset none = before_all n a.n (a.lo -ℤ (lo +ℤ offset)) (omega (arith, none))

-- a gap that is too wide for its type may be any other that is as wide
pub saturated : (n m : ℕ) (gap : ℤ) → n < 2 ^ 32 → m < 2 ^ 32 → window_by n m (saturate_signed w128 gap) ≡ window_by n m gap
saturated n m (pos k) few few' = go (nat_lt k (2 ^ 127)) refl
  where
    go : (t : Bool) → nat_lt k (2 ^ 127) ≡ t → window_by n m (pos (min k (2 ^ 127 - 1))) ≡ window_by n m (pos k)
    go true is = let less : min k (2 ^ 127 - 1) ≡ k = grind (arith, is) in ap (λ (j : ℕ). window_by n m (pos j)) less
    go false is =
        let wide : 2 ^ 127 ≤ k = grind (arith, is) in
        after_all n m (pos (min k (2 ^ 127 - 1))) (omega (arith, wide, few)) ∙ sym (after_all n m (pos k) (omega (arith, wide, few)))
saturated n m (negsuc k) few few' = go (nat_lt k (2 ^ 127)) refl
  where
    go : (t : Bool) → nat_lt k (2 ^ 127) ≡ t → window_by n m (negsuc (min k (2 ^ 127 - 1))) ≡ window_by n m (negsuc k)
    go true is = let less : min k (2 ^ 127 - 1) ≡ k = grind (arith, is) in ap (λ (j : ℕ). window_by n m (negsuc j)) less
    go false is =
        let wide : 2 ^ 127 ≤ k = grind (arith, is) in
        before_all n m (negsuc (min k (2 ^ 127 - 1))) (omega (arith, wide, few')) ∙ sym (before_all n m (negsuc k) (omega (arith, wide, few')))
