-- Where an element with an offset lies, in numbers of turns.
use Rattle.std.proofs.Common.{◌≡◌, ℕ, ℤ, pos, negsuc, ◌+ℤ◌, ◌-ℤ◌, suc, ◌+◌, ◌-◌, Bool, true, false, List, get_or, refl, sym, ◌∙◌, ap, arith}
use Rattle.std.proofs.lemmas.Int.{ints}
use Rattle.std.specs.Prelude.{nat_lt, if◌then◌else◌}
use Rattle.std.proofs.lemmas.Bool.{ltb-true, ltb-false, le-ltb}
use Rattle.df_values.specs.declared.values.Value.{Value}
use Rattle.df_values.specs.declared.values.Value.TheVariants.{Error}
use Rattle.df_values.specs.declared.values.ErrorValue.TheVariants.{MissElt}
use Rattle.df_values.specs.Operators.{value_at_place, element_at}
use borrow.Author.Differences.{up, down}

abbrev pub miss : Value
miss = Error MissElt

-- what is missing before the turn p, and from there on the elements from number `left` on
abbrev pub shown : ℕ → ℕ → List Value → ℕ → Value
shown p left vs i = if nat_lt i p then miss else get_or vs (left + (i - p)) miss

by_distance : (gap : ℤ) (vs : List Value) (i : ℕ) → value_at_place vs (pos i -ℤ gap) ≡ shown (up gap) (down gap) vs i
by_distance (negsuc q) vs i =
    let e : pos i -ℤ negsuc q ≡ pos (suc q + i) = omega (arith, ints) in
    let z : suc q + i ≡ suc q + (i - 0) = omega arith in
    ap (value_at_place vs) e ∙ ap (λ j. get_or vs j miss) z ∙ sym (ap (λ b. if b then miss else get_or vs (suc q + (i - 0)) miss) (le-ltb i 0 (omega arith)))
by_distance (pos q) vs i = go (nat_lt i q) refl
  where
    go : (b : Bool) → nat_lt i q ≡ b → value_at_place vs (pos i -ℤ pos q) ≡ (if b then miss else get_or vs (0 + (i - q)) miss)
    go true h = let less = ltb-true i q h in let e : pos i -ℤ pos q ≡ negsuc (q - i - 1) = omega (arith, ints, less) in ap (value_at_place vs) e
    go false h =
        let more = ltb-false i q h in
        let e : pos i -ℤ pos q ≡ pos (0 + (i - q)) = omega (arith, ints, more) in ap (value_at_place vs) e

pub shown_is : (lo la c : ℤ) (vs : List Value) (i : ℕ) → element_at la vs ((lo +ℤ pos i) +ℤ c) ≡ shown (up (la -ℤ (lo +ℤ c))) (down (la -ℤ (lo +ℤ c))) vs i
shown_is lo la c vs i =
    let e : (lo +ℤ pos i) +ℤ c -ℤ la ≡ pos i -ℤ (la -ℤ (lo +ℤ c)) = omega (arith, ints) in
    ap (value_at_place vs) e ∙ by_distance (la -ℤ (lo +ℤ c)) vs i
