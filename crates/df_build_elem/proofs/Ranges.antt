-- Ranges within the limits: their turns fit, and what they make is short.
use Rattle.std.proofs.Common.{◌≡◌, ℕ, ℤ, suc, pos, ◌+ℤ◌, List, [], ◌∷◌, subst, arith}
use Rattle.std.proofs.lemmas.Int.{ints}
use Rattle.std.specs.Int.Signed.{le_z_yes}
use Rattle.std.specs.List.{AllByRecursion}
use Rattle.std.specs.Prelude.{All}
use Rattle.df_values.specs.Inputs.{IsRange}
use Rattle.df_values.specs.Values.{IsOrdinary, least, greatest}
use Rattle.df_core.specs.Meaning.{before}
use Rattle.df_build_terms.specs.Made.{AreFit}
use Rattle.df_build_elem.specs.Blocks.{turns_of, one_turn}

pub all_each : {X : Type 0} (P : X → Type 0) (xs : List X) → All P xs → AllByRecursion P xs
all_each P [] all = tt
all_each P (x ∷ xs) all = (all 0 x (omega arith), all_each P xs (λ k d less. all (suc k) d (omega (arith, less))))

pub range_fits : (lo : ℤ) (n : ℕ) → IsRange lo n → AreFit (turns_of lo n)
range_fits lo n r =
    let few = r.short in
    let low = r.low in
    let high = r.high in
    record { short = omega (arith, few); ordinary = λ j less. (omega (arith, ints, low.0), omega (arith, ints, high, less)) }

-- the turns of a recurrence are those after its first element
pub turns_fit : (lo : ℤ) (n : ℕ) → IsRange (before lo) (suc n) → AreFit (turns_of lo n)
turns_fit lo n r =
    let few = r.short in
    let low = r.low in
    let high = r.high in
    record { short = omega (arith, few); ordinary = λ j less. (omega (arith, ints, low.0), omega (arith, ints, high, less)) }

nought_is_ordinary : IsOrdinary (pos 0)
unfolding least greatest
nought_is_ordinary = (le_z_yes tt, le_z_yes tt)

pub one_fits : AreFit one_turn
one_fits = record {
  short = omega arith;
  ordinary = λ j less. let e : 0 ≡ j = omega (arith, less) in subst (λ (i : ℕ). IsOrdinary (pos 0 +ℤ pos i)) e nought_is_ordinary;
}
