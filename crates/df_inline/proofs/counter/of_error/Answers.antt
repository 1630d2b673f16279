use Rattle.std.proofs.Common.{◌≡◌, refl, sym, ◌∙◌, ap}
use Rattle.df_values.specs.declared.values.ErrorValue.{ErrorValue}
use Rattle.df_values.specs.declared.values.ErrorValue.TheVariants as fault
use Rattle.df_syntax.specs.WellBuilt.{error_nesting}
use Rattle.df_inline.specs.Sizes.{nothing, bracketed}
use Rattle.df_inline.specs.Counts.{saturated}
use Rattle.df_inline.proofs.counter.of_error.Goals as goal

plain : (v : ErrorValue) → (v ≡ fault.Undef → ⊥) → (v ≡ fault.MissElt → ⊥) → error_nesting v ≡ 0
plain fault.Undef u m = absurd (u refl)
plain fault.MissElt u m = absurd (m refl)
plain _ u m = refl

pub returns-in_default : goal.returns-in_default
unfolding nothing bracketed
returns-in_default c = c.nothing.ensures ∙ ap (λ n. saturated (bracketed n)) (sym (plain c.args.value c.in_default.not-Undef c.in_default.not-MissElt))
