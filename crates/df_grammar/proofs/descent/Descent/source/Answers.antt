use Rattle.std.proofs.Common.{refl, arith}
use Rattle.df_forms.specs.Reading.{read}
use Rattle.df_syntax.specs.Grammar as g
use Rattle.df_cursor.specs.Reads.{opened}
use Rattle.df_grammar.proofs.Levels.{level_constants_1, level_ranges_1}
use Rattle.df_grammar.proofs.Steps.{step_failed}
use Rattle.df_grammar.proofs.descent.Descent.source.Goals as goal

pub returns-in_err-constants : goal.returns-in_err-constants
unfolding g.source read opened
returns-in_err-constants g' c = step_failed _ _ _ _ c.in_err-constants.field-0.0 c.from_residual.ensures.1 (λ n. rw (c.in_err-constants.ensures n) refl)

pub returns-in_err-ranges : goal.returns-in_err-ranges
unfolding g.source read opened
returns-in_err-ranges g' c = step_failed _ _ _ _ c.in_err-ranges.field-0.0 c.from_residual-in_err-ranges.ensures.1 (λ n. rw (c.in_ok-constants.ensures.0, level_constants_1, c.in_err-ranges.ensures n) refl)

pub returns-in_err-functions : goal.returns-in_err-functions
unfolding g.source read opened
returns-in_err-functions g' c = step_failed _ _ _ _ c.in_err-functions.field-0.0 c.from_residual-in_err-functions.ensures.1 (λ n. rw (c.in_ok-constants.ensures.0, level_constants_1, c.in_ok-ranges.ensures.0, level_ranges_1, c.in_err-functions.ensures n) refl)

pub returns : goal.returns
unfolding g.source read opened
returns g' c = (
  rw (c.in_ok-constants.ensures.0, level_constants_1, c.in_ok-ranges.ensures.0, level_ranges_1, c.in_ok-functions.ensures.0) refl,
  omega (arith, c.in_ok-constants.ensures.1, c.in_ok-ranges.ensures.1, c.in_ok-functions.ensures.1),
)
