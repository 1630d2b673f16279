use Rattle.std.proofs.Common.{refl, arith}
use Rattle.df_forms.specs.Reading.{read}
use Rattle.df_syntax.specs.Grammar as g
use Rattle.df_cursor.specs.Reads.{opened}
use Rattle.df_grammar.proofs.Levels.{level_bound_1}
use Rattle.df_grammar.proofs.Steps.{step_failed}
use Rattle.df_grammar.proofs.descent.Descent.range.Goals as goal

pub returns-in_err-take_word : goal.returns-in_err-take_word
unfolding g.range read opened
returns-in_err-take_word g' c = step_failed _ _ _ _ c.in_err-take_word.field-0.0 c.from_residual.ensures.1 (λ n. rw (c.in_err-take_word.ensures n) refl)

pub returns-in_err-name : goal.returns-in_err-name
unfolding g.range read opened
returns-in_err-name g' c = step_failed _ _ _ _ c.in_err-name.field-0.0 c.from_residual-in_err-name.ensures.1 (λ n. rw (c.in_ok-take_word.ensures.0, c.in_err-name.ensures.once n) refl)

pub returns-in_err-low : goal.returns-in_err-low
unfolding g.range read opened
returns-in_err-low g' c = step_failed _ _ _ _ c.in_err-low.field-0.0 c.from_residual-in_err-low.ensures.1 (λ n. rw (c.in_ok-take_word.ensures.0, c.in_ok-name.ensures.once.0, level_bound_1, c.in_err-low.ensures n) refl)

pub returns-in_err-take_symbol : goal.returns-in_err-take_symbol
unfolding g.range read opened
returns-in_err-take_symbol g' c = step_failed _ _ _ _ c.in_err-take_symbol.field-0.0 c.from_residual-in_err-take_symbol.ensures.1 (λ n. rw (c.in_ok-take_word.ensures.0, c.in_ok-name.ensures.once.0, level_bound_1, c.in_ok-low.ensures.0, c.in_err-take_symbol.ensures n) refl)

pub returns : goal.returns
unfolding g.range read opened
returns g' c = (
  rw (c.in_ok-take_word.ensures.0, c.in_ok-name.ensures.once.0, level_bound_1, c.in_ok-low.ensures.0, c.in_ok-take_symbol.ensures.0) refl,
  omega (arith, c.in_ok-take_word.ensures.1, c.in_ok-name.ensures.once.1, c.in_ok-low.ensures.1, c.in_ok-take_symbol.ensures.1),
)
