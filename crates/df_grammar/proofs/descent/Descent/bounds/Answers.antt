use Rattle.std.proofs.Common.{refl, arith}
use Rattle.df_forms.specs.Reading.{read}
use Rattle.df_syntax.specs.Grammar as g
use Rattle.df_cursor.specs.Reads.{opened}
use Rattle.df_grammar.proofs.Steps.{step_failed}
use Rattle.df_grammar.proofs.descent.Descent.bounds.Goals as goal

pub returns-in_err-open_symbol : goal.returns-in_err-open_symbol
unfolding g.bounds read opened
returns-in_err-open_symbol g' c = step_failed _ _ _ _ c.in_err-open_symbol.field-0.0 c.from_residual.ensures.1 (λ n. rw (c.in_err-open_symbol.ensures.takes n) refl)

pub returns-in_err-low : goal.returns-in_err-low
unfolding g.bounds read opened
returns-in_err-low g' c = step_failed _ _ _ _ c.in_err-low.field-0.0 c.from_residual-in_err-low.ensures.1 (λ n. rw (c.in_ok-open_symbol.ensures.takes.0, c.in_err-low.ensures n) refl)

pub returns-in_err-take_symbol : goal.returns-in_err-take_symbol
unfolding g.bounds read opened
returns-in_err-take_symbol g' c = step_failed _ _ _ _ c.in_err-take_symbol.field-0.0 c.from_residual-in_err-take_symbol.ensures.1 (λ n. rw (c.in_ok-open_symbol.ensures.takes.0, c.in_ok-low.ensures.0, c.in_err-take_symbol.ensures n) refl)

pub returns-in_err-high : goal.returns-in_err-high
unfolding g.bounds read opened
returns-in_err-high g' c = step_failed _ _ _ _ c.in_err-high.field-0.0 c.from_residual-in_err-high.ensures.1 (λ n. rw (c.in_ok-open_symbol.ensures.takes.0, c.in_ok-low.ensures.0, c.in_ok-take_symbol.ensures.0, c.in_err-high.ensures n) refl)

pub returns-in_err-take_symbol-2 : goal.returns-in_err-take_symbol-2
unfolding g.bounds read opened
returns-in_err-take_symbol-2 g' c = step_failed _ _ _ _ c.in_err-take_symbol-2.field-0.0 c.from_residual-in_err-take_symbol-2.ensures.1 (λ n. rw (c.in_ok-open_symbol.ensures.takes.0, c.in_ok-low.ensures.0, c.in_ok-take_symbol.ensures.0, c.in_ok-high.ensures.0, c.in_err-take_symbol-2.ensures n) refl)

pub returns : goal.returns
unfolding g.bounds read opened
returns g' c = (
  rw (c.in_ok-open_symbol.ensures.takes.0, c.in_ok-low.ensures.0, c.in_ok-take_symbol.ensures.0, c.in_ok-high.ensures.0, c.in_ok-take_symbol-2.ensures.0) refl,
  omega (arith, c.in_ok-open_symbol.ensures.takes.1, c.in_ok-low.ensures.1, c.in_ok-take_symbol.ensures.1, c.in_ok-high.ensures.1, c.in_ok-take_symbol-2.ensures.1),
)
