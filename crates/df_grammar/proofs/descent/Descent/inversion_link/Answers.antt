use Rattle.std.proofs.Common.{refl, arith}
use Rattle.df_forms.specs.Reading.{read}
use Rattle.df_syntax.specs.Lines as l
use Rattle.df_cursor.specs.Reads.{opened}
use Rattle.df_grammar.proofs.Steps.{step_failed}
use Rattle.df_grammar.proofs.descent.Descent.inversion_link.Goals as goal

pub returns-in_err-take_symbol : goal.returns-in_err-take_symbol
unfolding l.inversion_link read opened
returns-in_err-take_symbol g' c = step_failed _ _ _ _ c.in_err-take_symbol.field-0.0 c.from_residual.ensures.1 (λ n. rw (c.in_err-take_symbol.ensures n) refl)

pub returns-in_err-operand : goal.returns-in_err-operand
unfolding l.inversion_link read opened
returns-in_err-operand g' c = step_failed _ _ _ _ c.in_err-operand.field-0.0 c.from_residual-in_err-operand.ensures.1 (λ n. rw (c.in_ok-take_symbol.ensures.0, c.in_err-operand.ensures n) refl)

pub returns : goal.returns
unfolding l.inversion_link read opened
returns g' c = (
  rw (c.in_ok-take_symbol.ensures.0, c.in_ok-operand.ensures.0) refl,
  omega (arith, c.in_ok-take_symbol.ensures.1, c.in_ok-operand.ensures.1),
)
