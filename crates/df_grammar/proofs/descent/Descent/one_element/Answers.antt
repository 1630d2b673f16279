use Rattle.std.proofs.Common.{refl, arith}
use Rattle.df_forms.specs.Reading.{read}
use Rattle.df_syntax.specs.Grammar as g
use Rattle.df_cursor.specs.Reads.{opened}
use Rattle.df_grammar.proofs.Steps.{step_failed, step_wanting}
use Rattle.df_grammar.proofs.descent.Descent.one_element.Goals as goal

pub returns-in_err-token : goal.returns-in_err-token
unfolding g.one_element read opened
returns-in_err-token g' c = step_failed _ _ _ _ c.in_err-token.field-0.0 c.from_residual.ensures.1 (λ n. rw (c.in_err-token.ensures.takes n) refl)

pub returns-in_err-at : goal.returns-in_err-at
unfolding g.one_element read opened
returns-in_err-at g' c = step_failed _ _ _ _ c.in_err-at.field-0.0 c.from_residual-in_err-at.ensures.1 (λ n. rw (c.in_ok-token.ensures.takes.0, c.in_err-at.ensures n) refl)

pub returns-in_err-take_symbol : goal.returns-in_err-take_symbol
unfolding g.one_element read opened
returns-in_err-take_symbol g' c = step_failed _ _ _ _ c.in_err-take_symbol.field-0.0 c.from_residual-in_err-take_symbol.ensures.1 (λ n. rw (c.in_ok-token.ensures.takes.0, c.in_ok-at.ensures.0, c.in_err-take_symbol.ensures n) refl)

pub returns-in_err-value : goal.returns-in_err-value
unfolding g.one_element read opened
returns-in_err-value g' c = step_failed _ _ _ _ c.in_err-value.field-0.0 c.from_residual-in_err-value.ensures.1 (λ n. rw (c.in_ok-token.ensures.takes.0, c.in_ok-at.ensures.0, c.in_ok-take_symbol.ensures.0, c.in_err-value.ensures n) refl)

pub returns-in_err-take_symbol-2 : goal.returns-in_err-take_symbol-2
unfolding g.one_element read opened
returns-in_err-take_symbol-2 g' c = step_failed _ _ _ _ c.in_err-take_symbol-2.field-0.0 c.from_residual-in_err-take_symbol-2.ensures.1 (λ n. rw (c.in_ok-token.ensures.takes.0, c.in_ok-at.ensures.0, c.in_ok-take_symbol.ensures.0, c.in_ok-value.ensures.0, c.in_err-take_symbol-2.ensures n) refl)

pub returns-in_err-node : goal.returns-in_err-node
returns-in_err-node g' c = step_wanting _ _ _ _ c.from_residual-in_err-node.ensures.1

pub returns : goal.returns
unfolding g.one_element read opened
returns g' c = (
  rw (c.in_ok-token.ensures.takes.0, c.in_ok-at.ensures.0, c.in_ok-take_symbol.ensures.0, c.in_ok-value.ensures.0, c.in_ok-take_symbol-2.ensures.0, c.in_ok-node.ensures) refl,
  omega (arith, c.in_ok-token.ensures.takes.1, c.in_ok-at.ensures.1, c.in_ok-take_symbol.ensures.1, c.in_ok-value.ensures.1, c.in_ok-take_symbol-2.ensures.1),
)
