use Rattle.std.proofs.Common.{refl, arith}
use Rattle.df_forms.specs.Reading.{read}
use Rattle.df_syntax.specs.Grammar as g
use Rattle.df_cursor.specs.Reads.{opened}
use Rattle.df_grammar.proofs.Levels.{level_two_place_op_0}
use Rattle.df_grammar.proofs.Steps.{step_failed, step_wanting}
use Rattle.df_grammar.proofs.descent.Descent.two_place.Goals as goal

pub returns-in_err-token : goal.returns-in_err-token
unfolding g.two_place read opened
returns-in_err-token g' c = step_failed _ _ _ _ c.in_err-token.field-0.0 c.from_residual.ensures.1 (λ n. rw (c.in_err-token.ensures n) refl)

pub returns-in_err-open_symbol : goal.returns-in_err-open_symbol
unfolding g.two_place read opened
returns-in_err-open_symbol g' c = step_failed _ _ _ _ c.in_err-open_symbol.field-0.0 c.from_residual-in_err-open_symbol.ensures.1 (λ n. rw (c.in_ok-token.ensures.0, level_two_place_op_0, c.in_err-open_symbol.ensures.takes n) refl)

pub returns-in_err-left : goal.returns-in_err-left
unfolding g.two_place read opened
returns-in_err-left g' c = step_failed _ _ _ _ c.in_err-left.field-0.0 c.from_residual-in_err-left.ensures.1 (λ n. rw (c.in_ok-token.ensures.0, level_two_place_op_0, c.in_ok-open_symbol.ensures.takes.0, c.in_err-left.ensures n) refl)

pub returns-in_err-take_symbol : goal.returns-in_err-take_symbol
unfolding g.two_place read opened
returns-in_err-take_symbol g' c = step_failed _ _ _ _ c.in_err-take_symbol.field-0.0 c.from_residual-in_err-take_symbol.ensures.1 (λ n. rw (c.in_ok-token.ensures.0, level_two_place_op_0, c.in_ok-open_symbol.ensures.takes.0, c.in_ok-left.ensures.0, c.in_err-take_symbol.ensures n) refl)

pub returns-in_err-right : goal.returns-in_err-right
unfolding g.two_place read opened
returns-in_err-right g' c = step_failed _ _ _ _ c.in_err-right.field-0.0 c.from_residual-in_err-right.ensures.1 (λ n. rw (c.in_ok-token.ensures.0, level_two_place_op_0, c.in_ok-open_symbol.ensures.takes.0, c.in_ok-left.ensures.0, c.in_ok-take_symbol.ensures.0, c.in_err-right.ensures n) refl)

pub returns-in_err-take_symbol-2 : goal.returns-in_err-take_symbol-2
unfolding g.two_place read opened
returns-in_err-take_symbol-2 g' c = step_failed _ _ _ _ c.in_err-take_symbol-2.field-0.0 c.from_residual-in_err-take_symbol-2.ensures.1 (λ n. rw (c.in_ok-token.ensures.0, level_two_place_op_0, c.in_ok-open_symbol.ensures.takes.0, c.in_ok-left.ensures.0, c.in_ok-take_symbol.ensures.0, c.in_ok-right.ensures.0, c.in_err-take_symbol-2.ensures n) refl)

pub returns-in_err-node : goal.returns-in_err-node
returns-in_err-node g' c = step_wanting _ _ _ _ c.from_residual-in_err-node.ensures.1

pub returns : goal.returns
unfolding g.two_place read opened
returns g' c = (
  rw (c.in_ok-token.ensures.0, level_two_place_op_0, c.in_ok-open_symbol.ensures.takes.0, c.in_ok-left.ensures.0, c.in_ok-take_symbol.ensures.0, c.in_ok-right.ensures.0, c.in_ok-take_symbol-2.ensures.0, c.in_ok-node.ensures) refl,
  omega (arith, c.in_ok-token.ensures.1, c.in_ok-open_symbol.ensures.takes.1, c.in_ok-left.ensures.1, c.in_ok-take_symbol.ensures.1, c.in_ok-right.ensures.1, c.in_ok-take_symbol-2.ensures.1),
)
