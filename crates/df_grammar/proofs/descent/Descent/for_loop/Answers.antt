use Rattle.std.proofs.Common.{refl, arith}
use Rattle.df_forms.specs.Reading.{read}
use Rattle.df_cursor.specs.Reads.{opened}
use Rattle.df_grammar.proofs.Levels.{level_definitions_1}
use Rattle.df_grammar.proofs.Loops.{loop_parts, level_loop_test_1, level_loop_turn_2}
use Rattle.df_grammar.proofs.Steps.{step_failed, step_wanting}
use Rattle.df_grammar.proofs.descent.Descent.for_loop.Goals as goal

pub returns-in_err-token : goal.returns-in_err-token
unfolding read opened
returns-in_err-token g' c = step_failed _ _ _ _ c.in_err-token.field-0.0 c.from_residual.ensures.1 (λ n. rw (loop_parts, c.in_err-token.ensures.takes n) refl)

pub returns-in_err-definitions : goal.returns-in_err-definitions
unfolding read opened
returns-in_err-definitions g' c = step_failed _ _ _ _ c.in_err-definitions.field-0.0 c.from_residual-in_err-definitions.ensures.1 (λ n. rw (loop_parts, c.in_ok-token.ensures.takes.0, c.in_err-definitions.ensures n) refl)

pub returns-in_err-test : goal.returns-in_err-test
unfolding read opened
returns-in_err-test g' c = step_failed _ _ _ _ c.in_err-test.field-0.0 c.from_residual-in_err-test.ensures.1 (λ n. rw (loop_parts, c.in_ok-token.ensures.takes.0, c.in_ok-definitions.ensures.0, level_definitions_1, c.in_err-test.ensures.reads n) refl)

pub returns-in_err-assigns : goal.returns-in_err-assigns
unfolding read opened
returns-in_err-assigns g' c =
    step_failed _ _ _ _ c.in_err-assigns.field-0.0 c.from_residual-in_err-assigns.ensures.1
    (λ n. rw (loop_parts, c.in_ok-token.ensures.takes.0, c.in_ok-definitions.ensures.0, level_definitions_1, c.in_ok-test.ensures.reads.0, level_loop_test_1, c.in_err-assigns.ensures n) refl)

pub returns-in_err-last : goal.returns-in_err-last
unfolding read opened
returns-in_err-last g' c =
    step_failed _ _ _ _ c.in_err-last.field-0.0 c.from_residual-in_err-last.ensures.1
    (λ n. rw (loop_parts, c.in_ok-token.ensures.takes.0, c.in_ok-definitions.ensures.0, level_definitions_1, c.in_ok-test.ensures.reads.0, level_loop_test_1, c.in_ok-assigns.ensures.0, level_loop_turn_2, c.in_err-last.ensures n) refl)

pub returns-in_err-node : goal.returns-in_err-node
returns-in_err-node g' c = step_wanting _ _ _ _ c.from_residual-in_err-node.ensures.1

pub returns : goal.returns
unfolding read opened
returns g' c = (
  rw (loop_parts, c.in_ok-token.ensures.takes.0, c.in_ok-definitions.ensures.0, level_definitions_1, c.in_ok-test.ensures.reads.0, level_loop_test_1, c.in_ok-assigns.ensures.0, level_loop_turn_2, c.in_ok-last.ensures.0, c.in_ok-node.ensures) refl,
  omega (arith, c.in_ok-token.ensures.takes.1, c.in_ok-definitions.ensures.1, c.in_ok-test.ensures.reads.1, c.in_ok-assigns.ensures.1, c.in_ok-last.ensures.1),
)
