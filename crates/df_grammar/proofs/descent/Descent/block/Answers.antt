use Rattle.std.proofs.Common.{refl, arith}
use Rattle.df_forms.specs.Reading.{read}
use Rattle.df_syntax.specs.Grammar as g
use Rattle.df_cursor.specs.Reads.{opened}
use Rattle.df_grammar.proofs.Levels.{level_definitions_1}
use Rattle.df_grammar.proofs.Steps.{step_failed, step_wanting}
use Rattle.df_grammar.proofs.descent.Descent.block.Goals as goal

pub returns-in_err-token : goal.returns-in_err-token
unfolding g.block read opened
returns-in_err-token g' c = step_failed _ _ _ _ c.in_err-token.field-0.0 c.from_residual.ensures.1 (λ n. rw (c.in_err-token.ensures.takes n) refl)

pub returns-in_err-definitions : goal.returns-in_err-definitions
unfolding g.block read opened
returns-in_err-definitions g' c = step_failed _ _ _ _ c.in_err-definitions.field-0.0 c.from_residual-in_err-definitions.ensures.1 (λ n. rw (c.in_ok-token.ensures.takes.0, c.in_err-definitions.ensures n) refl)

pub returns-in_err-take_word : goal.returns-in_err-take_word
unfolding g.block read opened
returns-in_err-take_word g' c = step_failed _ _ _ _ c.in_err-take_word.field-0.0 c.from_residual-in_err-take_word.ensures.1 (λ n. rw (c.in_ok-token.ensures.takes.0, c.in_ok-definitions.ensures.0, c.in_err-take_word.ensures n) refl)

pub returns-in_err-values : goal.returns-in_err-values
unfolding g.block read opened
returns-in_err-values g' c = step_failed _ _ _ _ c.in_err-values.field-0.0 c.from_residual-in_err-values.ensures.1 (λ n. rw (c.in_ok-token.ensures.takes.0, c.in_ok-definitions.ensures.0, c.in_ok-take_word.ensures.0, level_definitions_1, c.in_err-values.ensures n) refl)

pub returns-in_err-take_word-2 : goal.returns-in_err-take_word-2
unfolding g.block read opened
returns-in_err-take_word-2 g' c = step_failed _ _ _ _ c.in_err-take_word-2.field-0.0 c.from_residual-in_err-take_word-2.ensures.1 (λ n. rw (c.in_ok-token.ensures.takes.0, c.in_ok-definitions.ensures.0, c.in_ok-take_word.ensures.0, level_definitions_1, c.in_ok-values.ensures.0, c.in_err-take_word-2.ensures n) refl)

pub returns-in_err-node : goal.returns-in_err-node
returns-in_err-node g' c = step_wanting _ _ _ _ c.from_residual-in_err-node.ensures.1

pub returns : goal.returns
unfolding g.block read opened
returns g' c = (
  rw (c.in_ok-token.ensures.takes.0, c.in_ok-definitions.ensures.0, c.in_ok-take_word.ensures.0, level_definitions_1, c.in_ok-values.ensures.0, c.in_ok-take_word-2.ensures.0, c.in_ok-node.ensures) refl,
  omega (arith, c.in_ok-token.ensures.takes.1, c.in_ok-definitions.ensures.1, c.in_ok-take_word.ensures.1, c.in_ok-values.ensures.1, c.in_ok-take_word-2.ensures.1),
)
