use Rattle.std.proofs.Common.{refl, arith}
use Rattle.df_forms.specs.Reading.{read}
use Rattle.df_syntax.specs.Grammar as g
use Rattle.df_cursor.specs.Reads.{opened}
use Rattle.df_grammar.proofs.Levels.{level_arms_1}
use Rattle.df_grammar.proofs.Steps.{step_failed, step_wanting}
use Rattle.df_grammar.proofs.descent.Descent.choice.Goals as goal

pub returns-in_err-token : goal.returns-in_err-token
unfolding g.choice read opened
returns-in_err-token g' c = step_failed _ _ _ _ c.in_err-token.field-0.0 c.from_residual.ensures.1 (λ n. rw (c.in_err-token.ensures.takes n) refl)

pub returns-in_err-arms : goal.returns-in_err-arms
unfolding g.choice read opened
returns-in_err-arms g' c = step_failed _ _ _ _ c.in_err-arms.field-0.0 c.from_residual-in_err-arms.ensures.1 (λ n. rw (c.in_ok-token.ensures.takes.0, c.in_err-arms.ensures n) refl)

pub returns-in_err-take_word : goal.returns-in_err-take_word
unfolding g.choice read opened
returns-in_err-take_word g' c = step_failed _ _ _ _ c.in_err-take_word.field-0.0 c.from_residual-in_err-take_word.ensures.1 (λ n. rw (c.in_ok-token.ensures.takes.0, c.in_ok-arms.ensures.0, c.in_err-take_word.ensures n) refl)

pub returns-in_err-last : goal.returns-in_err-last
unfolding g.choice read opened
returns-in_err-last g' c = step_failed _ _ _ _ c.in_err-last.field-0.0 c.from_residual-in_err-last.ensures.1 (λ n. rw (c.in_ok-token.ensures.takes.0, c.in_ok-arms.ensures.0, c.in_ok-take_word.ensures.0, level_arms_1, c.in_err-last.ensures n) refl)

pub returns-in_err-take_word-2 : goal.returns-in_err-take_word-2
unfolding g.choice read opened
returns-in_err-take_word-2 g' c = step_failed _ _ _ _ c.in_err-take_word-2.field-0.0 c.from_residual-in_err-take_word-2.ensures.1 (λ n. rw (c.in_ok-token.ensures.takes.0, c.in_ok-arms.ensures.0, c.in_ok-take_word.ensures.0, level_arms_1, c.in_ok-last.ensures.0, c.in_err-take_word-2.ensures n) refl)

pub returns-in_err-node : goal.returns-in_err-node
returns-in_err-node g' c = step_wanting _ _ _ _ c.from_residual-in_err-node.ensures.1

pub returns : goal.returns
unfolding g.choice read opened
returns g' c = (
  rw (c.in_ok-token.ensures.takes.0, c.in_ok-arms.ensures.0, c.in_ok-take_word.ensures.0, level_arms_1, c.in_ok-last.ensures.0, c.in_ok-take_word-2.ensures.0, c.in_ok-node.ensures) refl,
  omega (arith, c.in_ok-token.ensures.takes.1, c.in_ok-arms.ensures.1, c.in_ok-take_word.ensures.1, c.in_ok-last.ensures.1, c.in_ok-take_word-2.ensures.1),
)
