use Rattle.std.proofs.Common.{refl, arith}
use Rattle.df_forms.specs.Reading.{read}
use Rattle.df_syntax.specs.Grammar as g
use Rattle.df_cursor.specs.Reads.{opened}
use Rattle.df_grammar.proofs.Levels.{level_bound_1, level_bounds_1}
use Rattle.df_grammar.proofs.Steps.{step_failed, step_wanting}
use Rattle.df_grammar.proofs.descent.Descent.all_indices.Goals as goal

pub returns-in_err-token : goal.returns-in_err-token
unfolding g.all_indices read opened
returns-in_err-token g' c = step_failed _ _ _ _ c.in_err-token.field-0.0 c.from_residual.ensures.1 (λ n. rw (c.in_err-token.ensures.takes n) refl)

pub returns-in_err-index : goal.returns-in_err-index
unfolding g.all_indices read opened
returns-in_err-index g' c = step_failed _ _ _ _ c.in_err-index.field-0.0 c.from_residual-in_err-index.ensures.1 (λ n. rw (c.in_ok-token.ensures.takes.0, c.in_err-index.ensures.once n) refl)

pub returns-in_err-take_word : goal.returns-in_err-take_word
unfolding g.all_indices read opened
returns-in_err-take_word g' c = step_failed _ _ _ _ c.in_err-take_word.field-0.0 c.from_residual-in_err-take_word.ensures.1 (λ n. rw (c.in_ok-token.ensures.takes.0, c.in_ok-index.ensures.once.0, c.in_err-take_word.ensures n) refl)

pub returns-in_err-low : goal.returns-in_err-low
unfolding g.all_indices read opened
returns-in_err-low g' c = step_failed _ _ _ _ c.in_err-low.field-0.0 c.from_residual-in_err-low.ensures.1 (λ n. rw (c.in_ok-token.ensures.takes.0, c.in_ok-index.ensures.once.0, c.in_ok-take_word.ensures.0, level_bound_1, c.in_err-low.ensures n) refl)

pub returns-in_err-op : goal.returns-in_err-op
unfolding g.all_indices read opened
returns-in_err-op g' c = step_failed _ _ _ _ c.in_err-op.field-0.0 c.from_residual-in_err-op.ensures.1 (λ n. rw (c.in_ok-token.ensures.takes.0, c.in_ok-index.ensures.once.0, c.in_ok-take_word.ensures.0, level_bound_1, c.in_ok-low.ensures.0, level_bounds_1, c.in_err-op.ensures n) refl)

pub returns-in_err-take_word-2 : goal.returns-in_err-take_word-2
unfolding g.all_indices read opened
returns-in_err-take_word-2 g' c = step_failed _ _ _ _ c.in_err-take_word-2.field-0.0 c.from_residual-in_err-take_word-2.ensures.1 (λ n. rw (c.in_ok-token.ensures.takes.0, c.in_ok-index.ensures.once.0, c.in_ok-take_word.ensures.0, level_bound_1, c.in_ok-low.ensures.0, level_bounds_1, c.in_ok-op.ensures.0, c.in_err-take_word-2.ensures n) refl)

pub returns-in_err-node : goal.returns-in_err-node
returns-in_err-node g' c = step_wanting _ _ _ _ c.from_residual-in_err-node.ensures.1

pub returns : goal.returns
unfolding g.all_indices read opened
returns g' c = (
  rw (c.in_ok-token.ensures.takes.0, c.in_ok-index.ensures.once.0, c.in_ok-take_word.ensures.0, level_bound_1, c.in_ok-low.ensures.0, level_bounds_1, c.in_ok-op.ensures.0, c.in_ok-take_word-2.ensures.0, c.in_ok-node.ensures, c.for_all.ensures) refl,
  omega (arith, c.in_ok-token.ensures.takes.1, c.in_ok-index.ensures.once.1, c.in_ok-take_word.ensures.1, c.in_ok-low.ensures.1, c.in_ok-op.ensures.1, c.in_ok-take_word-2.ensures.1),
)
