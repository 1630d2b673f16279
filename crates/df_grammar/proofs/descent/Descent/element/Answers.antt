use Rattle.std.proofs.Common.{refl, sym, ◌∙◌, arith}
use Rattle.df_forms.specs.Reading.{read}
use Rattle.df_syntax.specs.Grammar as g
use Rattle.df_grammar.proofs.Levels.{level_fold_op_1}
use Rattle.df_grammar.proofs.Steps.{step_failed}
use Rattle.df_grammar.proofs.descent.Descent.element.Goals as goal

pub returns-in_err-take_word : goal.returns-in_err-take_word
unfolding g.element read
returns-in_err-take_word g' c = step_failed _ _ _ _ c.in_err-take_word.field-0.0 c.from_residual.ensures.1 (λ n. rw (sym c.sees_word.ensures ∙ c.if-sees_word.true, c.in_err-take_word.ensures n) refl)

pub returns-in_err-again : goal.returns-in_err-again
unfolding g.element read
returns-in_err-again g' c = step_failed _ _ _ _ c.in_err-again.field-0.0 c.from_residual-in_err-again.ensures.1 (λ n. rw (sym c.sees_word.ensures ∙ c.if-sees_word.true, c.in_ok-take_word.ensures.0, c.in_err-again.ensures n) refl)

pub returns-in_ok-again : goal.returns-in_ok-again
unfolding g.element read
returns-in_ok-again g' c = (
  rw (sym c.sees_word.ensures ∙ c.if-sees_word.true, c.in_ok-take_word.ensures.0, c.in_ok-again.ensures.0) refl,
  omega (arith, c.in_ok-take_word.ensures.1, c.in_ok-again.ensures.1),
)

pub returns-in_err-take_word-2 : goal.returns-in_err-take_word-2
unfolding g.element read
returns-in_err-take_word-2 g' c = step_failed _ _ _ _ c.in_err-take_word-2.field-0.0 c.from_residual-in_err-take_word-2.ensures.1 (λ n. rw (sym c.sees_word.ensures ∙ c.if-sees_word.false, c.in_err-take_word-2.ensures n) refl)

pub returns-in_err-op : goal.returns-in_err-op
unfolding g.element read
returns-in_err-op g' c = step_failed _ _ _ _ c.in_err-op.field-0.0 c.from_residual-in_err-op.ensures.1 (λ n. rw (sym c.sees_word.ensures ∙ c.if-sees_word.false, c.in_ok-take_word-2.ensures.0, c.in_err-op.ensures n) refl)

pub returns-in_err-again-2 : goal.returns-in_err-again-2
unfolding g.element read
returns-in_err-again-2 g' c = step_failed _ _ _ _ c.in_err-again-2.field-0.0 c.from_residual-in_err-again-2.ensures.1 (λ n. rw (sym c.sees_word.ensures ∙ c.if-sees_word.false, c.in_ok-take_word-2.ensures.0, c.in_ok-op.ensures.0, level_fold_op_1, c.in_err-again-2.ensures n) refl)

pub returns-in_ok-again-2 : goal.returns-in_ok-again-2
unfolding g.element read
returns-in_ok-again-2 g' c = (
  rw (sym c.sees_word.ensures ∙ c.if-sees_word.false, c.in_ok-take_word-2.ensures.0, c.in_ok-op.ensures.0, level_fold_op_1, c.in_ok-again-2.ensures.0) refl,
  omega (arith, c.in_ok-take_word-2.ensures.1, c.in_ok-op.ensures.1, c.in_ok-again-2.ensures.1),
)
