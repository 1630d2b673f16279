use Rattle.std.proofs.Common.{refl, sym, ◌∙◌}
use Rattle.df_forms.specs.Reading.{read}
use Rattle.df_syntax.specs.Grammar as g
use Rattle.df_grammar.proofs.Steps.{step_failed}
use Rattle.df_grammar.proofs.descent.Descent.two_place_op.Goals as goal

pub returns-in_err-token : goal.returns-in_err-token
unfolding g.two_place_op read
returns-in_err-token g' c = step_failed _ _ _ _ c.in_err-token.field-0.0 c.from_residual.ensures.1 (λ n. rw (sym c.sees_word.ensures ∙ c.if-sees_word.true, c.in_err-token.ensures n) refl)

pub returns-in_ok-token : goal.returns-in_ok-token
unfolding g.two_place_op read
returns-in_ok-token g' c = (rw (sym c.sees_word.ensures ∙ c.if-sees_word.true, c.in_ok-token.ensures.0) refl, c.in_ok-token.ensures.1)

pub returns-in_err-token-2 : goal.returns-in_err-token-2
unfolding g.two_place_op read
returns-in_err-token-2 g' c = step_failed _ _ _ _ c.in_err-token-2.field-0.0 c.from_residual-in_err-token-2.ensures.1 (λ n. rw (sym c.sees_word.ensures ∙ c.if-sees_word.false, sym c.sees_word-else-sees_word.ensures ∙ c.if-sees_word-2.true, c.in_err-token-2.ensures n) refl)

pub returns-in_ok-token-2 : goal.returns-in_ok-token-2
unfolding g.two_place_op read
returns-in_ok-token-2 g' c = (rw (sym c.sees_word.ensures ∙ c.if-sees_word.false, sym c.sees_word-else-sees_word.ensures ∙ c.if-sees_word-2.true, c.in_ok-token-2.ensures.0) refl, c.in_ok-token-2.ensures.1)

pub returns-in_err-token-3 : goal.returns-in_err-token-3
unfolding g.two_place_op read
returns-in_err-token-3 g' c = step_failed _ _ _ _ c.in_err-token-3.field-0.0 c.from_residual-in_err-token-3.ensures.1 (λ n. rw (sym c.sees_word.ensures ∙ c.if-sees_word.false, sym c.sees_word-else-sees_word.ensures ∙ c.if-sees_word-2.false, c.in_err-token-3.ensures n) refl)

pub returns-in_ok-token-3 : goal.returns-in_ok-token-3
unfolding g.two_place_op read
returns-in_ok-token-3 g' c = (rw (sym c.sees_word.ensures ∙ c.if-sees_word.false, sym c.sees_word-else-sees_word.ensures ∙ c.if-sees_word-2.false, c.in_ok-token-3.ensures.0) refl, c.in_ok-token-3.ensures.1)
