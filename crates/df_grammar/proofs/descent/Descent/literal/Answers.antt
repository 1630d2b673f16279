use Rattle.std.proofs.Common.{refl, sym, ◌∙◌}
use Rattle.df_forms.specs.Reading.{read}
use Rattle.df_syntax.specs.Grammar as g
use Rattle.df_grammar.proofs.Steps.{step_failed, step_wanting}
use Rattle.df_grammar.proofs.descent.Descent.literal.Goals as goal

pub returns-in_err-token : goal.returns-in_err-token
unfolding g.literal read
returns-in_err-token g' c = step_failed _ _ _ _ c.in_err-token.field-0.0 c.from_residual.ensures.1 (λ n. rw (sym c.sees_number.ensures ∙ c.if-sees_number.true, c.in_err-token.ensures n) refl)

pub returns-in_err-node : goal.returns-in_err-node
returns-in_err-node g' c = step_wanting _ _ _ _ c.from_residual-in_err-node.ensures.1

pub returns-in_err-token-2 : goal.returns-in_err-token-2
unfolding g.literal read
returns-in_err-token-2 g' c = step_failed _ _ _ _ c.in_err-token-2.field-0.0 c.from_residual-in_err-token-2.ensures.1 (λ n. rw (sym c.sees_number.ensures ∙ c.if-sees_number.false, sym c.sees_word.ensures ∙ c.if-sees_word.true, c.in_err-token-2.ensures n) refl)

pub returns-in_err-node-2 : goal.returns-in_err-node-2
returns-in_err-node-2 g' c = step_wanting _ _ _ _ c.from_residual-in_err-node-2.ensures.1

pub returns-in_err-token-3 : goal.returns-in_err-token-3
unfolding g.literal read
returns-in_err-token-3 g' c = step_failed _ _ _ _ c.in_err-token-3.field-0.0 c.from_residual-in_err-token-3.ensures.1 (λ n. rw (sym c.sees_number.ensures ∙ c.if-sees_number.false, sym c.sees_word.ensures ∙ c.if-sees_word.false, c.in_err-token-3.ensures n) refl)

pub returns-in_err-node-3 : goal.returns-in_err-node-3
returns-in_err-node-3 g' c = step_wanting _ _ _ _ c.from_residual-in_err-node-3.ensures.1

pub returns-in_ok-node-2 : goal.returns-in_ok-node-2
unfolding g.literal read
returns-in_ok-node-2 g' c = (rw (sym c.sees_number.ensures ∙ c.if-sees_number.false, sym c.sees_word.ensures ∙ c.if-sees_word.true, c.in_ok-token-2.ensures.0, c.in_ok-node-2.ensures) refl, c.in_ok-token-2.ensures.1)

pub returns-in_ok-node-3 : goal.returns-in_ok-node-3
unfolding g.literal read
returns-in_ok-node-3 g' c = (rw (sym c.sees_number.ensures ∙ c.if-sees_number.false, sym c.sees_word.ensures ∙ c.if-sees_word.false, c.in_ok-token-3.ensures.0, c.in_ok-node-3.ensures) refl, c.in_ok-token-3.ensures.1)
