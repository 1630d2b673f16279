use Rattle.std.proofs.Common.{refl, sym, ◌∙◌}
use Rattle.df_forms.specs.Reading.{read}
use Rattle.df_syntax.specs.Grammar as g
use Rattle.df_grammar.proofs.Steps.{step_failed}
use Rattle.df_grammar.proofs.descent.Descent.tested.Goals as goal

pub returns-in_err-take_word : goal.returns-in_err-take_word
unfolding g.tested read
returns-in_err-take_word g' c = step_failed _ _ _ _ c.in_err-take_word.field-0.0 c.from_residual.ensures.1 (λ n. rw (sym c.sees_word.ensures ∙ c.if-sees_word.true, c.in_err-take_word.ensures n) refl)

pub returns-in_ok-take_word : goal.returns-in_ok-take_word
unfolding g.tested read
returns-in_ok-take_word g' c = (rw (sym c.sees_word.ensures ∙ c.if-sees_word.true, c.in_ok-take_word.ensures.0) refl, c.in_ok-take_word.ensures.1)

pub returns-in_err-take_word-2 : goal.returns-in_err-take_word-2
unfolding g.tested read
returns-in_err-take_word-2 g' c = step_failed _ _ _ _ c.in_err-take_word-2.field-0.0 c.from_residual-in_err-take_word-2.ensures.1 (λ n. rw (sym c.sees_word.ensures ∙ c.if-sees_word.false, sym c.sees_word-else-sees_word.ensures ∙ c.if-sees_word-2.true, c.in_err-take_word-2.ensures n) refl)

pub returns-in_ok-take_word-2 : goal.returns-in_ok-take_word-2
unfolding g.tested read
returns-in_ok-take_word-2 g' c = (rw (sym c.sees_word.ensures ∙ c.if-sees_word.false, sym c.sees_word-else-sees_word.ensures ∙ c.if-sees_word-2.true, c.in_ok-take_word-2.ensures.0) refl, c.in_ok-take_word-2.ensures.1)

pub returns-in_err-take_word-3 : goal.returns-in_err-take_word-3
unfolding g.tested read
returns-in_err-take_word-3 g' c = step_failed _ _ _ _ c.in_err-take_word-3.field-0.0 c.from_residual-in_err-take_word-3.ensures.1 (λ n. rw (sym c.sees_word.ensures ∙ c.if-sees_word.false, sym c.sees_word-else-sees_word.ensures ∙ c.if-sees_word-2.false, sym c.sees_word-else-sees_word-2.ensures ∙ c.if-sees_word-3.true, c.in_err-take_word-3.ensures n) refl)

pub returns-in_ok-take_word-3 : goal.returns-in_ok-take_word-3
unfolding g.tested read
returns-in_ok-take_word-3 g' c = (rw (sym c.sees_word.ensures ∙ c.if-sees_word.false, sym c.sees_word-else-sees_word.ensures ∙ c.if-sees_word-2.false, sym c.sees_word-else-sees_word-2.ensures ∙ c.if-sees_word-3.true, c.in_ok-take_word-3.ensures.0) refl, c.in_ok-take_word-3.ensures.1)

pub returns-in_err-take_word-4 : goal.returns-in_err-take_word-4
unfolding g.tested read
returns-in_err-take_word-4 g' c = step_failed _ _ _ _ c.in_err-take_word-4.field-0.0 c.from_residual-in_err-take_word-4.ensures.1 (λ n. rw (sym c.sees_word.ensures ∙ c.if-sees_word.false, sym c.sees_word-else-sees_word.ensures ∙ c.if-sees_word-2.false, sym c.sees_word-else-sees_word-2.ensures ∙ c.if-sees_word-3.false, sym c.sees_word-else-sees_word-3.ensures ∙ c.if-sees_word-4.true, c.in_err-take_word-4.ensures n) refl)

pub returns-in_ok-take_word-4 : goal.returns-in_ok-take_word-4
unfolding g.tested read
returns-in_ok-take_word-4 g' c = (rw (sym c.sees_word.ensures ∙ c.if-sees_word.false, sym c.sees_word-else-sees_word.ensures ∙ c.if-sees_word-2.false, sym c.sees_word-else-sees_word-2.ensures ∙ c.if-sees_word-3.false, sym c.sees_word-else-sees_word-3.ensures ∙ c.if-sees_word-4.true, c.in_ok-take_word-4.ensures.0) refl, c.in_ok-take_word-4.ensures.1)

pub returns-in_err-take_word-5 : goal.returns-in_err-take_word-5
unfolding g.tested read
returns-in_err-take_word-5 g' c = step_failed _ _ _ _ c.in_err-take_word-5.field-0.0 c.from_residual-in_err-take_word-5.ensures.1 (λ n. rw (sym c.sees_word.ensures ∙ c.if-sees_word.false, sym c.sees_word-else-sees_word.ensures ∙ c.if-sees_word-2.false, sym c.sees_word-else-sees_word-2.ensures ∙ c.if-sees_word-3.false, sym c.sees_word-else-sees_word-3.ensures ∙ c.if-sees_word-4.false, sym c.sees_word-else-sees_word-4.ensures ∙ c.if-sees_word-5.true, c.in_err-take_word-5.ensures n) refl)

pub returns-in_ok-take_word-5 : goal.returns-in_ok-take_word-5
unfolding g.tested read
returns-in_ok-take_word-5 g' c = (rw (sym c.sees_word.ensures ∙ c.if-sees_word.false, sym c.sees_word-else-sees_word.ensures ∙ c.if-sees_word-2.false, sym c.sees_word-else-sees_word-2.ensures ∙ c.if-sees_word-3.false, sym c.sees_word-else-sees_word-3.ensures ∙ c.if-sees_word-4.false, sym c.sees_word-else-sees_word-4.ensures ∙ c.if-sees_word-5.true, c.in_ok-take_word-5.ensures.0) refl, c.in_ok-take_word-5.ensures.1)

pub returns-in_err-take_word-6 : goal.returns-in_err-take_word-6
unfolding g.tested read
returns-in_err-take_word-6 g' c = step_failed _ _ _ _ c.in_err-take_word-6.field-0.0 c.from_residual-in_err-take_word-6.ensures.1 (λ n. rw (sym c.sees_word.ensures ∙ c.if-sees_word.false, sym c.sees_word-else-sees_word.ensures ∙ c.if-sees_word-2.false, sym c.sees_word-else-sees_word-2.ensures ∙ c.if-sees_word-3.false, sym c.sees_word-else-sees_word-3.ensures ∙ c.if-sees_word-4.false, sym c.sees_word-else-sees_word-4.ensures ∙ c.if-sees_word-5.false, sym c.sees_word-else-sees_word-5.ensures ∙ c.if-sees_word-6.true, c.in_err-take_word-6.ensures n) refl)

pub returns-in_ok-take_word-6 : goal.returns-in_ok-take_word-6
unfolding g.tested read
returns-in_ok-take_word-6 g' c = (rw (sym c.sees_word.ensures ∙ c.if-sees_word.false, sym c.sees_word-else-sees_word.ensures ∙ c.if-sees_word-2.false, sym c.sees_word-else-sees_word-2.ensures ∙ c.if-sees_word-3.false, sym c.sees_word-else-sees_word-3.ensures ∙ c.if-sees_word-4.false, sym c.sees_word-else-sees_word-4.ensures ∙ c.if-sees_word-5.false, sym c.sees_word-else-sees_word-5.ensures ∙ c.if-sees_word-6.true, c.in_ok-take_word-6.ensures.0) refl, c.in_ok-take_word-6.ensures.1)

pub returns-in_err-take_word-7 : goal.returns-in_err-take_word-7
unfolding g.tested read
returns-in_err-take_word-7 g' c = step_failed _ _ _ _ c.in_err-take_word-7.field-0.0 c.from_residual-in_err-take_word-7.ensures.1 (λ n. rw (sym c.sees_word.ensures ∙ c.if-sees_word.false, sym c.sees_word-else-sees_word.ensures ∙ c.if-sees_word-2.false, sym c.sees_word-else-sees_word-2.ensures ∙ c.if-sees_word-3.false, sym c.sees_word-else-sees_word-3.ensures ∙ c.if-sees_word-4.false, sym c.sees_word-else-sees_word-4.ensures ∙ c.if-sees_word-5.false, sym c.sees_word-else-sees_word-5.ensures ∙ c.if-sees_word-6.false, c.in_err-take_word-7.ensures n) refl)

pub returns-in_ok-take_word-7 : goal.returns-in_ok-take_word-7
unfolding g.tested read
returns-in_ok-take_word-7 g' c = (rw (sym c.sees_word.ensures ∙ c.if-sees_word.false, sym c.sees_word-else-sees_word.ensures ∙ c.if-sees_word-2.false, sym c.sees_word-else-sees_word-2.ensures ∙ c.if-sees_word-3.false, sym c.sees_word-else-sees_word-3.ensures ∙ c.if-sees_word-4.false, sym c.sees_word-else-sees_word-4.ensures ∙ c.if-sees_word-5.false, sym c.sees_word-else-sees_word-5.ensures ∙ c.if-sees_word-6.false, c.in_ok-take_word-7.ensures.0) refl, c.in_ok-take_word-7.ensures.1)
