use Rattle.std.proofs.Common.{refl, sym, ◌∙◌}
use Rattle.df_forms.specs.Reading.{read}
use Rattle.df_syntax.specs.Grammar as g
use Rattle.df_grammar.proofs.Steps.{step_failed}
use Rattle.df_grammar.proofs.descent.Descent.comparison.Goals as goal

pub returns-in_err-take_symbol : goal.returns-in_err-take_symbol
unfolding g.comparison read
returns-in_err-take_symbol g' c = step_failed _ _ _ _ c.in_err-take_symbol.field-0.0 c.from_residual.ensures.1 (λ n. rw (sym c.sees_symbol.ensures ∙ c.if-sees_symbol.true, c.in_err-take_symbol.ensures n) refl)

pub returns-in_ok-take_symbol : goal.returns-in_ok-take_symbol
unfolding g.comparison read
returns-in_ok-take_symbol g' c = (rw (sym c.sees_symbol.ensures ∙ c.if-sees_symbol.true, c.in_ok-take_symbol.ensures.0) refl, c.in_ok-take_symbol.ensures.1)

pub returns-in_err-take_symbol-2 : goal.returns-in_err-take_symbol-2
unfolding g.comparison read
returns-in_err-take_symbol-2 g' c = step_failed _ _ _ _ c.in_err-take_symbol-2.field-0.0 c.from_residual-in_err-take_symbol-2.ensures.1 (λ n. rw (sym c.sees_symbol.ensures ∙ c.if-sees_symbol.false, sym c.sees_symbol-else-sees_symbol.ensures ∙ c.if-sees_symbol-2.true, c.in_err-take_symbol-2.ensures n) refl)

pub returns-in_ok-take_symbol-2 : goal.returns-in_ok-take_symbol-2
unfolding g.comparison read
returns-in_ok-take_symbol-2 g' c = (rw (sym c.sees_symbol.ensures ∙ c.if-sees_symbol.false, sym c.sees_symbol-else-sees_symbol.ensures ∙ c.if-sees_symbol-2.true, c.in_ok-take_symbol-2.ensures.0) refl, c.in_ok-take_symbol-2.ensures.1)

pub returns-in_err-take_symbol-3 : goal.returns-in_err-take_symbol-3
unfolding g.comparison read
returns-in_err-take_symbol-3 g' c = step_failed _ _ _ _ c.in_err-take_symbol-3.field-0.0 c.from_residual-in_err-take_symbol-3.ensures.1 (λ n. rw (sym c.sees_symbol.ensures ∙ c.if-sees_symbol.false, sym c.sees_symbol-else-sees_symbol.ensures ∙ c.if-sees_symbol-2.false, sym c.sees_symbol-else-sees_symbol-2.ensures ∙ c.if-sees_symbol-3.true, c.in_err-take_symbol-3.ensures n) refl)

pub returns-in_ok-take_symbol-3 : goal.returns-in_ok-take_symbol-3
unfolding g.comparison read
returns-in_ok-take_symbol-3 g' c = (rw (sym c.sees_symbol.ensures ∙ c.if-sees_symbol.false, sym c.sees_symbol-else-sees_symbol.ensures ∙ c.if-sees_symbol-2.false, sym c.sees_symbol-else-sees_symbol-2.ensures ∙ c.if-sees_symbol-3.true, c.in_ok-take_symbol-3.ensures.0) refl, c.in_ok-take_symbol-3.ensures.1)

pub returns-in_err-take_symbol-4 : goal.returns-in_err-take_symbol-4
unfolding g.comparison read
returns-in_err-take_symbol-4 g' c = step_failed _ _ _ _ c.in_err-take_symbol-4.field-0.0 c.from_residual-in_err-take_symbol-4.ensures.1 (λ n. rw (sym c.sees_symbol.ensures ∙ c.if-sees_symbol.false, sym c.sees_symbol-else-sees_symbol.ensures ∙ c.if-sees_symbol-2.false, sym c.sees_symbol-else-sees_symbol-2.ensures ∙ c.if-sees_symbol-3.false, sym c.sees_symbol-else-sees_symbol-3.ensures ∙ c.if-sees_symbol-4.true, c.in_err-take_symbol-4.ensures n) refl)

pub returns-in_ok-take_symbol-4 : goal.returns-in_ok-take_symbol-4
unfolding g.comparison read
returns-in_ok-take_symbol-4 g' c = (rw (sym c.sees_symbol.ensures ∙ c.if-sees_symbol.false, sym c.sees_symbol-else-sees_symbol.ensures ∙ c.if-sees_symbol-2.false, sym c.sees_symbol-else-sees_symbol-2.ensures ∙ c.if-sees_symbol-3.false, sym c.sees_symbol-else-sees_symbol-3.ensures ∙ c.if-sees_symbol-4.true, c.in_ok-take_symbol-4.ensures.0) refl, c.in_ok-take_symbol-4.ensures.1)

pub returns-in_err-take_symbol-5 : goal.returns-in_err-take_symbol-5
unfolding g.comparison read
returns-in_err-take_symbol-5 g' c = step_failed _ _ _ _ c.in_err-take_symbol-5.field-0.0 c.from_residual-in_err-take_symbol-5.ensures.1 (λ n. rw (sym c.sees_symbol.ensures ∙ c.if-sees_symbol.false, sym c.sees_symbol-else-sees_symbol.ensures ∙ c.if-sees_symbol-2.false, sym c.sees_symbol-else-sees_symbol-2.ensures ∙ c.if-sees_symbol-3.false, sym c.sees_symbol-else-sees_symbol-3.ensures ∙ c.if-sees_symbol-4.false, sym c.sees_symbol-else-sees_symbol-4.ensures ∙ c.if-sees_symbol-5.true, c.in_err-take_symbol-5.ensures n) refl)

pub returns-in_ok-take_symbol-5 : goal.returns-in_ok-take_symbol-5
unfolding g.comparison read
returns-in_ok-take_symbol-5 g' c = (rw (sym c.sees_symbol.ensures ∙ c.if-sees_symbol.false, sym c.sees_symbol-else-sees_symbol.ensures ∙ c.if-sees_symbol-2.false, sym c.sees_symbol-else-sees_symbol-2.ensures ∙ c.if-sees_symbol-3.false, sym c.sees_symbol-else-sees_symbol-3.ensures ∙ c.if-sees_symbol-4.false, sym c.sees_symbol-else-sees_symbol-4.ensures ∙ c.if-sees_symbol-5.true, c.in_ok-take_symbol-5.ensures.0) refl, c.in_ok-take_symbol-5.ensures.1)

pub returns-in_err-take_symbol-6 : goal.returns-in_err-take_symbol-6
unfolding g.comparison read
returns-in_err-take_symbol-6 g' c = step_failed _ _ _ _ c.in_err-take_symbol-6.field-0.0 c.from_residual-in_err-take_symbol-6.ensures.1 (λ n. rw (sym c.sees_symbol.ensures ∙ c.if-sees_symbol.false, sym c.sees_symbol-else-sees_symbol.ensures ∙ c.if-sees_symbol-2.false, sym c.sees_symbol-else-sees_symbol-2.ensures ∙ c.if-sees_symbol-3.false, sym c.sees_symbol-else-sees_symbol-3.ensures ∙ c.if-sees_symbol-4.false, sym c.sees_symbol-else-sees_symbol-4.ensures ∙ c.if-sees_symbol-5.false, c.in_err-take_symbol-6.ensures n) refl)

pub returns-in_ok-take_symbol-6 : goal.returns-in_ok-take_symbol-6
unfolding g.comparison read
returns-in_ok-take_symbol-6 g' c = (rw (sym c.sees_symbol.ensures ∙ c.if-sees_symbol.false, sym c.sees_symbol-else-sees_symbol.ensures ∙ c.if-sees_symbol-2.false, sym c.sees_symbol-else-sees_symbol-2.ensures ∙ c.if-sees_symbol-3.false, sym c.sees_symbol-else-sees_symbol-3.ensures ∙ c.if-sees_symbol-4.false, sym c.sees_symbol-else-sees_symbol-4.ensures ∙ c.if-sees_symbol-5.false, c.in_ok-take_symbol-6.ensures.0) refl, c.in_ok-take_symbol-6.ensures.1)
