use Rattle.std.proofs.Common.{refl, sym, ◌∙◌}
use Rattle.df_forms.specs.Reading.{read}
use Rattle.df_syntax.specs.Grammar as g
use Rattle.df_cursor.specs.Reads.{plain}
use Rattle.df_grammar.proofs.Steps.{step_failed}
use Rattle.df_grammar.proofs.descent.Descent.basic_type.Goals as goal

pub returns-in_err-take_word : goal.returns-in_err-take_word
unfolding plain read g.basic_type
returns-in_err-take_word g' c = step_failed _ _ _ _ c.in_err-take_word.field-0.0 c.from_residual.ensures.1 (λ n. rw (sym c.sees_word.ensures ∙ c.if-sees_word.true, c.in_err-take_word.ensures n) refl)

pub returns-in_ok-take_word : goal.returns-in_ok-take_word
unfolding plain read g.basic_type
returns-in_ok-take_word g' c = (rw (sym c.sees_word.ensures ∙ c.if-sees_word.true, c.in_ok-take_word.ensures.0) refl, c.in_ok-take_word.ensures.1)

pub returns-in_err-take_word-2 : goal.returns-in_err-take_word-2
unfolding plain read g.basic_type
returns-in_err-take_word-2 g' c = step_failed _ _ _ _ c.in_err-take_word-2.field-0.0 c.from_residual-in_err-take_word-2.ensures.1 (λ n. rw (sym c.sees_word.ensures ∙ c.if-sees_word.false, c.in_err-take_word-2.ensures n) refl)

pub returns-in_ok-take_word-2 : goal.returns-in_ok-take_word-2
unfolding plain read g.basic_type
returns-in_ok-take_word-2 g' c = (rw (sym c.sees_word.ensures ∙ c.if-sees_word.false, c.in_ok-take_word-2.ensures.0) refl, c.in_ok-take_word-2.ensures.1)
