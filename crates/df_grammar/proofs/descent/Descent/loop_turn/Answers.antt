use Rattle.std.proofs.Common.{refl, arith}
use Rattle.df_forms.specs.Reading.{read}
use Rattle.df_cursor.specs.Reads.{opened}
use Rattle.df_grammar.specs.Parts as p
use Rattle.df_grammar.proofs.Steps.{step_failed}
use Rattle.df_grammar.proofs.descent.Descent.loop_turn.Goals as goal

pub returns-in_err-take_word : goal.returns-in_err-take_word
unfolding p.loop_turn read opened
returns-in_err-take_word g' c = step_failed _ _ _ _ c.in_err-take_word.field-0.0 c.from_residual.ensures.1 (λ n. rw (c.in_err-take_word.ensures n) refl)

pub returns-in_err-take_word-2 : goal.returns-in_err-take_word-2
unfolding p.loop_turn read opened
returns-in_err-take_word-2 g' c = step_failed _ _ _ _ c.in_err-take_word-2.field-0.0 c.from_residual-in_err-take_word-2.ensures.1 (λ n. rw (c.in_ok-take_word.ensures.0, c.in_err-take_word-2.ensures n) refl)

pub returns-in_err-assigns : goal.returns-in_err-assigns
unfolding p.loop_turn read opened
returns-in_err-assigns g' c = step_failed _ _ _ _ c.in_err-assigns.field-0.0 c.from_residual-in_err-assigns.ensures.1 (λ n. rw (c.in_ok-take_word.ensures.0, c.in_ok-take_word-2.ensures.0, c.in_err-assigns.ensures n) refl)

pub returns-in_err-take_word-3 : goal.returns-in_err-take_word-3
unfolding p.loop_turn read opened
returns-in_err-take_word-3 g' c = step_failed _ _ _ _ c.in_err-take_word-3.field-0.0 c.from_residual-in_err-take_word-3.ensures.1 (λ n. rw (c.in_ok-take_word.ensures.0, c.in_ok-take_word-2.ensures.0, c.in_ok-assigns.ensures.0, c.in_err-take_word-3.ensures n) refl)

pub returns : goal.returns
unfolding p.loop_turn read opened
returns g' c = (
  rw (c.in_ok-take_word.ensures.0, c.in_ok-take_word-2.ensures.0, c.in_ok-assigns.ensures.0, c.in_ok-take_word-3.ensures.0) refl,
  omega (arith, c.in_ok-take_word.ensures.1, c.in_ok-take_word-2.ensures.1, c.in_ok-assigns.ensures.1, c.in_ok-take_word-3.ensures.1),
)
