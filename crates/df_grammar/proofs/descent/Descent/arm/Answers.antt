use Rattle.std.proofs.Common.{refl, arith}
use Rattle.df_forms.specs.Reading.{read}
use Rattle.df_syntax.specs.Grammar as g
use Rattle.df_cursor.specs.Reads.{opened}
use Rattle.df_grammar.proofs.Steps.{step_failed}
use Rattle.df_grammar.proofs.descent.Descent.arm.Goals as goal

pub returns-in_err-test : goal.returns-in_err-test
unfolding g.arm read opened
returns-in_err-test g' c = step_failed _ _ _ _ c.in_err-test.field-0.0 c.from_residual.ensures.1 (λ n. rw (c.in_err-test.ensures n) refl)

pub returns-in_err-take_word : goal.returns-in_err-take_word
unfolding g.arm read opened
returns-in_err-take_word g' c = step_failed _ _ _ _ c.in_err-take_word.field-0.0 c.from_residual-in_err-take_word.ensures.1 (λ n. rw (c.in_ok-test.ensures.0, c.in_err-take_word.ensures n) refl)

pub returns-in_err-value : goal.returns-in_err-value
unfolding g.arm read opened
returns-in_err-value g' c = step_failed _ _ _ _ c.in_err-value.field-0.0 c.from_residual-in_err-value.ensures.1 (λ n. rw (c.in_ok-test.ensures.0, c.in_ok-take_word.ensures.0, c.in_err-value.ensures n) refl)

pub returns : goal.returns
unfolding g.arm read opened
returns g' c = (
  rw (c.in_ok-test.ensures.0, c.in_ok-take_word.ensures.0, c.in_ok-value.ensures.0) refl,
  omega (arith, c.in_ok-test.ensures.1, c.in_ok-take_word.ensures.1, c.in_ok-value.ensures.1),
)
