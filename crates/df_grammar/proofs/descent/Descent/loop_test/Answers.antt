use Rattle.std.proofs.Common.{refl, arith}
use Rattle.df_forms.specs.Reading.{read}
use Rattle.df_cursor.specs.Reads.{opened}
use Rattle.df_grammar.specs.Parts as p
use Rattle.df_grammar.proofs.Steps.{step_failed, step_last, behind_twice}
use Rattle.df_grammar.proofs.descent.Descent.loop_test.Goals as goal

pub returns-in_err-take_word-clause-reads : goal.returns-in_err-take_word-clause-reads
unfolding p.loop_test read opened
returns-in_err-take_word-clause-reads g' c = step_failed _ _ _ _ c.in_err-take_word.field-0.0 c.from_residual.ensures.1 (λ n. rw (c.in_err-take_word.ensures n) refl)

pub returns-in_err-open_word-clause-reads : goal.returns-in_err-open_word-clause-reads
unfolding p.loop_test read opened
returns-in_err-open_word-clause-reads g' c = step_failed _ _ _ _ c.in_err-open_word.field-0.0 c.from_residual-in_err-open_word.ensures.1 (λ n. rw (c.in_ok-take_word.ensures.0, c.in_err-open_word.ensures.takes n) refl)

pub returns-clause-reads : goal.returns-clause-reads
unfolding p.loop_test read opened
returns-clause-reads g' c =
    step_last _ _ _ _ _ c.again.result (rw (c.in_ok-take_word.ensures.0, c.in_ok-open_word.ensures.takes.0) (behind_twice _ _ _))
    (omega (arith, c.in_ok-take_word.ensures.1, c.in_ok-open_word.ensures.takes.1)) c.again.ensures
