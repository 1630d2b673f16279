use Rattle.std.proofs.Common.{refl}
use Rattle.df_forms.specs.Reading.{read}
use Rattle.df_grammar.specs.Parts as p
use Rattle.df_cursor.specs.Reads.{opened}
use Rattle.df_grammar.proofs.Steps.{step_failed, step_last, behind_last}
use Rattle.df_grammar.proofs.descent.Descent.next_type.Goals as goal

pub returns-in_err-take_symbol : goal.returns-in_err-take_symbol
unfolding p.next_type read opened
returns-in_err-take_symbol g' c = step_failed _ _ _ _ c.in_err-take_symbol.field-0.0 c.from_residual.ensures.1 (λ n. rw (c.in_err-take_symbol.ensures n) refl)

pub returns : goal.returns
unfolding p.next_type read opened
returns g' c = step_last _ _ _ _ _ c.sort.result (rw c.in_ok-take_symbol.ensures.0 (behind_last _ _)) c.in_ok-take_symbol.ensures.1 c.sort.ensures
