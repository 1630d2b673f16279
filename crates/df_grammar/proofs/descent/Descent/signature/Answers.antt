use Rattle.std.proofs.Common.{refl, arith}
use Rattle.df_forms.specs.Reading.{read}
use Rattle.df_grammar.specs.Parts as p
use Rattle.df_cursor.specs.Reads.{opened}
use Rattle.df_grammar.proofs.Levels.{level_declared_2}
use Rattle.df_grammar.proofs.Steps.{step_failed}
use Rattle.df_grammar.proofs.descent.Descent.signature.Goals as goal

pub returns-in_err-open_symbol : goal.returns-in_err-open_symbol
unfolding p.signature read opened
returns-in_err-open_symbol g' c = step_failed _ _ _ _ c.in_err-open_symbol.field-0.0 c.from_residual.ensures.1 (λ n. rw (c.in_err-open_symbol.ensures.takes n) refl)

pub returns-in_err-parameters : goal.returns-in_err-parameters
unfolding p.signature read opened
returns-in_err-parameters g' c = step_failed _ _ _ _ c.in_err-parameters.field-0.0 c.from_residual-in_err-parameters.ensures.1 (λ n. rw (c.in_ok-open_symbol.ensures.takes.0, c.in_err-parameters.ensures n) refl)

pub returns-in_err-take_word : goal.returns-in_err-take_word
unfolding p.signature read opened
returns-in_err-take_word g' c = step_failed _ _ _ _ c.in_err-take_word.field-0.0 c.from_residual-in_err-take_word.ensures.1 (λ n. rw (c.in_ok-open_symbol.ensures.takes.0, c.in_ok-parameters.ensures.0, c.in_err-take_word.ensures n) refl)

pub returns-in_err-results : goal.returns-in_err-results
unfolding p.signature read opened
returns-in_err-results g' c = step_failed _ _ _ _ c.in_err-results.field-0.0 c.from_residual-in_err-results.ensures.1 (λ n. rw (c.in_ok-open_symbol.ensures.takes.0, c.in_ok-parameters.ensures.0, c.in_ok-take_word.ensures.0, level_declared_2, c.in_err-results.ensures n) refl)

pub returns-in_err-take_symbol : goal.returns-in_err-take_symbol
unfolding p.signature read opened
returns-in_err-take_symbol g' c = step_failed _ _ _ _ c.in_err-take_symbol.field-0.0 c.from_residual-in_err-take_symbol.ensures.1 (λ n. rw (c.in_ok-open_symbol.ensures.takes.0, c.in_ok-parameters.ensures.0, c.in_ok-take_word.ensures.0, level_declared_2, c.in_ok-results.ensures.0, c.in_err-take_symbol.ensures n) refl)

pub returns : goal.returns
unfolding p.signature read opened
returns g' c = (
  rw (c.in_ok-open_symbol.ensures.takes.0, c.in_ok-parameters.ensures.0, c.in_ok-take_word.ensures.0, level_declared_2, c.in_ok-results.ensures.0, c.in_ok-take_symbol.ensures.0) refl,
  omega (arith, c.in_ok-open_symbol.ensures.takes.1, c.in_ok-parameters.ensures.1, c.in_ok-take_word.ensures.1, c.in_ok-results.ensures.1, c.in_ok-take_symbol.ensures.1),
)
