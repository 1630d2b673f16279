use Rattle.std.proofs.Common.{refl, arith}
use Rattle.df_forms.specs.Reading.{read}
use Rattle.df_cursor.specs.Reads.{opened}
use Rattle.df_grammar.proofs.Levels.{level_bound_1}
use Rattle.df_grammar.proofs.Signatures.{function_parts, level_signature_1}
use Rattle.df_grammar.proofs.Steps.{step_failed}
use Rattle.df_grammar.proofs.descent.Descent.function.Goals as goal

pub returns-in_err-take_word : goal.returns-in_err-take_word
unfolding read opened
returns-in_err-take_word g' c = step_failed _ _ _ _ c.in_err-take_word.field-0.0 c.from_residual.ensures.1 (λ n. rw (function_parts, c.in_err-take_word.ensures n) refl)

pub returns-in_err-name : goal.returns-in_err-name
unfolding read opened
returns-in_err-name g' c = step_failed _ _ _ _ c.in_err-name.field-0.0 c.from_residual-in_err-name.ensures.1 (λ n. rw (function_parts, c.in_ok-take_word.ensures.0, c.in_err-name.ensures.once n) refl)

pub returns-in_err-parameters : goal.returns-in_err-parameters
unfolding read opened
returns-in_err-parameters g' c = step_failed _ _ _ _ c.in_err-parameters.field-0.0 c.from_residual-in_err-parameters.ensures.1 (λ n. rw (function_parts, c.in_ok-take_word.ensures.0, c.in_ok-name.ensures.once.0, level_bound_1, c.in_err-parameters.ensures n) refl)

pub returns-in_err-values : goal.returns-in_err-values
unfolding read opened
returns-in_err-values g' c = step_failed _ _ _ _ c.in_err-values.field-0.0 c.from_residual-in_err-values.ensures.1 (λ n. rw (function_parts, c.in_ok-take_word.ensures.0, c.in_ok-name.ensures.once.0, level_bound_1, c.in_ok-parameters.ensures.0, level_signature_1, c.in_err-values.ensures n) refl)

pub returns-in_err-take_word-2 : goal.returns-in_err-take_word-2
unfolding read opened
returns-in_err-take_word-2 g' c = step_failed _ _ _ _ c.in_err-take_word-2.field-0.0 c.from_residual-in_err-take_word-2.ensures.1 (λ n. rw (function_parts, c.in_ok-take_word.ensures.0, c.in_ok-name.ensures.once.0, level_bound_1, c.in_ok-parameters.ensures.0, level_signature_1, c.in_ok-values.ensures.0, c.in_err-take_word-2.ensures n) refl)

pub returns : goal.returns
unfolding read opened
returns g' c = (
  rw (function_parts, c.in_ok-take_word.ensures.0, c.in_ok-name.ensures.once.0, level_bound_1, c.in_ok-parameters.ensures.0, level_signature_1, c.in_ok-values.ensures.0, c.in_ok-take_word-2.ensures.0) refl,
  omega (arith, c.in_ok-take_word.ensures.1, c.in_ok-name.ensures.once.1, c.in_ok-parameters.ensures.1, c.in_ok-values.ensures.1, c.in_ok-take_word-2.ensures.1),
)
