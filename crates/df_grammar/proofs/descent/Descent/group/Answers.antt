use Rattle.std.proofs.Common.{refl}
use Rattle.df_forms.specs.Reading.{read}
use Rattle.df_syntax.specs.Grammar as g
use Rattle.df_cursor.specs.Reads.{opened}
use Rattle.df_grammar.proofs.Levels.{level_names_2}
use Rattle.df_grammar.proofs.Steps.{step_failed, step_wanting}
use Rattle.df_grammar.proofs.descent.Descent.group.Goals as goal

pub returns-in_err-names : goal.returns-in_err-names
unfolding g.group read opened
returns-in_err-names g' c = step_failed _ _ _ _ c.in_err-names.field-0.0 c.from_residual.ensures.1 (λ n. rw (c.in_err-names.ensures n) refl)

pub returns-in_err-take_symbol : goal.returns-in_err-take_symbol
unfolding g.group read opened
returns-in_err-take_symbol g' c = step_failed _ _ _ _ c.in_err-take_symbol.field-0.0 c.from_residual-in_err-take_symbol.ensures.1 (λ n. rw (c.in_ok-names.ensures.0, c.in_err-take_symbol.ensures n) refl)

pub returns-in_err-sort : goal.returns-in_err-sort
unfolding g.group read opened
returns-in_err-sort g' c = step_failed _ _ _ _ c.in_err-sort.field-0.0 c.from_residual-in_err-sort.ensures.1 (λ n. rw (c.in_ok-names.ensures.0, c.in_ok-take_symbol.ensures.0, level_names_2, c.in_err-sort.ensures n) refl)

pub returns-in_err-parameters_of : goal.returns-in_err-parameters_of
returns-in_err-parameters_of g' c = step_wanting _ _ _ _ c.from_residual-in_err-parameters_of.ensures.1
