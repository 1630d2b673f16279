use Rattle.std.proofs.Common.{refl, arith}
use Rattle.df_forms.specs.Reading.{read}
use Rattle.df_syntax.specs.Grammar as g
use Rattle.df_cursor.specs.Reads.{opened}
use Rattle.df_grammar.proofs.Levels.{level_tested_0}
use Rattle.df_grammar.proofs.Steps.{step_failed, step_wanting}
use Rattle.df_grammar.proofs.descent.Descent.test_of.Goals as goal

pub returns-in_err-token : goal.returns-in_err-token
unfolding g.test_of read opened
returns-in_err-token g' c = step_failed _ _ _ _ c.in_err-token.field-0.0 c.from_residual.ensures.1 (λ n. rw (c.in_err-token.ensures n) refl)

pub returns-in_err-test : goal.returns-in_err-test
unfolding g.test_of read opened
returns-in_err-test g' c = step_failed _ _ _ _ c.in_err-test.field-0.0 c.from_residual-in_err-test.ensures.1 (λ n. rw (c.in_ok-token.ensures.0, c.in_err-test.ensures n) refl)

pub returns-in_err-open_symbol : goal.returns-in_err-open_symbol
unfolding g.test_of read opened
returns-in_err-open_symbol g' c = step_failed _ _ _ _ c.in_err-open_symbol.field-0.0 c.from_residual-in_err-open_symbol.ensures.1 (λ n. rw (c.in_ok-token.ensures.0, c.in_ok-test.ensures.0, level_tested_0, c.in_err-open_symbol.ensures.takes n) refl)

pub returns-in_err-of : goal.returns-in_err-of
unfolding g.test_of read opened
returns-in_err-of g' c = step_failed _ _ _ _ c.in_err-of.field-0.0 c.from_residual-in_err-of.ensures.1 (λ n. rw (c.in_ok-token.ensures.0, c.in_ok-test.ensures.0, level_tested_0, c.in_ok-open_symbol.ensures.takes.0, c.in_err-of.ensures n) refl)

pub returns-in_err-take_symbol : goal.returns-in_err-take_symbol
unfolding g.test_of read opened
returns-in_err-take_symbol g' c = step_failed _ _ _ _ c.in_err-take_symbol.field-0.0 c.from_residual-in_err-take_symbol.ensures.1 (λ n. rw (c.in_ok-token.ensures.0, c.in_ok-test.ensures.0, level_tested_0, c.in_ok-open_symbol.ensures.takes.0, c.in_ok-of.ensures.0, c.in_err-take_symbol.ensures n) refl)

pub returns-in_err-node : goal.returns-in_err-node
returns-in_err-node g' c = step_wanting _ _ _ _ c.from_residual-in_err-node.ensures.1

pub returns : goal.returns
unfolding g.test_of read opened
returns g' c = (
  rw (c.in_ok-token.ensures.0, c.in_ok-test.ensures.0, level_tested_0, c.in_ok-open_symbol.ensures.takes.0, c.in_ok-of.ensures.0, c.in_ok-take_symbol.ensures.0, c.in_ok-node.ensures) refl,
  omega (arith, c.in_ok-token.ensures.1, c.in_ok-test.ensures.1, c.in_ok-open_symbol.ensures.takes.1, c.in_ok-of.ensures.1, c.in_ok-take_symbol.ensures.1),
)
