use Rattle.std.proofs.Common.{suc, refl, ◌∙◌, arith}
use Rattle.df_forms.specs.Reading.{read}
use Rattle.df_syntax.specs.Grammar as g
use Rattle.df_cursor.specs.Reads.{opened}
use Rattle.df_grammar.proofs.Levels.{plain_basic_type}
use Rattle.df_grammar.proofs.Steps.{step_failed}
use Rattle.df_grammar.proofs.descent.Descent.of_basic.Goals as goal

pub returns-in_err-open_symbol : goal.returns-in_err-open_symbol
unfolding g.of_basic read opened
returns-in_err-open_symbol g' c = step_failed _ _ _ _ c.in_err-open_symbol.field-0.0 c.from_residual.ensures.1 (λ n. rw (c.in_err-open_symbol.ensures.takes n) refl)

pub returns-in_err-basic : goal.returns-in_err-basic
unfolding g.of_basic read opened
returns-in_err-basic g' c =
    step_failed _ _ _ _ c.in_err-basic.field-0.0 c.from_residual-in_err-basic.ensures.1
    (λ n. rw (c.in_ok-open_symbol.ensures.takes.0, plain_basic_type c.args.self.now.depth (suc c.args.level) c.open_symbol.new.self.rest.now ∙ c.in_err-basic.ensures n) refl)

pub returns-in_err-take_symbol : goal.returns-in_err-take_symbol
unfolding g.of_basic read opened
returns-in_err-take_symbol g' c =
    step_failed _ _ _ _ c.in_err-take_symbol.field-0.0 c.from_residual-in_err-take_symbol.ensures.1
    (λ n. rw (c.in_ok-open_symbol.ensures.takes.0, plain_basic_type c.args.self.now.depth (suc c.args.level) c.open_symbol.new.self.rest.now ∙ c.in_ok-basic.ensures.0, c.in_err-take_symbol.ensures n) refl)

pub returns : goal.returns
unfolding g.of_basic read opened
returns g' c = (
  rw (c.in_ok-open_symbol.ensures.takes.0, plain_basic_type c.args.self.now.depth (suc c.args.level) c.open_symbol.new.self.rest.now ∙ c.in_ok-basic.ensures.0, c.in_ok-take_symbol.ensures.0) refl,
  omega (arith, c.in_ok-open_symbol.ensures.takes.1, c.in_ok-basic.ensures.1, c.in_ok-take_symbol.ensures.1),
)
