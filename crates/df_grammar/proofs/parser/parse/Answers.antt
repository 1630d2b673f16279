use Rattle.std.proofs.Common.{◌≡◌, ◌∙◌, sym, subst, List, Ok, Err}
use Rattle.df_forms.specs.Reading.{Found, Failed}
use Rattle.df_syntax.specs.declared.token.Token.{Token}
use Rattle.df_syntax.specs.Grammar as g
use Rattle.df_syntax.specs.Reading.{reads}
use Rattle.df_syntax.proofs.SourceBounds.{well_built}
use Rattle.df_cursor.specs.Reads.{fault}
use Rattle.df_grammar.specs.Answers.{IsAnswered}
use Rattle.df_grammar.proofs.Answered.{found, found_more, failed, exact, nothing_left, something_left}
use Rattle.df_grammar.proofs.parser.parse.Goals as goal

answered_ok : (c : goal.Then-is_empty) → IsAnswered c.args.tokens.now (Ok c.in-Ok.tree)
answered_ok c = found c.args.tokens.now c.in-Ok.tree (nothing_left c.args.tokens.now.tokens c.in-Ok.tree c.as_slice.result.now c.source.new.tokens.rest.now c.as_slice.ensures c.in-Ok.ensures.0 (sym c.is_empty.ensures ∙ c.if-is_empty.true))

pub returns-then-is_empty-clause-answered : goal.returns-then-is_empty-clause-answered
returns-then-is_empty-clause-answered c = answered_ok c

pub returns-then-is_empty-clause-built : goal.returns-then-is_empty-clause-built
returns-then-is_empty-clause-built c = (let source = answered_ok c in well_built 64 c.args.tokens.now.tokens c.in-Ok.tree source.parses source.shallow)

pub returns-then-is_empty-clause-exact : goal.returns-then-is_empty-clause-exact
returns-then-is_empty-clause-exact c = exact c.args.tokens.now (Ok c.in-Ok.tree) (answered_ok c)

pub returns-else-is_empty-clause-answered : goal.returns-else-is_empty-clause-answered
returns-else-is_empty-clause-answered c =
    rw (c.refused.ensures, c.end.ensures) (found_more c.args.tokens.now c.in-Ok.tree c.source.new.tokens.rest.now (something_left c.source.new.tokens.rest.now (sym c.is_empty.ensures ∙ c.if-is_empty.false))
    (subst (λ (z : List Token). reads 65 1 g.source z ≡ Found c.in-Ok.tree c.source.new.tokens.rest.now) c.as_slice.ensures c.in-Ok.ensures.0))

pub returns-else-is_empty-clause-exact : goal.returns-else-is_empty-clause-exact
returns-else-is_empty-clause-exact c = exact c.args.tokens.now (Err c.refused.result) (returns-else-is_empty-clause-answered c)

pub returns-in-Err-clause-answered : goal.returns-in-Err-clause-answered
returns-in-Err-clause-answered c =
    rw (c.refused-in-Err.ensures, c.end-in-Err.ensures) (failed c.args.tokens.now c.in-Err.why c.source.new.tokens.rest.now
    (λ n. subst (λ (z : List Token). reads 65 1 g.source z ≡ Failed (fault c.in-Err.why) c.source.new.tokens.rest.now) c.as_slice.ensures (c.in-Err.ensures n)))

pub returns-in-Err-clause-exact : goal.returns-in-Err-clause-exact
returns-in-Err-clause-exact c = exact c.args.tokens.now (Err c.refused-in-Err.result) (returns-in-Err-clause-answered c)
