use Rattle.std.proofs.Common.{◌≡◌, ◌≤◌, [], ◌∷◌, length}
use Rattle.df_forms.specs.Reading.{collect}
use Rattle.df_syntax.specs.declared.symbol.Symbol.TheVariants as s
use Rattle.df_syntax.specs.TokenClasses.{class, symbol_code}
use Rattle.df_syntax.specs.Grammar as g
use Rattle.df_syntax.specs.Reading.{reads}
use Rattle.df_grammar.specs.Parts as p
use Rattle.df_grammar.proofs.descent.Descent.results.Given as goal

abbrev pub invariant-parts : goal.invariant-parts
invariant-parts g' v = record {
  read : reads v.self.depth 2 g.results v.fn.tokens.rest.now ≡ collect class (reads v.self.depth 2 p.next_type) (symbol_code s.Comma ∷ []) v.all v.tokens.rest.now;
  shorter : length v.tokens.rest.now ≤ length v.fn.tokens.rest.now;
}

abbrev pub decreases-parts : goal.decreases-parts
decreases-parts g' v = length v.tokens.rest.now
