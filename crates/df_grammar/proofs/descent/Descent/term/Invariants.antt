use Rattle.std.proofs.Common.{◌≡◌, ◌≤◌, [], ◌∷◌, length}
use Rattle.df_forms.specs.Reading.{collect}
use Rattle.df_syntax.specs.declared.symbol.Symbol.TheVariants as s
use Rattle.df_syntax.specs.TokenClasses.{class, symbol_code}
use Rattle.df_syntax.specs.Lines as l
use Rattle.df_syntax.specs.Reading.{reads}
use Rattle.df_grammar.proofs.Chains.{joined}
use Rattle.df_grammar.proofs.descent.Descent.term.Given as goal

abbrev pub invariant-links : goal.invariant-links
invariant-links g' v = record {
  read : reads v.self.depth 0 l.term v.fn.tokens.rest.now ≡ joined v.first (collect class (reads v.self.depth 0 l.factor_link) (symbol_code s.Star ∷ symbol_code s.Slash ∷ []) v.rest v.tokens.rest.now);
  shorter : length v.tokens.rest.now ≤ length v.fn.tokens.rest.now;
}

abbrev pub decreases-links : goal.decreases-links
decreases-links g' v = length v.tokens.rest.now
