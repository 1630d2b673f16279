use Rattle.std.proofs.Common.{◌≡◌, ◌≤◌, [], ◌∷◌, length}
use Rattle.df_forms.specs.Reading.{collect}
use Rattle.df_syntax.specs.declared.word.Reserved.TheVariants as r
use Rattle.df_syntax.specs.TokenClasses.{class, word_code}
use Rattle.df_syntax.specs.Grammar as g
use Rattle.df_syntax.specs.Reading.{reads}
use Rattle.df_grammar.specs.Parts as p
use Rattle.df_grammar.proofs.descent.Descent.arms.Given as goal

abbrev pub invariant-parts : goal.invariant-parts
invariant-parts g' v = record {
  read : reads v.self.depth 1 g.arms v.fn.tokens.rest.now ≡ collect class (reads v.self.depth 1 p.next_arm) (word_code r.ElseIf ∷ []) v.all v.tokens.rest.now;
  shorter : length v.tokens.rest.now ≤ length v.fn.tokens.rest.now;
}

abbrev pub decreases-parts : goal.decreases-parts
decreases-parts g' v = length v.tokens.rest.now
