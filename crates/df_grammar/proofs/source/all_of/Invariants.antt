use Rattle.std.proofs.Common.{◌≡◌, take}
use Rattle.df_syntax.specs.Grammar as g
use Rattle.df_grammar.proofs.source.all_of.Given as goal

abbrev pub invariant-loop-group : goal.invariant-loop-group
invariant-loop-group l = l.all ≡ g.all_of (take l.group-index l.groups)
