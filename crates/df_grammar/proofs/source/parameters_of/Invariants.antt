use Rattle.std.proofs.Common.{◌≡◌, map, take}
use Rattle.df_syntax.specs.Grammar as g
use Rattle.df_grammar.proofs.source.parameters_of.Given as goal

abbrev pub invariant-loop-name : goal.invariant-loop-name
invariant-loop-name l = l.all ≡ map (g.parameter_of l.sort) (take l.name-index l.names)
