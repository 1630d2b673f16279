use Rattle.std.proofs.Common.{◌≡◌, map, take}
use Rattle.df_flattened.specs.Flattened.{number_of}
use Rattle.df_inline.proofs.inliner.numbers_of.Given as goal

abbrev pub invariant-loop-outcome : goal.invariant-loop-outcome
invariant-loop-outcome l = l.numbers ≡ map (number_of l.parameters) (take l.outcome-index l.results)
