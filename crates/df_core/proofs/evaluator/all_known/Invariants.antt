use Rattle.std.proofs.Common.{◌≡◌, take, map}
use Rattle.df_partial.specs.Members.{known}
use Rattle.df_core.proofs.evaluator.all_known.Given as goal

abbrev pub invariant-loop-value : goal.invariant-loop-value
invariant-loop-value l = l.members ≡ map known (take l.value-index l.values)
