use Rattle.std.proofs.Common.{ℕ, ◌<◌, get_or}
use Rattle.df_stages.specs.Skeletons.{arc_at}
use Rattle.df_cancel.specs.Balances.{numbered}
use Rattle.df_paths.specs.Settled.{IsSettledArc}
use Rattle.df_paths.proofs.checked.are_settled.Given as goal

abbrev pub invariant-loop-i : goal.invariant-loop-i
invariant-loop-i l = (k : ℕ) → k < l.i → IsSettledArc (numbered l.stages) (arc_at l.arcs k) (get_or l.flow k 0)
