use Rattle.std.proofs.Common.{ℕ, ◌<◌}
use Rattle.df_stages.specs.Skeletons.{arc_at}
use Rattle.df_dual_check.specs.Checked.{IsBalancedAt}
use Rattle.df_dual_check.proofs.staged.first_unbalanced.Given as goal

abbrev pub invariant-loop-arc : goal.invariant-loop-arc
invariant-loop-arc l = (k : ℕ) → k < l.arc-index → IsBalancedAt l.cells (arc_at l.arcs k)
