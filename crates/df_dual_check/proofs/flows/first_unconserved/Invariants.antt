use Rattle.std.proofs.Common.{ℕ, ◌<◌}
use Rattle.df_stages.specs.Flows.{IsConservedAt}
use Rattle.df_dual_check.proofs.flows.first_unconserved.Given as goal

abbrev pub invariant-loop-node : goal.invariant-loop-node
invariant-loop-node l = (k : ℕ) → k < l.node → IsConservedAt l.s.arcs l.flow k
