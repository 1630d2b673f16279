use Rattle.std.proofs.Common.{ℕ, ◌<◌}
use Rattle.df_stages.specs.Flows.{IsConservedAt}
use Rattle.df_paths.proofs.checked.is_conserved.Given as goal

abbrev pub invariant-loop-node : goal.invariant-loop-node
invariant-loop-node l = (k : ℕ) → k < l.node → IsConservedAt l.s.arcs l.flow k
