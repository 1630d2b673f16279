use Rattle.std.proofs.Common.{below_more, refl}
use Rattle.df_stages.specs.Flows.{IsConservedAt}
use Rattle.df_paths.proofs.checked.is_conserved.Goals as goal

pub loop-node-preserved : goal.loop-node-preserved
loop-node-preserved c = below_more (IsConservedAt c.args.s.now.arcs c.args.flow.now) c.loop-node.node c.loop-node.invariant (c.if-not-is_conserved_at.ensures.0 refl)
