use Rattle.std.proofs.Common.{pos, nat_abs, ◌-ℤ◌}
use Rattle.df_stages.specs.Flows.{IsDualFlow, flow_value}
use Rattle.df_cancel.proofs.Cuts.{value_limit}
use Rattle.df_cancel.proofs.cancelling.cancel_cycles.Given as goal

abbrev pub invariant-cycles : goal.invariant-cycles
invariant-cycles l = IsDualFlow l.nodes l.arcs l.flow.items

abbrev pub decreases-cycles : goal.decreases-cycles
decreases-cycles l = nat_abs (pos (value_limit l.arcs) -ℤ flow_value l.arcs l.flow.items)
