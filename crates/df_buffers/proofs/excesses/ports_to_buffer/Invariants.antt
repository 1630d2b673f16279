use Rattle.std.proofs.Common.{◌≡◌, take}
use Rattle.df_cancel.specs.Balances.{numbered}
use Rattle.df_buffers_laws.specs.Insertions.{ports_to_buffer}
use Rattle.df_buffers.proofs.excesses.ports_to_buffer.Given as goal

abbrev pub invariant-loop-arc : goal.invariant-loop-arc
invariant-loop-arc l = l.ports.items ≡ ports_to_buffer (take l.arc-index l.arcs) (numbered l.stages)
