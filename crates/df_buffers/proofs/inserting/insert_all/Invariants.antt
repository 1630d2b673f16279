use Rattle.std.proofs.Common.{◌≡◌, take}
use Rattle.df_buffers_laws.specs.Insertions.{inserted}
use Rattle.df_buffers.proofs.inserting.insert_all.Given as goal

abbrev pub invariant-loop-port : goal.invariant-loop-port
invariant-loop-port l = l.builder ≡ inserted l.fn.builder (take l.port-index l.ports)
