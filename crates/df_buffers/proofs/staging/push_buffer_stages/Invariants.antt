use Rattle.df_buffers.specs.Staging.{AreBufferStages}
use Rattle.df_buffers.proofs.staging.push_buffer_stages.Given as goal

abbrev pub invariant-loop-b : goal.invariant-loop-b
invariant-loop-b l = AreBufferStages l.cells l.fn.table.items l.b l.table.items
