use Rattle.df_buffers.proofs.NodeTable.{StagesSoFar}
use Rattle.df_buffers.proofs.staging.node_stages.Given as goal

abbrev pub invariant-loop-c : goal.invariant-loop-c
invariant-loop-c l = StagesSoFar l.cells l.stages l.c l.next l.table.items
