use Rattle.df_buffers_laws.proofs.NodeCounts.{counted_nodes}
use Rattle.df_buffers_laws.proofs.laws.counts_nodes.Goals as goal

pub returns : goal.returns
returns c = counted_nodes
