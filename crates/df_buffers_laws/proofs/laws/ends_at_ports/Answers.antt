use Rattle.df_buffers_laws.proofs.Arcs.{at_ports}
use Rattle.df_buffers_laws.proofs.laws.ends_at_ports.Goals as goal

pub returns : goal.returns
returns c = at_ports
