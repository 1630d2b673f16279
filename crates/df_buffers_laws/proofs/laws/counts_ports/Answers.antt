use Rattle.df_buffers_laws.proofs.PortSums.{ports_counted}
use Rattle.df_buffers_laws.proofs.laws.counts_ports.Goals as goal

pub returns : goal.returns
returns c = ports_counted
