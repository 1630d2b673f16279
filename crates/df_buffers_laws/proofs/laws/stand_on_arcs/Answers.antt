use Rattle.df_buffers_laws.proofs.Together.{buffers_stand}
use Rattle.df_buffers_laws.proofs.laws.stand_on_arcs.Goals as goal

pub returns : goal.returns
returns c = buffers_stand
