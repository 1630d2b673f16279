use Rattle.df_build_cond.proofs.Arcs.{gates_have_arcs}
use Rattle.df_build_cond.proofs.laws.gates_have_arcs.Goals as goal

pub returns : goal.returns
returns c = gates_have_arcs
