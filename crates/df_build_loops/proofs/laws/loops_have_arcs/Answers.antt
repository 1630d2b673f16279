use Rattle.df_build_loops.proofs.Arcs.{loops_have_arcs}
use Rattle.df_build_loops.proofs.laws.loops_have_arcs.Goals as goal

pub returns : goal.returns
returns c = loops_have_arcs c.gates_have_arcs.ensures
