use Rattle.df_build_loops.proofs.Made.{loops_are_made}
use Rattle.df_build_loops.proofs.laws.loops_are_made.Goals as goal

pub returns : goal.returns
returns c = loops_are_made c.gates_are_made.ensures
