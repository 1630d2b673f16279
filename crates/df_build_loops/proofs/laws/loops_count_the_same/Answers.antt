use Rattle.df_build_loops.proofs.Counted.{loops_count_the_same}
use Rattle.df_build_loops.proofs.laws.loops_count_the_same.Goals as goal

pub returns : goal.returns
returns c = loops_count_the_same c.gates_count_the_same.ensures
