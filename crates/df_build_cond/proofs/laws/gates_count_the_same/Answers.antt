use Rattle.df_build_cond.proofs.Counted.{gates_count_the_same}
use Rattle.df_build_cond.proofs.laws.gates_count_the_same.Goals as goal

pub returns : goal.returns
returns c = gates_count_the_same
