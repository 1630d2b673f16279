use Rattle.df_build_elem.proofs.Counting.{programs_count_the_same}
use Rattle.df_build_elem.proofs.laws.programs_count_the_same.Goals as goal

pub returns : goal.returns
returns c = programs_count_the_same c.gates_count_the_same.ensures c.loops_count_the_same.ensures c.terms_count_the_same.ensures
