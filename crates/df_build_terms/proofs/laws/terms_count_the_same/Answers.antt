use Rattle.df_build_terms.proofs.Counting.{terms_count_the_same}
use Rattle.df_build_terms.proofs.laws.terms_count_the_same.Goals as goal

pub returns : goal.returns
returns c = terms_count_the_same c.gates_count_the_same.ensures c.windows_count_the_same.ensures c.loops_count_the_same.ensures
