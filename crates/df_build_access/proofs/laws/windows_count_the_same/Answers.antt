use Rattle.df_build_access.proofs.WindowCells.{windows_count_the_same}
use Rattle.df_build_access.proofs.laws.windows_count_the_same.Goals as goal

pub returns : goal.returns
returns c = windows_count_the_same c.gates_count_the_same.ensures
