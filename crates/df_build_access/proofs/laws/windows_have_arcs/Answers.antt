use Rattle.df_build_access.proofs.WindowCells.{windows_have_arcs}
use Rattle.df_build_access.proofs.laws.windows_have_arcs.Goals as goal

pub returns : goal.returns
returns c = windows_have_arcs c.gates_have_arcs.ensures
