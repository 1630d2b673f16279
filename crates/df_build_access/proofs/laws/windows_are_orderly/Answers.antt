use Rattle.df_build_access.proofs.WindowCells.{windows_are_orderly}
use Rattle.df_build_access.proofs.laws.windows_are_orderly.Goals as goal

pub returns : goal.returns
returns c = windows_are_orderly c.gates_have_arcs.ensures c.gates_are_orderly.ensures
