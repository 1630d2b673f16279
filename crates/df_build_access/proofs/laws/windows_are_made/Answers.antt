use Rattle.df_build_access.proofs.WindowCells.{windows_are_made}
use Rattle.df_build_access.proofs.laws.windows_are_made.Goals as goal

pub returns : goal.returns
returns c = windows_are_made c.gates_are_made.ensures
