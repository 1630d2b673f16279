use Rattle.df_core.proofs.Rows.{below_row}
use Rattle.df_core.proofs.laws.names_are_assigned_at_once.Goals as goal

pub returns : goal.returns
returns c = below_row
