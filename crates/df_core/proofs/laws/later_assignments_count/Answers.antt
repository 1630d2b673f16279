use Rattle.df_core.proofs.Rows.{assigned_row}
use Rattle.df_core.proofs.laws.later_assignments_count.Goals as goal

pub returns : goal.returns
returns c = assigned_row
