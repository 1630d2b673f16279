use Rattle.std.proofs.Common.{ap}
use Rattle.df_cells.specs.Cells.{from_cell}
use Rattle.df_wellformed.proofs.loads.goes_round.Goals as goal

pub get-requires : goal.get-requires
get-requires c = c.requires c.in-Loaded.producer (ap from_cell c.in-Loaded.is)
