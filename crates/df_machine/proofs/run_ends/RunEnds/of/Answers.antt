use Rattle.std.proofs.Common.{length, ap}
use Rattle.df_cells.specs.Kinds.{limit, run_values}
use Rattle.df_machine.proofs.run_ends.RunEnds.of.Goals as goal

pub ends_of_runs-requires : goal.ends_of_runs-requires
ends_of_runs-requires c = record { short = c.requires (length (run_values c.in-Ctl.runs)) (ap limit c.in-Ctl.is) }
