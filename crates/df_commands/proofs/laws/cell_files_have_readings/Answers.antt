use Rattle.df_commands.proofs.CellReadings.{some_cell_reading}
use Rattle.df_commands.proofs.laws.cell_files_have_readings.Goals as goal

pub returns : goal.returns
returns c version text = some_cell_reading c.refuses_all_bad.ensures version text (c.is_read_or_wrong.ensures version text)
