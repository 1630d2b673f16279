use Rattle.df_commands.proofs.CellReadings.{one_cell_reading}
use Rattle.df_commands.proofs.laws.cell_files_have_one_reading.Goals as goal

pub returns : goal.returns
returns c =
    one_cell_reading c.text_tells_the_cells.ensures c.has_one_first_wrong_line.ensures c.fails_once.ensures c.refuses_only_bad.ensures
