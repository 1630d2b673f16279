use Rattle.df_commands.proofs.DualReadings.{some_dual_reading}
use Rattle.df_commands.proofs.laws.dual_files_have_readings.Goals as goal

pub returns : goal.returns
returns c = some_dual_reading c.others_have_wrong_lines.ensures c.others_fail.ensures
