use Rattle.df_commands.proofs.DualReadings.{one_dual_reading}
use Rattle.df_commands.proofs.laws.dual_files_have_one_reading.Goals as goal

pub returns : goal.returns
returns c = one_dual_reading c.tells_one_flow.ensures c.has_one_wrong_line.ensures c.fails_once.ensures c.certified_dont_fail.ensures
