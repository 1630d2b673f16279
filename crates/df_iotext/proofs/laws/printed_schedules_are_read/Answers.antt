use Rattle.df_iotext.proofs.PrintedSchedules.{printed_is_read}
use Rattle.df_iotext.proofs.laws.printed_schedules_are_read.Goals as goal

pub returns : goal.returns
returns c schedule small few short = printed_is_read schedule small few short
