use Rattle.df_iotext.proofs.OneSchedule.{one_schedule_reading}
use Rattle.df_iotext.proofs.laws.schedules_have_one_reading.Goals as goal

pub returns : goal.returns
returns c text one other p q = one_schedule_reading text one other p q
