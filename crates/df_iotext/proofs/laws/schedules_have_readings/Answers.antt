use Rattle.df_iotext.proofs.SomeSchedule.{some_reading}
use Rattle.df_iotext.proofs.laws.schedules_have_readings.Goals as goal

pub returns : goal.returns
returns c text = some_reading text
