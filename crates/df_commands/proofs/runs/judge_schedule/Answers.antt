use Rattle.std.proofs.Common.{ap, Err}
use Rattle.df_commands.proofs.runs.judge_schedule.Goals as goal

pub returns-in_ok-refused_at-in-Err-BadSchedule : goal.returns-in_ok-refused_at-in-Err-BadSchedule
returns-in_ok-refused_at-in-Err-BadSchedule c = (
  c.in-Err-BadSchedule.word,
  c.in_ok-refused_at-in-Err-BadSchedule.ensures,
  c.in-Err-BadSchedule.ensures.refused c.in-Err-BadSchedule.word (ap Err c.in-Err-BadSchedule.field-0-is),
)
