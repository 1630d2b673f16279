use Rattle.df_build_access.proofs.Meetings.{windows_meet}
use Rattle.df_build_access.proofs.laws.windows_meet.Goals as goal

pub returns : goal.returns
returns c = windows_meet
