use Rattle.df_build_access.proofs.Meetings.{picks_are_windows}
use Rattle.df_build_access.proofs.laws.picks_are_windows.Goals as goal

pub returns : goal.returns
returns c = picks_are_windows
