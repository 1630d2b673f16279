use Rattle.df_members.proofs.Countdown.{countdown_meets}
use Rattle.df_members.proofs.laws.countdown_meets.Goals as goal

pub returns : goal.returns
returns c = countdown_meets
