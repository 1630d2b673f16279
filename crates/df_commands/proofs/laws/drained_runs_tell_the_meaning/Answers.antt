use Rattle.df_commands.proofs.Good.{drained_tell}
use Rattle.df_commands.proofs.laws.drained_runs_tell_the_meaning.Goals as goal

pub returns : goal.returns
returns c = drained_tell
