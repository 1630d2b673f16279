use Rattle.df_machine.proofs.ToldRuns.{once_per_event}
use Rattle.df_machine.proofs.laws.fires_once_per_event.Goals as goal

pub returns : goal.returns
returns c = once_per_event
