use Rattle.df_machine.proofs.ToldRuns.{short_told}
use Rattle.df_machine.proofs.laws.tells_short_runs.Goals as goal

pub returns : goal.returns
returns c = short_told
