use Rattle.df_lockstep.proofs.Runs.{phases_run}
use Rattle.df_lockstep.proofs.laws.phases_are_runs.Goals as goal

pub returns : goal.returns
returns c = phases_run c.joins_runs.ensures
