use Rattle.df_ends.proofs.Good.{endless_runs_go_on}
use Rattle.df_ends.proofs.laws.endless_runs_go_on.Goals as goal

pub returns : goal.returns
returns c = endless_runs_go_on
