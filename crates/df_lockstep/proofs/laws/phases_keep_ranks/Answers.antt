use Rattle.df_lockstep.proofs.Ranks.{keeps_ranks}
use Rattle.df_lockstep.proofs.laws.phases_keep_ranks.Goals as goal

pub returns : goal.returns
returns c = keeps_ranks c.phases_are_runs.ensures c.waits_for_lower_rank.ensures
