use Rattle.df_lockstep.proofs.Drains.{whole_in_time}
use Rattle.df_lockstep.proofs.laws.whole_in_time.Goals as goal

pub returns : goal.returns
returns c = whole_in_time c.phases_are_runs.ensures c.drains_in_time.ensures c.realizing_for_all_is_good.ensures
