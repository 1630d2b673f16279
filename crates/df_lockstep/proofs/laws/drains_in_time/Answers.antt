use Rattle.df_lockstep.proofs.Drains.{drains_in_time}
use Rattle.df_lockstep.proofs.laws.drains_in_time.Goals as goal

pub returns : goal.returns
returns c = drains_in_time (record {
  keeps = c.phases_keep_ranks.ensures;
  heights_rise = c.heights_rise.ensures;
  heights_stay = c.heights_stay.ensures;
}) c.phases_are_runs.ensures c.follows_members.ensures
