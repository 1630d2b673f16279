use Rattle.df_lockstep.proofs.Drains.{keeps_full_rate}
use Rattle.df_lockstep.proofs.laws.keeps_full_rate.Goals as goal

pub returns : goal.returns
returns c = keeps_full_rate (record {
  keeps = c.phases_keep_ranks.ensures;
  heights_rise = c.heights_rise.ensures;
  heights_stay = c.heights_stay.ensures;
})
