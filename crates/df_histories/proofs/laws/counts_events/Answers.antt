use Rattle.df_histories.proofs.EventCounts.{equally_many}
use Rattle.df_machine.proofs.WellFormedRuns.{can_run}
use Rattle.df_histories.proofs.laws.counts_events.Goals as goal

pub returns : goal.returns
returns c = λ cells inputs ks js w same. equally_many cells inputs ks js (can_run cells w) same
