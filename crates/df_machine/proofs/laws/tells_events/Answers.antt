use Rattle.df_machine.proofs.Told.{event_told}
use Rattle.df_machine.proofs.ToldRuns.{within_after}
use Rattle.df_machine.proofs.WellFormedRuns.{can_run}
use Rattle.df_machine.specs.Runs.{after}
use Rattle.df_machine.proofs.laws.tells_events.Goals as goal

pub returns : goal.returns
returns c = λ cells inputs choices k w. event_told cells (after cells inputs choices) k (can_run cells w) (within_after cells inputs choices)
