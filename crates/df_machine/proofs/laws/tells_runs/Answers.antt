use Rattle.df_machine.specs.Runs.{after}
use Rattle.df_machine.proofs.ToldRuns.{after_told, events_told, within_after}
use Rattle.df_machine.proofs.WellFormedRuns.{can_run}
use Rattle.df_machine.proofs.laws.tells_runs.Goals as goal

pub returns : goal.returns
returns c = λ cells inputs choices more w. (
  after_told cells inputs choices more (can_run cells w),
  events_told cells inputs (after cells inputs choices) more (can_run cells w) (within_after cells inputs choices),
)
