use Rattle.df_machine.proofs.Told.{possible_told}
use Rattle.df_machine.proofs.ToldRuns.{within_after}
use Rattle.df_machine.proofs.WellFormedRuns.{can_run}
use Rattle.df_machine.specs.Runs.{after}
use Rattle.df_machine.proofs.laws.tells_possible.Goals as goal

pub returns : goal.returns
returns c = λ cells inputs choices w. possible_told cells (after cells inputs choices) (can_run cells w) (within_after cells inputs choices)
