use Rattle.df_machine.proofs.OnePlace.{one_place}
use Rattle.df_machine.proofs.SoundRuns.{sound_after}
use Rattle.df_machine.proofs.WellFormedRuns.{can_run}
use Rattle.df_machine.specs.Runs.{after}
use Rattle.df_machine.proofs.laws.events_are_apart.Goals as goal

pub returns : goal.returns
returns c = λ cells inputs choices j k e f w. one_place cells (after cells inputs choices) j k e f (can_run cells w) (sound_after cells inputs choices (can_run cells w))
