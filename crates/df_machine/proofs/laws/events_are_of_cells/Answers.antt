use Rattle.df_machine.proofs.Apart.{event_placed}
use Rattle.df_machine.proofs.SoundRuns.{sound_after}
use Rattle.df_machine.proofs.WellFormedRuns.{can_run}
use Rattle.df_machine.specs.Runs.{after}
use Rattle.df_machine.proofs.laws.events_are_of_cells.Goals as goal

pub returns : goal.returns
returns c = λ cells inputs choices k event w is. event_placed cells (after cells inputs choices) k event (can_run cells w) (sound_after cells inputs choices (can_run cells w)) is
