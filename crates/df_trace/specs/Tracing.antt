-- One event of a run that is traced, and what is written.
use Rattle.std.specs.Prelude.{◌≡◌, ℕ, List, [], ◌∷◌, ◌++◌, Some}
use Rattle.df_machine.specs.declared.packets.Event.{Event}
use Rattle.df_machine.specs.Events.{chosen_event}
use Rattle.df_machine.specs.Runs.{after}
use Rattle.df_machine.specs.Seen.{Loaded}
use Rattle.df_histories.specs.Reached.{IsAfter}

-- the next choice was taken, and this event happened, whatever choices led there
pub record Happens (old new : Loaded) (before left : List ℕ) (event : Event) : Type 0 where
  pub choice : ℕ
  pub taken : before ≡ choice ∷ left
  pub cells : new.cells ≡ old.cells
  pub inputs : new.inputs ≡ old.inputs
  pub happens : (choices : List ℕ) → IsAfter old choices → chosen_event old.cells (after old.cells old.inputs choices) choice ≡ Some event
  pub led : (choices : List ℕ) → IsAfter old choices → IsAfter new (choices ++ choice ∷ [])

-- the front of what waited was written
pub record IsMoved (waited waits old new : List ℕ) : Type 0 where
  pub front : List ℕ
  pub parts : waited ≡ front ++ waits
  pub written : new ≡ old ++ front
