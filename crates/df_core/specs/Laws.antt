-- What holds of the two meanings.
use Rattle.std.specs.Prelude.{◌≡◌, ◌≤◌, ℕ, List, map}
use Rattle.df_values.specs.declared.values.Value.{Value}
use Rattle.df_partial.specs.Members.{known, cut, AllListsStay}
use Rattle.df_core.specs.declared.flat.Flat.{Flat}
use Rattle.df_core.specs.Meaning.{flat_mean}
use Rattle.df_core.specs.Turning.{flat_members}
use Rattle.df_core.specs.Within.{AreLoopless}

-- without loops each member is known, in whatever number of turns, and it is the value that the program means
abbrev pub AreKnownWithoutLoops : Type 0
AreKnownWithoutLoops = (p : Flat) (inputs : List (List Value)) (turns : ℕ) → AreLoopless p.blocks → flat_members turns p inputs ≡ map (map known) (flat_mean p inputs)

-- so the results up to their first nothing are the whole results
abbrev pub AreWholeWithoutLoops : Type 0
AreWholeWithoutLoops = (p : Flat) (inputs : List (List Value)) (turns : ℕ) → AreLoopless p.blocks → map cut (flat_members turns p inputs) ≡ flat_mean p inputs

-- more turns change no value: in their place there may only be more values
abbrev pub StayWithMoreTurns : Type 0
StayWithMoreTurns = (p : Flat) (inputs : List (List Value)) (turns more : ℕ) → turns ≤ more → AllListsStay (flat_members turns p inputs) (flat_members more p inputs)
