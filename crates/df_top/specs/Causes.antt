-- Why a call ends as it does: the counts of faults, and the answers where none rises.
use Rattle.std.specs.Prelude.{◌≡◌, ◌⊎◌, Option, Some, None}
use Rattle.df_io.specs.Told.{Holds}
use Rattle.df_io.specs.Faults.{Faults, SinkFaults, Counts, Rises}
use Rattle.df_commands.specs.Commands.{Order}
use Rattle.df_commands.specs.Verdicts.{Verdict, Absent, Refused, Accepted, Judges}
use Rattle.df_top.specs.declared.status.Status.{Status}
use Rattle.df_top.specs.declared.status.Status.TheVariants as status

-- a file that is to be read isn't there, and nothing is refused before it
abbrev pub IsAbsent : Option Order → Holds → Type 0
IsAbsent None holds = ⊥
IsAbsent (Some order) holds = Judges order holds Absent

-- no count falls, and where it is sure that there are no faults none rises
pub record KeepsCounts (old new : Faults) : Type 0 where
  pub read : Counts ⊥ old.read new.read old.sure new.sure
  pub write : Counts ⊥ old.write new.write old.sure new.sure

-- no count of faults rises
pub record NoFaults (old new : Faults) (out_old out_new : SinkFaults) : Type 0 where
  pub read : ¬ Rises old.read new.read
  pub write : ¬ Rises old.write new.write
  pub out : ¬ Rises out_old.count out_new.count

-- the answers to a verdict where no fault is counted
abbrev pub Answers : Verdict → Status → Type 0
Answers (Accepted task) ending = ((ending ≡ status.Done) ⊎ (ending ≡ status.Stopped)) ⊎ (ending ≡ status.Memory)
Answers (Refused line) ending = (ending ≡ status.Refused) ⊎ (ending ≡ status.Memory)
Answers Absent ending = (ending ≡ status.ReadFault) ⊎ (ending ≡ status.Memory)

abbrev pub Completes : Option Order → Holds → Status → Type 0
Completes None holds ending = (ending ≡ status.Usage) ⊎ (ending ≡ status.Memory)
Completes (Some order) holds ending = (v : Verdict) → Judges order holds v → Answers v ending
