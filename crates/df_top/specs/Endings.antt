-- With which status a call ends, and what stands then.
use Rattle.std.specs.Prelude.{ℕ, ◌≡◌, ◌⊎◌, List, ◌++◌, take, true, false, Option, Some, None}
use Rattle.df_io.specs.Told.{Holds}
use Rattle.df_commands.specs.Lines.{usage}
use Rattle.df_commands.specs.Commands.{Order}
use Rattle.df_commands.specs.Verdicts.{Verdict, Absent, Refused, Accepted, Judges}
use Rattle.df_commands.specs.Effects.{Effect, over, PartOf}
use Rattle.df_commands.specs.Compiled.{MayDo}
use Rattle.df_top.specs.declared.status.Status.{Status}
use Rattle.df_top.specs.declared.status.Status.TheVariants as status

-- what the files hold, and what was written to the sink
pub record World : Type 0 where
  pub holds : Holds
  pub written : List ℕ

-- Below, `Told` says that the sink tells what was written to it: only then is anything said of that.

-- no file is touched and nothing is written
abbrev pub Same : Type 0 → World → World → Type 0
Same Told old new = (new.holds ≡ old.holds) × (Told → new.written ≡ old.written)

-- no file is touched, and the text is written
abbrev pub Says : List ℕ → Type 0 → World → World → Type 0
Says text Told old new = (new.holds ≡ old.holds) × (Told → new.written ≡ old.written ++ text)

-- no file is touched, and a prefix of the text is written
abbrev pub SaysPrefix : List ℕ → Type 0 → World → World → Type 0
SaysPrefix text Told old new = (new.holds ≡ old.holds) × (Told → (n : ℕ) × (new.written ≡ old.written ++ take n text))

-- all texts are whole, and no other file is touched
abbrev pub IsWhole : Effect → Type 0 → World → World → Type 0
IsWhole effect Told old new = (new.holds ≡ over effect.files old.holds) × (Told → new.written ≡ old.written ++ effect.text)

-- the files in order up to a prefix of one, or all of them and a prefix of the text
abbrev pub IsPart : Effect → Type 0 → World → World → Type 0
IsPart effect Told old new =
    (PartOf effect.files old.holds new.holds × (Told → new.written ≡ old.written))
    ⊎ ((new.holds ≡ over effect.files old.holds) × (Told → (n : ℕ) × (new.written ≡ old.written ++ take n effect.text)))

-- What stands for words that are a command, for each verdict and each status. A status that a verdict doesn't have can't come.
abbrev pub Stands : Verdict → Status → Type 0 → World → World → Type 0
Stands (Accepted task) status.Done Told old new = (effect : Effect) × MayDo task effect × (effect.is_done ≡ true) × IsWhole effect Told old new
Stands (Accepted task) status.Stopped Told old new = (effect : Effect) × MayDo task effect × (effect.is_done ≡ false) × IsWhole effect Told old new
Stands (Accepted task) status.ReadFault Told old new = Same Told old new
Stands (Accepted task) status.WriteFault Told old new = (effect : Effect) × MayDo task effect × IsPart effect Told old new
Stands (Accepted task) status.Memory Told old new = Same Told old new ⊎ ((effect : Effect) × MayDo task effect × IsPart effect Told old new)
Stands (Accepted task) status.Usage Told old new = ⊥
Stands (Accepted task) status.Refused Told old new = ⊥
Stands (Refused line) status.Refused Told old new = Says line Told old new
Stands (Refused line) status.ReadFault Told old new = Same Told old new
Stands (Refused line) status.WriteFault Told old new = SaysPrefix line Told old new
Stands (Refused line) status.Memory Told old new = SaysPrefix line Told old new
Stands (Refused line) status.Done Told old new = ⊥
Stands (Refused line) status.Stopped Told old new = ⊥
Stands (Refused line) status.Usage Told old new = ⊥
Stands Absent status.ReadFault Told old new = Same Told old new
Stands Absent status.Memory Told old new = Same Told old new
Stands Absent status.Done Told old new = ⊥
Stands Absent status.Stopped Told old new = ⊥
Stands Absent status.Usage Told old new = ⊥
Stands Absent status.Refused Told old new = ⊥
Stands Absent status.WriteFault Told old new = ⊥

-- what stands for words that are no command
abbrev pub StandsUsage : Status → Type 0 → World → World → Type 0
StandsUsage status.Usage Told old new = Says usage Told old new
StandsUsage status.WriteFault Told old new = SaysPrefix usage Told old new
StandsUsage status.Memory Told old new = SaysPrefix usage Told old new
StandsUsage status.Done Told old new = ⊥
StandsUsage status.Stopped Told old new = ⊥
StandsUsage status.Refused Told old new = ⊥
StandsUsage status.ReadFault Told old new = ⊥

-- how a call with these words ends, whatever the verdict on them is
abbrev pub Ends : Option Order → Status → Type 0 → World → World → Type 0
Ends None ending Told old new = StandsUsage ending Told old new
Ends (Some order) ending Told old new = (v : Verdict) → Judges order old.holds v → Stands v ending Told old new

-- Where a command was done, stopped or refused, there is a verdict, and what stands is what stands for it.
pub record IsWitnessed (order : Order) (ending : Status) (Told : Type 0) (old new : World) : Type 0 where
  pub verdict : Verdict
  pub judged : Judges order old.holds verdict
  pub stands : Stands verdict ending Told old new

abbrev pub HasWitness : Option Order → Status → Type 0 → World → World → Type 0
HasWitness (Some order) status.Done Told old new = IsWitnessed order status.Done Told old new
HasWitness (Some order) status.Stopped Told old new = IsWitnessed order status.Stopped Told old new
HasWitness (Some order) status.Refused Told old new = IsWitnessed order status.Refused Told old new
HasWitness words _ Told old new = Unit {0}

-- What needs no telling by the files: which status words have that are no command, and which they alone have.
abbrev pub FitsWords : Option Order → Status → Type 0
FitsWords None status.Usage = Unit {0}
FitsWords None status.WriteFault = Unit {0}
FitsWords None status.Memory = Unit {0}
FitsWords None status.Done = ⊥
FitsWords None status.Stopped = ⊥
FitsWords None status.Refused = ⊥
FitsWords None status.ReadFault = ⊥
FitsWords (Some order) status.Usage = ⊥
FitsWords (Some order) _ = Unit {0}

-- What needs no telling by the files of what is written: the usage line, and nothing after a fault of reading.
abbrev pub Writes : Option Order → Status → List ℕ → List ℕ → Type 0
Writes None status.Usage old new = new ≡ old ++ usage
Writes None status.WriteFault old new = (n : ℕ) × (new ≡ old ++ take n usage)
Writes None status.Memory old new = (n : ℕ) × (new ≡ old ++ take n usage)
Writes words status.ReadFault old new = new ≡ old
Writes words _ old new = Unit {0}
