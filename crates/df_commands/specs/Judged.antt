-- What the steps that read and judge give, against the verdict.
use Rattle.std.specs.Prelude.{◌≡◌, ◌⊎◌, ℕ, List, Bool, IsTrue, Result, Ok, Err, IsErrOf}
use Rattle.df_io.specs.Told.{Holds}
use Rattle.df_io.specs.Faults.{Faults, Rises}
use Rattle.df_commands.specs.Commands.{Order}
use Rattle.df_commands.specs.Compiled.{MayDo}
use Rattle.df_commands.specs.Plans.{effect_of}
use Rattle.df_commands.specs.Verdicts.{Verdict, Absent, Refused, Accepted, Task, Judges}
use Rattle.df_commands.specs.declared.plan.Plan.{Plan}
use Rattle.df_commands.specs.declared.stop.Stop.{Stop}
use Rattle.df_commands.specs.declared.stop.Stop.TheVariants as stop

-- What was read is given, or its reading says why not. Want of memory is free, and a fault of reading has a clause of its own.
abbrev pub GivesRead : {X Y : Type 0} → (X → Y) → Result X Stop → Result Y Verdict → Type 0
GivesRead meant (Ok x) read = read ≡ Ok (meant x)
GivesRead meant (Err (stop.Refused line)) read = read ≡ Err (Refused line)
GivesRead meant (Err stop.ReadFault) read = Unit {0}
GivesRead meant (Err stop.Memory) read = Unit {0}

-- a fault of reading was counted, or the files tell that one isn't there
abbrev pub HasReadingCause : {X Y : Type 0} → Bool → Faults → Faults → Result X Stop → Result Y Verdict → Type 0
HasReadingCause tells old new result read =
    IsErrOf result stop.ReadFault → Rises old.read new.read ⊎ (IsTrue tells × (read ≡ Err Absent))

-- the same, of a whole command
abbrev pub HasAbsenceCause : {X : Type 0} → Bool → Faults → Faults → Result X Stop → Order → Holds → Type 0
HasAbsenceCause tells old new result order holds =
    IsErrOf result stop.ReadFault → Rises old.read new.read ⊎ (IsTrue tells × Judges order holds Absent)

-- A refusal is a verdict in the sense of J. Want of memory is free, and a fault of reading has a clause of its own.
abbrev pub StopsAs : (Verdict → Type 0) → Stop → Type 0
StopsAs J (stop.Refused line) = J (Refused line)
StopsAs J stop.ReadFault = Unit {0}
StopsAs J stop.Memory = Unit {0}

-- what the code found asks for this task in the sense of J, or says why not
abbrev pub Finds : {X : Type 0} → (X → Task) → (Verdict → Type 0) → Result X Stop → Type 0
Finds asks J (Ok x) = J (Accepted (asks x))
Finds asks J (Err why) = StopsAs J why

-- a task is accepted in the sense of J, and the plan is what may be done for it
pub record IsSettled (J : Verdict → Type 0) (plan : Plan) : Type 0 where
  pub task : Task
  pub judged : J (Accepted task)
  pub does : MayDo task (effect_of plan)

abbrev pub Settles : (Verdict → Type 0) → Result Plan Stop → Type 0
Settles J (Ok plan) = IsSettled J plan
Settles J (Err why) = StopsAs J why

-- the meaning of a text that was judged, or the line of its refusal
abbrev pub GivesMeaning : {X Y : Type 0} → (X → Y) → Result X Stop → (Result Y (List ℕ) → Type 0) → Type 0
GivesMeaning meant (Ok x) Reads = Reads (Ok (meant x))
GivesMeaning meant (Err (stop.Refused line)) Reads = Reads (Err line)
GivesMeaning meant (Err stop.ReadFault) Reads = ⊥
GivesMeaning meant (Err stop.Memory) Reads = Unit {0}
