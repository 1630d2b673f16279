-- What holds of every text.
use Rattle.std.specs.Prelude.{◌≡◌, ◌≤◌, ℕ, List, length, Result, Ok}
use Rattle.std.specs.List.{AllByRecursion}
use Rattle.df_values.specs.declared.values.Value.{Value}
use Rattle.df_cells.specs.declared.cells.InputDecl.{InputDecl}
use Rattle.df_cells.specs.declared.schedules.Schedule.{Schedule}
use Rattle.df_iotext.specs.Printed.{schedule_text}
use Rattle.df_iotext.specs.Schedules.{ReadsSchedule}
use Rattle.df_iotext.specs.Inputs.{ReadsInputs, HaveOwnNames}
use Rattle.df_iotext.specs.declared.inputs.InputAnswer.{InputAnswer}

-- the lists of a text with inputs, or why there are none
abbrev pub Reading : Type 0
Reading = Result (List (List Value)) InputAnswer

-- a text has one reading at most
abbrev pub InputsHaveOneReading : Type 0
InputsHaveOneReading = (text : List ℕ) (decls : List InputDecl) (one other : Reading) → HaveOwnNames decls → ReadsInputs text decls one → ReadsInputs text decls other → one ≡ other

-- there is no text without a reading
abbrev pub InputsHaveReadings : Type 0
InputsHaveReadings = (text : List ℕ) (decls : List InputDecl) → ¬ ((reading : Reading) → ¬ ReadsInputs text decls reading)

-- the same of a text with a schedule
abbrev pub SchedulesHaveOneReading : Type 0
SchedulesHaveOneReading = (text : List ℕ) (one other : Result Schedule ℕ) → ReadsSchedule text one → ReadsSchedule text other → one ≡ other

-- each text has a reading as a schedule
abbrev pub SchedulesHaveReadings : Type 0
SchedulesHaveReadings = (text : List ℕ) → (reading : Result Schedule ℕ) × ReadsSchedule text reading

-- a schedule within the limits that is printed is read back
abbrev pub PrintedSchedulesAreRead : Type 0
PrintedSchedulesAreRead = (schedule : Schedule) → AllByRecursion (λ choice. choice ≤ 4_294_967_295) schedule.choices → length schedule.choices ≤ 1_000_000 → schedule.drain ≤ 1_000_000_000
    → ReadsSchedule (schedule_text schedule) (Ok schedule)
