-- What writing a plan ends with, for the code that writes it.
use Rattle.std.specs.Prelude.{◌≡◌, true, false, Result, Ok, Err}
use Rattle.df_io.specs.declared.files.Fault.{Fault}
use Rattle.df_io.specs.declared.files.Fault.TheVariants as fault
use Rattle.df_commands.specs.Effects.{Effect}
use Rattle.df_top.specs.Endings.{World, IsWhole, IsPart}
use Rattle.df_top.specs.declared.status.Status.{Status}
use Rattle.df_top.specs.declared.status.Status.TheVariants as status

-- the status where the write succeeded, and else why it didn't
abbrev pub ended : Result Unit Fault → Status → Status
ended (Ok done) ending = ending
ended (Err fault.Failed) ending = status.WriteFault
ended (Err fault.Memory) ending = status.Memory

-- what stands where a plan was carried out
abbrev pub StandsFor : Effect → Status → Type 0 → World → World → Type 0
StandsFor effect status.Done Told old new = (effect.is_done ≡ true) × IsWhole effect Told old new
StandsFor effect status.Stopped Told old new = (effect.is_done ≡ false) × IsWhole effect Told old new
StandsFor effect status.WriteFault Told old new = IsPart effect Told old new
StandsFor effect status.Memory Told old new = IsPart effect Told old new
StandsFor effect status.Usage Told old new = ⊥
StandsFor effect status.Refused Told old new = ⊥
StandsFor effect status.ReadFault Told old new = ⊥

-- what writing a plan may end with
abbrev pub IsCarriedOut : Status → Type 0
IsCarriedOut status.Usage = ⊥
IsCarriedOut status.Refused = ⊥
IsCarriedOut status.ReadFault = ⊥
IsCarriedOut _ = Unit {0}
