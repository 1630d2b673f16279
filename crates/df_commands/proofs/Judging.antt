-- The verdict on texts that are judged one after another.
use Rattle.std.proofs.Common.{◌≡◌, List, ℕ, Result, Ok, Err, refl, sym, subst}
use Rattle.df_commands.specs.Judged.{GivesRead, GivesMeaning, StopsAs, Settles}
use Rattle.df_commands.specs.Verdicts.{Verdict, Absent, Refused, AfterRead, AfterText}
use Rattle.df_commands.specs.declared.plan.Plan.{Plan}
use Rattle.df_commands.specs.declared.stop.Stop.{Stop}
use Rattle.df_commands.specs.declared.stop.Stop.TheVariants as stop

-- a text that is refused decides
pub refused_first : {X Y : Type 0} (meant : X → Y) (Reads : Result Y (List ℕ) → Type 0) (next : Verdict → Y → Type 0) (why : Stop)
    → GivesMeaning meant (Err why) Reads → StopsAs (λ v. AfterText Reads v (next v)) why
refused_first meant Reads next (stop.Refused line) reads = record { read = Err line; reads = reads; goes = refl }
refused_first meant Reads next stop.ReadFault reads = tt
refused_first meant Reads next stop.Memory reads = tt

-- where a text was read, why the ones behind it stop is why all do
pub refused_behind : {Y : Type 0} (Reads : Result Y (List ℕ) → Type 0) (next : Verdict → Y → Type 0) (y : Y) (why : Stop)
    → Reads (Ok y) → StopsAs (λ v. next v y) why → StopsAs (λ v. AfterText Reads v (next v)) why
refused_behind Reads next y (stop.Refused line) read found = record { read = Ok y; reads = read; goes = found }
refused_behind Reads next y stop.ReadFault read found = tt
refused_behind Reads next y stop.Memory read found = tt

-- ---- the reads

-- what isn't given decides
pub barred : {X Y : Type 0} (meant : X → Y) (read : Result Y Verdict) (next : Verdict → Y → Type 0) (why : Stop) → GivesRead meant (Err why) read → StopsAs (λ v. AfterRead read v (next v)) why
barred meant read next (stop.Refused line) is = subst (λ r. AfterRead r (Refused line) (next (Refused line))) (sym is) refl
barred meant read next stop.ReadFault is = tt
barred meant read next stop.Memory is = tt

-- a file that isn't there leaves one verdict
pub absent : {Y : Type 0} (read : Result Y Verdict) (next : Verdict → Y → Type 0) → read ≡ Err Absent → AfterRead read Absent (next Absent)
absent read next is = subst (λ r. AfterRead r Absent (next Absent)) (sym is) refl

-- where the texts were read, what is settled of them is settled of the files
pub settled_in : {X Y : Type 0} (meant : X → Y) (read : Result Y Verdict) (next : Verdict → Y → Type 0) (texts : X) (found : Result Plan Stop) → read ≡ Ok (meant texts)
    → Settles (λ v. next v (meant texts)) found → Settles (λ v. AfterRead read v (next v)) found
settled_in meant read next texts found is settles = subst (λ r. Settles (λ v. AfterRead r v (next v)) found) (sym is) settles
