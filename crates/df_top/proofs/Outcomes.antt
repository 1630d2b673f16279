-- What stands at each end of a call.
use Rattle.std.proofs.Common.{ℕ, ◌≡◌, List, Result, Ok, Err, inr, sym, ap, subst}
use Rattle.df_io.specs.declared.files.Fault.{Fault}
use Rattle.df_io.specs.declared.files.Fault.TheVariants as fault
use Rattle.df_io.specs.Told.{Holds, GainsAll}
use Rattle.df_commands.specs.Compiled.{MayDo}
use Rattle.df_commands.specs.Effects.{Effect}
use Rattle.df_commands.specs.Commands.{Order}
use Rattle.df_commands.specs.Judged.{IsSettled}
use Rattle.df_commands.specs.Plans.{effect_of}
use Rattle.df_commands.specs.declared.plan.Plan.{Plan}
use Rattle.df_commands.specs.Verdicts.{Verdict, Refused, Accepted, Task, Judges}
use Rattle.df_commands.specs.Laws.{HasOneVerdict}
use Rattle.df_top.specs.Carried.{StandsFor, ended}
use Rattle.df_top.specs.Endings.{World, Stands}
use Rattle.df_top.specs.declared.status.Status.{Status}
use Rattle.df_top.specs.declared.status.Status.TheVariants as status

-- ---- a command that was accepted, or refused

stands_for_task : (task : Task) (effect : Effect) (ending : Status) (Told : Type 0) (old new : World) → MayDo task effect → StandsFor effect ending Told old new → Stands (Accepted task) ending Told old new
stands_for_task task effect status.Done Told old new may stands = (effect, may, stands.0, stands.1)
stands_for_task task effect status.Stopped Told old new may stands = (effect, may, stands.0, stands.1)
stands_for_task task effect status.WriteFault Told old new may stands = (effect, may, stands)
stands_for_task task effect status.Memory Told old new may stands = inr (effect, may, stands)
stands_for_task task effect status.Usage Told old new may stands = absurd stands
stands_for_task task effect status.Refused Told old new may stands = absurd stands
stands_for_task task effect status.ReadFault Told old new may stands = absurd stands

pub stands_when_carried : HasOneVerdict → (order : Order) (plan : Plan) (ending : Status) (Told : Type 0) (before mid after : Holds) (written last : List ℕ) → mid ≡ before → IsSettled (Judges order before) plan
    → StandsFor (effect_of plan) ending Told (record { holds = mid; written = written }) (record { holds = after; written = last })
    → (v : Verdict) → Judges order before v → Stands v ending Told (record { holds = before; written = written }) (record { holds = after; written = last })
stands_when_carried one_verdict order plan ending Told before mid after written last same settled stands v judges =
    let start : World → Type 0 = λ old. StandsFor (effect_of plan) ending Told old (record { holds = after; written = last }) in
    let moved = subst start (ap (λ h. record { holds = h; written = written }) same) stands in
    subst (λ w. Stands w ending Told (record { holds = before; written = written }) (record { holds = after; written = last }))
    (one_verdict order before (Accepted settled.task) v settled.judged judges)
    (stands_for_task settled.task (effect_of plan) ending Told _ _ settled.does moved)

stands_at_refusal : (line : List ℕ) (r : Result Unit Fault) (Told : Type 0) (old new : World) → new.holds ≡ old.holds → (Told → GainsAll line old.written new.written r) → Stands (Refused line) (ended r status.Refused) Told old new
stands_at_refusal line (Ok done) Told old new same gains = (same, λ told. (gains told).whole)
stands_at_refusal line (Err fault.Failed) Told old new same gains = (same, λ told. (gains told).front)
stands_at_refusal line (Err fault.Memory) Told old new same gains = (same, λ told. (gains told).front)

pub stands_when_refused : HasOneVerdict → (order : Order) (line : List ℕ) (r : Result Unit Fault) (ending : Status) (Told : Type 0) (old new : World) → ending ≡ ended r status.Refused → new.holds ≡ old.holds → Judges order old.holds (Refused line)
    → (Told → GainsAll line old.written new.written r) → (v : Verdict) → Judges order old.holds v → Stands v ending Told old new
stands_when_refused one_verdict order line r ending Told old new is same judged gains v judges =
    subst (λ w. Stands w ending Told old new) (one_verdict order old.holds (Refused line) v judged judges)
    (subst (λ s. Stands (Refused line) s Told old new) (sym is) (stands_at_refusal line r Told old new same gains))
