-- The report of a run in phases, from what the run gave.
use Rattle.std.proofs.Common.{◌≡◌, ◌≢◌, ◌≤◌, ◌<◌, ◌⊎◌, ℕ, Bool, true, false, List, length, IsTrue, ◌↔◌, refl, ◌∙◌, ap, subst, inl, inr}
use Rattle.std.specs.Bool.{OnFalse}
use Rattle.df_values.specs.declared.values.Value.{Value}
use Rattle.df_cells.specs.declared.cells.Cell.{Cell}
use Rattle.df_machine.specs.Events.{possible}
use Rattle.df_machine.specs.Seen.{Loaded}
use Rattle.df_lockstep.specs.Phases.{after_phases, choices_of_phases}
use Rattle.df_commands.specs.Phased.{EndsAfter, most_phases, report_of_phases}
use Rattle.df_commands.specs.Reports.{report_text}
use Rattle.df_commands.proofs.RunReports.{same_test}

-- what a run in phases gives
pub record Ran (cells : List Cell) (inputs : List (List Value)) (new : Loaded) (phases events : ℕ) (drained : Bool) : Type 0 where
  pub state : new ≡ record { cells = cells; inputs = inputs; state = after_phases cells inputs phases }
  pub count : events ≡ length (choices_of_phases cells inputs phases)
  pub some : (k : ℕ) → k < phases → possible cells (after_phases cells inputs k) ≢ 0
  pub limited : phases ≤ most_phases
  pub exact : IsTrue drained ↔ (possible new.cells new.state ≡ 0)
  pub stopped : OnFalse drained (phases ≡ most_phases)

-- of the cells that were loaded
pub ran_of : (cells : List Cell) (inputs : List (List Value)) (old new : Loaded) (phases events : ℕ) (drained : Bool) → old.cells ≡ cells → old.inputs ≡ inputs
    → Ran old.cells old.inputs new phases events drained → Ran cells inputs new phases events drained
ran_of cells inputs old new phases events drained a b ran =
    subst (λ x. Ran x inputs new phases events drained) a (subst (λ x. Ran old.cells x new phases events drained) b ran)

module _ (cells : List Cell) (inputs : List (List Value)) (new : Loaded) (phases events : ℕ) where
  exactly : (drained : Bool) → Ran cells inputs new phases events drained → IsTrue drained ↔ (possible cells (after_phases cells inputs phases) ≡ 0)
  exactly drained ran = subst (λ (t : Loaded). IsTrue drained ↔ (possible t.cells t.state ≡ 0)) ran.state ran.exact

  ended : (drained : Bool) → (IsTrue drained → possible cells (after_phases cells inputs phases) ≡ 0) → OnFalse drained (phases ≡ most_phases)
      → (possible cells (after_phases cells inputs phases) ≡ 0) ⊎ (phases ≡ most_phases)
  ended true none all = inl (none refl)
  ended false none all = inr all

  pub ends_after : (drained : Bool) → Ran cells inputs new phases events drained → EndsAfter cells inputs phases
  ends_after drained ran = record { some = ran.some; limited = ran.limited; ended = ended drained (exactly drained ran).0 ran.stopped }

  pub same_drained : (drained : Bool) → Ran cells inputs new phases events drained → drained ≡ (report_of_phases cells inputs phases).drained
  same_drained drained ran = same_test drained (possible cells (after_phases cells inputs phases)) (exactly drained ran)

  pub same_text : (drained : Bool) → Ran cells inputs new phases events drained
      → report_text (record { drained = drained; events = events; results = new.state.results; fired = new.state.fired }) ≡ report_text (report_of_phases cells inputs phases)
  same_text drained ran =
      ap (λ (t : Loaded). report_text (record { drained = drained; events = events; results = t.state.results; fired = t.state.fired })) ran.state
      ∙ ap (λ n. report_text (record { drained = drained; events = n; results = (after_phases cells inputs phases).results; fired = (after_phases cells inputs phases).fired })) ran.count
      ∙ ap (λ b. report_text (record { drained = b; events = length (choices_of_phases cells inputs phases); results = (after_phases cells inputs phases).results; fired = (after_phases cells inputs phases).fired }))
      (same_drained drained ran)
