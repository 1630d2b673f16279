-- A run in phases, as `lockstep` goes on.
use Rattle.std.proofs.Common.{◌≡◌, ◌≢◌, ◌⊎◌, ℕ, suc, ◌+◌, ◌<◌, ◌≤◌, List, [], ◌++◌, length, refl, sym, ◌∙◌, ap, subst, inl, inr, arith, length-append}
use Rattle.std.specs.Prelude.{Bool, IsTrue}
use Rattle.std.proofs.lemmas.Bool.{cases_lt}
use Rattle.df_values.specs.declared.values.Value.{Value}
use Rattle.df_cells.specs.declared.cells.Cell.{Cell}
use Rattle.df_cells.specs.WellFormed.{WellFormed}
use Rattle.df_labels.specs.Members.{Labels}
use Rattle.df_machine.specs.States.{told}
use Rattle.df_machine.specs.Runs.{after}
use Rattle.df_machine.specs.Events.{possible}
use Rattle.df_machine.specs.Seen.{Loaded}
use Rattle.df_machine.specs.Laws.{TellsPossible}
use Rattle.df_histories.specs.Reached.{IsAfter}
use Rattle.df_lockstep.specs.Phases.{after_phases, phase_choices, choices_of_phases}
use Rattle.df_lockstep.specs.Rates.{phases_at_most}
use Rattle.df_lockstep.specs.Laws.{PhasesAreRuns, Covers, DrainsInTime}

one_phase_more : (cells : List Cell) (inputs : List (List Value)) (k : ℕ)
    → choices_of_phases cells inputs (suc k) ≡ choices_of_phases cells inputs k ++ phase_choices cells inputs (after_phases cells inputs k)
unfolding choices_of_phases after_phases
one_phase_more cells inputs k = refl

choices_next : PhasesAreRuns → (cells : List Cell) (inputs : List (List Value)) (k : ℕ)
    → choices_of_phases cells inputs (k + 1) ≡ choices_of_phases cells inputs k ++ phase_choices cells inputs (after cells inputs (choices_of_phases cells inputs k))
choices_next runs cells inputs k =
    let e : k + 1 ≡ suc k = omega arith in
    ap (choices_of_phases cells inputs) e ∙ one_phase_more cells inputs k
    ∙ ap (λ s. choices_of_phases cells inputs k ++ phase_choices cells inputs s) (runs cells inputs k)

-- what holds after k phases with so many events
pub record LockedTo (old now : Loaded) (k events : ℕ) : Type 0 where
  pub same : now ≡ record old { state = now.state }
  pub reached : IsAfter now (choices_of_phases old.cells old.inputs k)
  pub count : events ≡ length (choices_of_phases old.cells old.inputs k)
  pub some : (j : ℕ) → j < k → possible old.cells (after_phases old.cells old.inputs j) ≢ 0

no_choices : (cells : List Cell) (inputs : List (List Value)) → choices_of_phases cells inputs 0 ≡ []
unfolding choices_of_phases
no_choices cells inputs = refl

pub locked_none : (old : Loaded) → IsAfter old [] → LockedTo old old 0 0
locked_none old begun = record {
  same = refl;
  reached = subst (IsAfter old) (sym (no_choices old.cells old.inputs)) begun;
  count = ap (λ (l : List ℕ). length l) (sym (no_choices old.cells old.inputs));
  some = λ j none. absurd (omega arith);
}

-- as many events are possible as after the phases
possible_now : TellsPossible → PhasesAreRuns → (old now : Loaded) (k : ℕ) → WellFormed old.cells → now ≡ record old { state = now.state } → IsAfter now (choices_of_phases old.cells old.inputs k)
    → possible now.cells now.state ≡ possible old.cells (after_phases old.cells old.inputs k)
possible_now tells runs old now k well_formed same at =
    let choices = choices_of_phases old.cells old.inputs k in
    ap (λ s. possible now.cells s) at ∙ ap (λ (t : Loaded). possible t.cells (told (after t.cells t.inputs choices))) same
    ∙ tells old.cells old.inputs choices well_formed ∙ ap (possible old.cells) (sym (runs old.cells old.inputs k))

pub locked_one : TellsPossible → PhasesAreRuns → (old now new : Loaded) (k events more : ℕ) → WellFormed old.cells → LockedTo old now k events → possible now.cells now.state ≢ 0
    → new ≡ record now { state = new.state }
    → ((choices : List ℕ) → IsAfter now choices → IsAfter new (choices ++ phase_choices now.cells now.inputs (after now.cells now.inputs choices)))
    → ((choices : List ℕ) → IsAfter now choices → more ≡ length (phase_choices now.cells now.inputs (after now.cells now.inputs choices)))
    → LockedTo old new (k + 1) (events + more)
locked_one tells runs old now new k events more well_formed to some kept reached count =
    let cells = old.cells in let inputs = old.inputs in
    let choices = choices_of_phases cells inputs k in
    let here : phase_choices now.cells now.inputs (after now.cells now.inputs choices) ≡ phase_choices cells inputs (after cells inputs choices) =
    ap (λ (t : Loaded). phase_choices t.cells t.inputs (after t.cells t.inputs choices)) to.same in
    let next = choices_next runs cells inputs k in
    record {
      same = kept ∙ ap (λ (t : Loaded). record t { state = new.state }) to.same;
      reached = subst (IsAfter new) (ap (λ l. choices ++ l) here ∙ sym next) (reached choices to.reached);
      count =
          let a = count choices to.reached ∙ ap (λ (l : List ℕ). length l) here in
          let b = ap (λ (l : List ℕ). length l) next in
          let c = length-append choices (phase_choices cells inputs (after cells inputs choices)) in
          let d = to.count in
          omega arith;
      some = λ j below. elim (cases_lt j k) [
        | inl before ↦ to.some j before
        | inr last ↦
            let e : j ≡ k = omega arith in
            λ none. some (possible_now tells runs old now k well_formed to.same to.reached ∙ ap (λ i. possible cells (after_phases cells inputs i)) (sym e) ∙ none)
      ];
    }

pub locked_state : PhasesAreRuns → (old now : Loaded) (k events : ℕ) → LockedTo old now k events → now ≡ record old { state = told (after_phases old.cells old.inputs k) }
locked_state runs old now k events to =
    to.same
    ∙ ap (λ s. record old { state = s })
    (to.reached ∙ ap (λ (t : Loaded). told (after t.cells t.inputs (choices_of_phases old.cells old.inputs k))) to.same ∙ ap told (sym (runs old.cells old.inputs k)))

-- what is within the bound, and drained there
pub in_time : TellsPossible → PhasesAreRuns → DrainsInTime → (old now : Loaded) (k events limit : ℕ) (drained : Bool)
    → WellFormed old.cells
    → LockedTo old now k events → (possible now.cells now.state ≡ 0 → IsTrue drained)
    → (limit ≤ k) ⊎ (possible now.cells now.state ≡ 0)
    → (n : ℕ) (labels : Labels) → Covers old.cells old.inputs n labels
    → (k ≤ phases_at_most old.cells) × (phases_at_most old.cells ≤ limit → IsTrue drained)
in_time tells runs drains old now k events limit drained well_formed to empty ended n labels covers =
    let most = phases_at_most old.cells in
    let none = (drains old.cells old.inputs n labels covers).0 in
    let few : k ≤ most =
    elim (cases_lt most k) [ inl past ↦ absurd (to.some most past none) | inr within ↦ within ] in (
      few,
      λ enough. elim ended [
        | inl all ↦
            let e : k ≡ most = omega arith in
            empty (possible_now tells runs old now k well_formed to.same to.reached
            ∙ ap (λ i. possible old.cells (after_phases old.cells old.inputs i)) e ∙ none)
        | inr over ↦ empty over
      ],
    )
