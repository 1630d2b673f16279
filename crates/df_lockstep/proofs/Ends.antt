-- What one phase leaves: no packet in flight, and it has no event exactly where none is possible.
use Rattle.std.proofs.Common.{◌≡◌, ℕ, ◌+◌, List, [], ◌∷◌, ◌++◌, length, refl, sym, ◌∙◌, ap, arith}
use Rattle.std.specs.Prelude.{◌↔◌}
use Rattle.df_values.specs.declared.values.Value.{Value}
use Rattle.df_cells.specs.declared.cells.Cell.{Cell}
use Rattle.df_cells.specs.WellFormed.{WellFormed}
use Rattle.df_machine.specs.States.{State}
use Rattle.df_machine.specs.Runs.{after}
use Rattle.df_machine.specs.Events.{enabled, possible}
use Rattle.df_machine.specs.Seen.{Loaded}
use Rattle.df_machine.specs.Laws.{JoinsRuns, TellsPossible}
use Rattle.df_histories.specs.Reached.{IsAfter}
use Rattle.df_lockstep.specs.Phases.{fired_all, packets_taken, flight_taken, phase, phase_choices}
use Rattle.df_lockstep.proofs.Flights.{Fires, Flies, after_busy, all_events, goes_on, phased}
use Rattle.df_lockstep.proofs.Quiet.{phase_quiet}
use Rattle.df_lockstep.proofs.Runs.{run_phase}

phase_after : JoinsRuns → (cells : List Cell) (inputs : List (List Value)) (choices : List ℕ) → let s = after cells inputs choices in
    after cells inputs (choices ++ phase_choices cells inputs s) ≡ phase cells inputs s
phase_after joins cells inputs choices =
    let s = after cells inputs choices in
    goes_on joins cells inputs choices (phase_choices cells inputs s) ∙ run_phase joins cells inputs s (after_busy cells inputs choices)

quiet : JoinsRuns → (old new : Loaded) (choices : List ℕ) → new ≡ record old { state = new.state }
    → IsAfter new (choices ++ phase_choices old.cells old.inputs (after old.cells old.inputs choices)) → new.state.packets ≡ []
quiet joins old new choices same to =
    let s = after old.cells old.inputs choices in
    let all = choices ++ phase_choices old.cells old.inputs s in
    ap (λ (t : State). t.packets) to
    ∙ ap (λ (t : Loaded). (after t.cells t.inputs all).packets) same
    ∙ ap (λ (t : State). t.packets) (phase_after joins old.cells old.inputs choices)
    ∙ phase_quiet old.cells old.inputs s

-- ---- a phase without events

none_fires : (cells : List Cell) (s : State) (cs : List ℕ) → length cs ≡ 0 → fired_all cells s cs ≡ s
none_fires cells s [] none = refl
none_fires cells s (c ∷ cs) none = absurd (omega arith)

none_flies : (cells : List Cell) (inputs : List (List Value)) (s : State) → length s.packets ≡ 0 → flight_taken cells inputs s ≡ s
none_flies cells inputs s none = ap (λ n. packets_taken cells inputs n s) none

no_events : (cells : List Cell) (inputs : List (List Value)) (s : State) → possible cells s ≡ 0 → length (phase_choices cells inputs s) ≡ 0
unfolding possible
no_events cells inputs s none =
    let calm : fired_all cells s (enabled cells s) ≡ s = none_fires cells s (enabled cells s) (omega arith) in
    let first = ap (λ (t : State). length t.packets) calm in
    let second = ap (λ t. length (flight_taken cells inputs t).packets) calm in
    let third = ap (λ (t : State). length t.packets) (none_flies cells inputs s (omega arith)) in
    let all = all_events cells inputs s in
    omega arith

none_possible : (cells : List Cell) (inputs : List (List Value)) (s : State) → length (phase_choices cells inputs s) ≡ 0 → possible cells s ≡ 0
unfolding possible
none_possible cells inputs s none =
    let all = all_events cells inputs s in
    let first = ap (λ (t : State). length t.packets) (none_fires cells s (enabled cells s) (omega arith)) in
    omega arith

-- a phase has no event exactly where none is possible
none : TellsPossible → (old : Loaded) (choices : List ℕ) (events : ℕ) → WellFormed old.cells → IsAfter old choices
    → events ≡ length (phase_choices old.cells old.inputs (after old.cells old.inputs choices)) → (events ≡ 0) ↔ (possible old.cells old.state ≡ 0)
none tells old choices events well_formed from count =
    let s = after old.cells old.inputs choices in
    let same : possible old.cells old.state ≡ possible old.cells s = ap (possible old.cells) from ∙ tells old.cells old.inputs choices well_formed in (
      λ no_one. same ∙ none_possible old.cells old.inputs s (sym count ∙ no_one),
      λ no_one. count ∙ no_events old.cells old.inputs s (sym same ∙ no_one),
    )

-- both, of a phase in its three parts
pub record Ended (old new : Loaded) (events : ℕ) : Type 0 where
  pub quiet : new.state.packets ≡ []
  pub none : (events ≡ 0) ↔ (possible old.cells old.state ≡ 0)

pub ended : JoinsRuns → TellsPossible → (old a b new : Loaded) (n k m : ℕ) → a ≡ record old { state = a.state } → b ≡ record a { state = b.state } → new ≡ record b { state = new.state }
    → Fires old a n → Flies a b k → Flies b new m → WellFormed old.cells → (choices : List ℕ) → IsAfter old choices → Ended old new (n + k + m)
ended joins tells old a b new n k m same_a same_b same fire first second well_formed choices at =
    let all = phased joins old a b new n k m same_a same_b fire first second choices at in
    let same' : new ≡ record old { state = new.state } =
    same ∙ ap (λ (t : Loaded). record t { state = new.state }) same_b ∙ ap (λ (t : Loaded). record t { state = new.state }) same_a in
    record {
      quiet = quiet joins old new choices same' all.reached;
      none = none tells old choices (n + k + m) well_formed at all.events;
    }
