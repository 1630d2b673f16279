-- The choices of a phase, as the machine takes them one by one.
use Rattle.std.proofs.Common.{◌≡◌, ℕ, zero, suc, ◌+◌, ◌-◌, ◌%◌, ◌<◌, Bool, false, List, [], ◌∷◌, ◌++◌, map, length, replicate, refl, sym, ◌∙◌, ap, subst, arith, append_assoc, length-append}
use Rattle.std.specs.Prelude.{slice_get}
use Rattle.std.proofs.lemmas.List.{append-nil, length-replicate}
use Rattle.std.proofs.lemmas.List.Sums.{length-filter, sum_by-cons}
use Rattle.std.specs.List.{count_by, filter, range_with_len}
use Rattle.df_values.specs.declared.values.Value.{Value}
use Rattle.df_cells.specs.declared.cells.Cell.{Cell}
use Rattle.df_cells.specs.WellFormed.{WellFormed}
use Rattle.df_pick.specs.Sums.{bit, up_count}
use Rattle.df_machine.specs.States.{State, start, told}
use Rattle.df_machine.specs.Runs.{run, after}
use Rattle.df_machine.specs.Events.{is_enabled, enabled, possible, chosen, next}
use Rattle.df_machine.specs.Indexes.{enabled_flags}
use Rattle.df_machine.specs.Seen.{Loaded}
use Rattle.df_machine.specs.Laws.{JoinsRuns, TellsPossible}
use Rattle.df_histories.specs.Reached.{IsAfter}
use Rattle.df_lockstep.specs.Phases.{fired_all, oldest_taken, packets_taken, flight_taken, packet_choices, flight_choices, choices_once_fired, phase_choices}
use Rattle.df_lockstep.proofs.Runs.{any_busy, run_fires, run_packets, run_flight}

-- ---- what the counts of the indexes say

up_among : (p : ℕ → Bool) (xs : List ℕ) → up_count (map p xs) ≡ length (filter p xs)
up_among p xs = counts p xs ∙ sym (length-filter p xs)
  where
    counts : (p : ℕ → Bool) (xs : List ℕ) → up_count (map p xs) ≡ count_by p xs
    counts p [] = refl
    counts p (x ∷ xs) =
        let a = sum_by-cons (λ flag. bit flag) (p x) (map p xs) in
        let b = sum_by-cons (λ y. bit (p y)) x xs in
        let rest = counts p xs in
        omega arith

-- how many flags are up is how many cells are enabled
flags_count : (cells : List Cell) (s : State) → up_count (enabled_flags cells s) ≡ length (enabled cells s)
unfolding enabled_flags enabled
flags_count cells s = up_among (is_enabled cells s) (range_with_len 0 (length cells))

-- what is told of a state has as many enabled cells
told_enabled : TellsPossible → (cells : List Cell) (inputs : List (List Value)) (choices : List ℕ) → WellFormed cells
    → length (enabled cells (told (after cells inputs choices))) ≡ length (enabled cells (after cells inputs choices))
unfolding possible
told_enabled tells cells inputs choices well_formed = let e = tells cells inputs choices well_formed in omega arith

pub enabled_count : TellsPossible → (t : Loaded) (choices : List ℕ) → WellFormed t.cells → IsAfter t choices
    → up_count (enabled_flags t.cells t.state) ≡ length (enabled t.cells (after t.cells t.inputs choices))
enabled_count tells t choices well_formed at =
    flags_count t.cells t.state ∙ ap (λ s. length (enabled t.cells s)) at ∙ told_enabled tells t.cells t.inputs choices well_formed

pub packet_count : (t : Loaded) (choices : List ℕ) → IsAfter t choices → length t.state.packets ≡ length (after t.cells t.inputs choices).packets
packet_count t choices at = ap (λ (s : State). length s.packets) at

-- ---- the states of a run have an entry for each cell

chosen_busy : (cells : List Cell) (inputs : List (List Value)) (s : State) (k : ℕ) → length (chosen cells inputs s k).busy ≡ length s.busy
unfolding chosen next
chosen_busy cells inputs s k =
    let m = k % possible cells s in
    let i = m - length (enabled cells s) in
    any_busy cells inputs s i (slice_get (enabled cells s) m) (slice_get s.packets i)

run_busy : (cells : List Cell) (inputs : List (List Value)) (ks : List ℕ) (s : State) → length (run cells inputs s ks).busy ≡ length s.busy
run_busy cells inputs [] s = refl
run_busy cells inputs (k ∷ ks) s = run_busy cells inputs ks (chosen cells inputs s k) ∙ chosen_busy cells inputs s k

pub after_busy : (cells : List Cell) (inputs : List (List Value)) (ks : List ℕ) → length (after cells inputs ks).busy ≡ length cells
unfolding after start
after_busy cells inputs ks = run_busy cells inputs ks (start cells) ∙ length-replicate (length cells) false

-- ---- one choice more

pub choices_last : (cells : List Cell) (inputs : List (List Value)) (n : ℕ) (s : State)
    → packet_choices cells inputs (suc n) s ≡ packet_choices cells inputs n s ++ length (enabled cells (packets_taken cells inputs n s)) ∷ []
choices_last cells inputs zero s = refl
choices_last cells inputs (suc n) s = ap (λ l. length (enabled cells s) ∷ l) (choices_last cells inputs n (oldest_taken cells inputs s))

abbrev zeros : ℕ → List ℕ
zeros n = replicate n 0

one_zero : (n : ℕ) → zeros n ++ (0 ∷ []) ≡ zeros (n + 1)
one_zero n = twice n ∙ (let e : suc n ≡ n + 1 = omega arith in ap zeros e)
  where
    twice : (n : ℕ) → zeros n ++ (0 ∷ []) ≡ zeros (suc n)
    twice zero = refl
    twice (suc n) = ap (λ (l : List ℕ). 0 ∷ l) (twice n)

-- the run goes on behind choices
pub goes_on : JoinsRuns → (cells : List Cell) (inputs : List (List Value)) (choices more : List ℕ) → after cells inputs (choices ++ more) ≡ run cells inputs (after cells inputs choices) more
unfolding after
goes_on joins cells inputs choices more = joins cells inputs (start cells) choices more

-- ---- the loops

pub keeps : (now new : Loaded) (s : State) → new ≡ record now { state = s } → new ≡ record now { state = new.state }
keeps now new s e = e ∙ ap (λ t. record now { state = t }) (sym (ap (λ (t : Loaded). t.state) e))

-- what holds after n cells have fired
pub record FiredTo (old now : Loaded) (n : ℕ) : Type 0 where
  pub same : now ≡ record old { state = now.state }
  pub reached : (choices : List ℕ) → IsAfter old choices → IsAfter now (choices ++ replicate n 0)

pub fired_none : (old : Loaded) → FiredTo old old 0
fired_none old = record { same = refl; reached = λ choices at. subst (IsAfter old) (sym (append-nil choices)) at }

pub fired_one : (old now new : Loaded) (n : ℕ) → FiredTo old now n → new ≡ record now { state = new.state }
    → ((choices : List ℕ) → IsAfter now choices → IsAfter new (choices ++ 0 ∷ [])) → FiredTo old new (n + 1)
fired_one old now new n to kept reached = record {
  same = kept ∙ ap (λ (t : Loaded). record t { state = new.state }) to.same;
  reached = λ choices at.
      subst (IsAfter new) (append_assoc choices (zeros n) (0 ∷ []) ∙ ap (λ l. choices ++ l) (one_zero n)) (reached (choices ++ zeros n) (to.reached choices at));
}

-- what holds after n packets were taken
pub record TakenTo (old now : Loaded) (n : ℕ) : Type 0 where
  pub same : now ≡ record old { state = now.state }
  pub reached : (choices : List ℕ) → IsAfter old choices → IsAfter now (choices ++ packet_choices old.cells old.inputs n (after old.cells old.inputs choices))

pub taken_none : (old : Loaded) → TakenTo old old 0
taken_none old = record { same = refl; reached = λ choices at. subst (IsAfter old) (sym (append-nil choices)) at }

pub taken_one : TellsPossible → JoinsRuns → (old now new : Loaded) (n choice : ℕ) → WellFormed old.cells → TakenTo old now n → n < length old.state.packets
    → choice ≡ up_count (enabled_flags now.cells now.state) → new ≡ record now { state = new.state }
    → ((choices : List ℕ) → IsAfter now choices → IsAfter new (choices ++ choice ∷ [])) → TakenTo old new (n + 1)
taken_one tells joins old now new n choice well_formed to few is kept reached = record {
  same = kept ∙ ap (λ (t : Loaded). record t { state = new.state }) to.same;
  reached = λ choices at.
      let cells = old.cells in let inputs = old.inputs in
      let s = after cells inputs choices in
      let before = packet_choices cells inputs n s in
      let next' : suc n ≡ n + 1 = omega arith in
      let count = packet_count old choices at in
      let there : after now.cells now.inputs (choices ++ before) ≡ packets_taken cells inputs n s =
      ap (λ (t : Loaded). after t.cells t.inputs (choices ++ before)) to.same ∙ goes_on joins cells inputs choices before ∙ run_packets cells inputs n s (omega arith) in
      let well : WellFormed now.cells = subst (λ (t : Loaded). WellFormed t.cells) (sym to.same) well_formed in
      let one : choice ≡ length (enabled cells (packets_taken cells inputs n s)) =
      is ∙ enabled_count tells now (choices ++ before) well (to.reached choices at) ∙ ap (λ t. length (enabled now.cells t)) there
      ∙ ap (λ (t : Loaded). length (enabled t.cells (packets_taken cells inputs n s))) to.same in
      subst (IsAfter new)
      (append_assoc choices before (choice ∷ [])
      ∙ ap (λ k. choices ++ (before ++ k ∷ [])) one
      ∙ ap (λ l. choices ++ l) (sym (choices_last cells inputs n s)) ∙ ap (λ k. choices ++ packet_choices cells inputs k s) next')
      (reached (choices ++ before) (to.reached choices at));
}

-- ---- a phase

choices_length : (cells : List Cell) (inputs : List (List Value)) (n : ℕ) (s : State) → length (packet_choices cells inputs n s) ≡ n
choices_length cells inputs zero s = refl
choices_length cells inputs (suc n) s = ap suc (choices_length cells inputs n (oldest_taken cells inputs s))

abbrev all_fired : List Cell → State → State
all_fired cells s = fired_all cells s (enabled cells s)

abbrev fires : List Cell → State → List ℕ
fires cells s = zeros (length (enabled cells s))

abbrev first_flight : List Cell → List (List Value) → State → List ℕ
first_flight cells inputs s = flight_choices cells inputs (all_fired cells s)

abbrev all_done : List Cell → List (List Value) → State → State
all_done cells inputs s = flight_taken cells inputs (all_fired cells s)

abbrev second_flight : List Cell → List (List Value) → State → List ℕ
second_flight cells inputs s = flight_choices cells inputs (all_done cells inputs s)

once_fired : JoinsRuns → (cells : List Cell) (inputs : List (List Value)) (choices : List ℕ) → let s = after cells inputs choices in
    after cells inputs (choices ++ fires cells s) ≡ all_fired cells s
once_fired joins cells inputs choices =
    let s = after cells inputs choices in
    goes_on joins cells inputs choices (fires cells s) ∙ run_fires cells inputs (enabled cells s) s (after_busy cells inputs choices) refl

once_done : JoinsRuns → (cells : List Cell) (inputs : List (List Value)) (choices : List ℕ) → let s = after cells inputs choices in
    after cells inputs ((choices ++ fires cells s) ++ first_flight cells inputs s) ≡ all_done cells inputs s
once_done joins cells inputs choices =
    let s = after cells inputs choices in
    goes_on joins cells inputs (choices ++ fires cells s) (first_flight cells inputs s)
    ∙ ap (λ t. run cells inputs t (first_flight cells inputs s)) (once_fired joins cells inputs choices) ∙ run_flight cells inputs (all_fired cells s)

all_choices : (cells : List Cell) (inputs : List (List Value)) (choices : List ℕ) (s : State)
    → ((choices ++ fires cells s) ++ first_flight cells inputs s) ++ second_flight cells inputs s ≡ choices ++ phase_choices cells inputs s
unfolding phase_choices
all_choices cells inputs choices s =
    append_assoc (choices ++ fires cells s) (first_flight cells inputs s) (second_flight cells inputs s)
    ∙ append_assoc choices (fires cells s) (first_flight cells inputs s ++ second_flight cells inputs s)

pub all_events : (cells : List Cell) (inputs : List (List Value)) (s : State)
    → length (enabled cells s) + length (all_fired cells s).packets + length (all_done cells inputs s).packets ≡ length (phase_choices cells inputs s)
unfolding phase_choices
all_events cells inputs s =
    let p = length-append (fires cells s) (choices_once_fired cells inputs (all_fired cells s)) in
    let q = length-append (first_flight cells inputs s) (second_flight cells inputs s) in
    let r : length (fires cells s) ≡ length (enabled cells s) = length-replicate (length (enabled cells s)) 0 in
    let u = choices_length cells inputs (length (all_fired cells s).packets) (all_fired cells s) in
    let v = choices_length cells inputs (length (all_done cells inputs s).packets) (all_done cells inputs s) in
    omega arith

-- what the three parts of a phase promise
abbrev pub Fires : Loaded → Loaded → ℕ → Type 0
Fires old new n = ((choices : List ℕ) → IsAfter old choices → n ≡ length (enabled old.cells (after old.cells old.inputs choices)))
    × ((choices : List ℕ) → IsAfter old choices → IsAfter new (choices ++ replicate n 0))

abbrev pub Flies : Loaded → Loaded → ℕ → Type 0
Flies old new n = ((choices : List ℕ) → IsAfter old choices → n ≡ length (after old.cells old.inputs choices).packets)
    × ((choices : List ℕ) → IsAfter old choices → IsAfter new (choices ++ flight_choices old.cells old.inputs (after old.cells old.inputs choices)))

-- and what follows for one phase from certain choices on
pub record Phased (old a b new : Loaded) (n k m : ℕ) (choices : List ℕ) : Type 0 where
  pub reached : IsAfter new (choices ++ phase_choices old.cells old.inputs (after old.cells old.inputs choices))
  pub events : n + k + m ≡ length (phase_choices old.cells old.inputs (after old.cells old.inputs choices))

pub phased : JoinsRuns → (old a b new : Loaded) (n k m : ℕ) → a ≡ record old { state = a.state } → b ≡ record a { state = b.state } → Fires old a n → Flies a b k → Flies b new m
    → (choices : List ℕ) → IsAfter old choices → Phased old a b new n k m choices
phased joins old a b new n k m same_a same_b fire first second choices at =
    let cells = old.cells in let inputs = old.inputs in
    let s = after cells inputs choices in
    let both : b ≡ record old { state = b.state } = same_b ∙ ap (λ (t : Loaded). record t { state = b.state }) same_a in
    let begun = choices ++ fires cells s in
    let then' = begun ++ first_flight cells inputs s in
    let count = fire.0 choices at in
    let fired : IsAfter a begun = subst (λ i. IsAfter a (choices ++ zeros i)) count (fire.1 choices at) in
    let state_a : after a.cells a.inputs begun ≡ all_fired cells s = ap (λ (t : Loaded). after t.cells t.inputs begun) same_a ∙ once_fired joins cells inputs choices in
    let flight_a : flight_choices a.cells a.inputs (after a.cells a.inputs begun) ≡ first_flight cells inputs s =
    ap (flight_choices a.cells a.inputs) state_a ∙ ap (λ (t : Loaded). flight_choices t.cells t.inputs (all_fired cells s)) same_a in
    let done : IsAfter b then' = subst (λ l. IsAfter b (begun ++ l)) flight_a (first.1 begun fired) in
    let state_b : after b.cells b.inputs then' ≡ all_done cells inputs s = ap (λ (t : Loaded). after t.cells t.inputs then') both ∙ once_done joins cells inputs choices in
    let flight_b : flight_choices b.cells b.inputs (after b.cells b.inputs then') ≡ second_flight cells inputs s =
    ap (flight_choices b.cells b.inputs) state_b ∙ ap (λ (t : Loaded). flight_choices t.cells t.inputs (all_done cells inputs s)) both in
    let count_a = first.0 begun fired ∙ ap (λ (t : State). length t.packets) state_a in
    let count_b = second.0 then' done ∙ ap (λ (t : State). length t.packets) state_b in
    let all = all_events cells inputs s in
    record {
      reached = subst (IsAfter new) (ap (λ l. then' ++ l) flight_b ∙ all_choices cells inputs choices s) (second.1 then' done);
      events = omega arith;
    }
