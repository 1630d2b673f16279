-- A run in phases is a run by choices.
use Rattle.std.proofs.Common.{◌≡◌, ◌≢◌, ℕ, zero, suc, ◌+◌, ◌-◌, ◌%◌, ◌<◌, ◌≤◌, Bool, true, false, cond, List, [], ◌∷◌, length, replicate, Option, Some, None, refl, sym, ◌∙◌, ap, inl, inr, arith, length-append}
use Rattle.std.proofs.Math.Nat.{mod-eq_of_lt, zero-mod}
use Rattle.std.specs.Prelude.{slice_get}
use Rattle.std.specs.List.{filter, range_with_len, remove}
use Rattle.std.proofs.lemmas.List.{length-set, get_or-set_same, get_or-set_other, length-replicate}
use Rattle.std.proofs.lemmas.Option.{slice_get_past}
use Rattle.std.proofs.lemmas.Bool.{cases_eq, cases_Bool}
use Rattle.df_values.specs.declared.values.Value.{Value}
use Rattle.df_cells.specs.declared.cells.Cell.{Cell}
use Rattle.df_machine.specs.declared.packets.Packet.{Packet}
use Rattle.df_machine.specs.declared.packets.Packet.TheVariants.{Operation, Operand, Acknowledgement}
use Rattle.df_machine.specs.States.{State, start, is_busy, firings}
use Rattle.df_machine.specs.Events.{is_enabled, enabled, possible, fire, perform, arrive, acknowledge, deliver, state_from, next, chosen}
use Rattle.df_machine.specs.Runs.{run, after}
use Rattle.df_machine.specs.Laws.{JoinsRuns}
use Rattle.df_lockstep.specs.Phases.{fired_all, oldest_taken, packets_taken, flight_taken, phase, phases_from, after_phases, packet_choices, flight_choices, choices_once_fired, phase_choices, choices_from, choices_of_phases}
use Rattle.df_lockstep.specs.Laws.{PhasesAreRuns}
use Rattle.df_lockstep.proofs.Quiet.{adds}

-- ---- the cells that are enabled while they fire one after the other

cons_head : {x y : ℕ} {xs ys : List ℕ} → x ∷ xs ≡ y ∷ ys → x ≡ y
cons_head e = cc

cons_tail : {x y : ℕ} {xs ys : List ℕ} → x ∷ xs ≡ y ∷ ys → xs ≡ ys
cons_tail e = cc

no_cons : {x : ℕ} {xs : List ℕ} → [] ≡ x ∷ xs → ⊥
no_cons e = cc

-- what passes among the numbers from a on, where the first of them does, and where it doesn't
passed_first : (p : ℕ → Bool) (a n : ℕ) → p a ≡ true → filter p (range_with_len a (suc n)) ≡ a ∷ filter p (range_with_len (a + 1) n)
passed_first p a n yes' = ap (λ b. cond b (a ∷ filter p (range_with_len (a + 1) n)) (filter p (range_with_len (a + 1) n))) yes'

passed_rest : (p : ℕ → Bool) (a n : ℕ) → p a ≡ false → filter p (range_with_len a (suc n)) ≡ filter p (range_with_len (a + 1) n)
passed_rest p a n no' = ap (λ b. cond b (a ∷ filter p (range_with_len (a + 1) n)) (filter p (range_with_len (a + 1) n))) no'

passed_same : (p q : ℕ → Bool) (a n : ℕ) → ((d : ℕ) → a ≤ d → q d ≡ p d) → filter q (range_with_len a n) ≡ filter p (range_with_len a n)
passed_same p q a zero same = refl
passed_same p q a (suc n) same =
    let rest = passed_same p q (a + 1) n (λ d from. same d (omega arith)) in
    elim (cases_Bool (p a)) [
      | inl yes' ↦ passed_first q a n (same a (omega arith) ∙ yes') ∙ ap (λ l. a ∷ l) rest ∙ sym (passed_first p a n yes')
      | inr no' ↦ passed_rest q a n (same a (omega arith) ∙ no') ∙ rest ∙ sym (passed_rest p a n no')
    ]

-- without the first that passed, the others pass
passed_without : (p q : ℕ → Bool) (a n c : ℕ) (cs : List ℕ) → filter p (range_with_len a n) ≡ c ∷ cs → q c ≡ false → ((d : ℕ) → d ≢ c → q d ≡ p d)
    → filter q (range_with_len a n) ≡ cs
passed_without p q a zero c cs e none same = absurd (no_cons e)
passed_without p q a (suc n) c cs e none same = elim (cases_Bool (p a)) [
  | inl yes' ↦
      let both = sym (passed_first p a n yes') ∙ e in
      let first : a ≡ c = cons_head both in
      passed_rest q a n (ap q first ∙ none)
      ∙ passed_same p q (a + 1) n (λ d from. same d (λ is. let f = first in absurd (omega (arith, is, f, from))))
      ∙ cons_tail both
  | inr no' ↦
      let here : q a ≡ false = elim (cases_eq a c) [
        | inl is ↦ ap q is ∙ none
        | inr other ↦ same a other ∙ no'
      ] in
      passed_rest q a n here ∙ passed_without p q (a + 1) n c cs (sym (passed_rest p a n no') ∙ e) none same
]

-- the first that passed is one of the numbers
first_below : (p : ℕ → Bool) (a n c : ℕ) (cs : List ℕ) → filter p (range_with_len a n) ≡ c ∷ cs → c < a + n
first_below p a zero c cs e = absurd (no_cons e)
first_below p a (suc n) c cs e = elim (cases_Bool (p a)) [
  | inl yes' ↦ let first : a ≡ c = cons_head (sym (passed_first p a n yes') ∙ e) in omega arith
  | inr no' ↦ let rest = first_below p (a + 1) n c cs (sym (passed_rest p a n no') ∙ e) in omega arith
]

busy_disabled : (cells : List Cell) (s : State) (c : ℕ) → is_busy s c ≡ true → is_enabled cells s c ≡ false
unfolding is_enabled
busy_disabled cells s c busy = rw busy refl

fired_busy : (cells : List Cell) (s : State) (c : ℕ) → c < length s.busy → is_busy (fire cells s c) c ≡ true
unfolding fire
fired_busy cells s c within = get_or-set_same s.busy c true false within

others_same : (cells : List Cell) (s : State) (c d : ℕ) → d ≢ c → is_enabled cells (fire cells s c) d ≡ is_enabled cells s d
unfolding fire is_enabled
others_same cells s c d other =
    rw (get_or-set_other s.busy c d true false other, get_or-set_other s.fired c d (firings s c + 1) 0 other, get_or-set_other s.places c d _ [] other) refl

pub once_fired : (cells : List Cell) (s : State) (c : ℕ) (cs : List ℕ) → length s.busy ≡ length cells → enabled cells s ≡ c ∷ cs → enabled cells (fire cells s c) ≡ cs
unfolding enabled
once_fired cells s c cs long e =
    let below = first_below (is_enabled cells s) 0 (length cells) c cs e in
    passed_without (is_enabled cells s) (is_enabled cells (fire cells s c)) 0 (length cells) c cs e
    (busy_disabled cells (fire cells s c) c (fired_busy cells s c (omega arith))) (others_same cells s c)

pub fire_length : (cells : List Cell) (s : State) (c : ℕ) → length (fire cells s c).busy ≡ length s.busy
unfolding fire
fire_length cells s c = length-set s.busy c true

-- choice 0 fires the first enabled cell
pub chosen_first : (cells : List Cell) (inputs : List (List Value)) (s : State) (c : ℕ) (cs : List ℕ) → enabled cells s ≡ c ∷ cs → chosen cells inputs s 0 ≡ fire cells s c
unfolding chosen next
chosen_first cells inputs s c cs e =
    let m : 0 % possible cells s ≡ 0 = zero-mod (possible cells s) in
    let first : slice_get (enabled cells s) 0 ≡ Some c = ap (λ l. slice_get l 0) e in
    ap (λ k. state_from cells inputs s (k - length (enabled cells s)) (slice_get (enabled cells s) k) (slice_get s.packets (k - length (enabled cells s)))) m
    ∙ ap (λ o. state_from cells inputs s (0 - length (enabled cells s)) o (slice_get s.packets (0 - length (enabled cells s)))) first

pub run_fires : (cells : List Cell) (inputs : List (List Value)) (cs : List ℕ) (s : State) → length s.busy ≡ length cells → enabled cells s ≡ cs
    → run cells inputs s (replicate (length cs) 0) ≡ fired_all cells s cs
run_fires cells inputs [] s long e = refl
run_fires cells inputs (c ∷ cs) s long e =
    ap (λ t. run cells inputs t (replicate (length cs) 0)) (chosen_first cells inputs s c cs e)
    ∙ run_fires cells inputs cs (fire cells s c) (fire_length cells s c ∙ long) (once_fired cells s c cs long e)

-- ---- the packets

pub chosen_oldest : (cells : List Cell) (inputs : List (List Value)) (s : State) → 0 < length s.packets → chosen cells inputs s (length (enabled cells s)) ≡ oldest_taken cells inputs s
unfolding chosen next possible
chosen_oldest cells inputs s some =
    let n = length (enabled cells s) in
    let m : n % possible cells s ≡ n = mod-eq_of_lt (omega arith) in
    let past : slice_get (enabled cells s) n ≡ None = slice_get_past (enabled cells s) n (omega arith) in
    let zero' : n - n ≡ 0 = omega arith in
    ap (λ k. state_from cells inputs s (k - n) (slice_get (enabled cells s) k) (slice_get s.packets (k - n))) m
    ∙ ap (λ o. state_from cells inputs s (n - n) o (slice_get s.packets (n - n))) past
    ∙ ap (λ i. state_from cells inputs s i None (slice_get s.packets i)) zero'

pub oldest_packets : (cells : List Cell) (inputs : List (List Value)) (s : State) (packets : List Packet) → s.packets ≡ packets → length packets ≤ length (oldest_taken cells inputs s).packets + 1
oldest_packets cells inputs s [] e = omega arith
oldest_packets cells inputs s (p ∷ packets) e =
    let gone : State = record s { packets = remove s.packets 0 } in
    let a = adds cells inputs gone p in
    let taken : oldest_taken cells inputs s ≡ deliver cells inputs gone p = ap (λ l. state_from cells inputs s 0 None (slice_get l 0)) e in
    let len = ap (λ (t : State). length t.packets) taken ∙ ap (λ (l : List Packet). length l) a.same ∙ length-append (remove s.packets 0) a.more in
    let tail : length (remove s.packets 0) ≡ length packets = ap (λ (l : List Packet). length (remove l 0)) e in
    omega arith

pub run_packets : (cells : List Cell) (inputs : List (List Value)) (n : ℕ) (s : State) → n ≤ length s.packets → run cells inputs s (packet_choices cells inputs n s) ≡ packets_taken cells inputs n s
run_packets cells inputs zero s few = refl
run_packets cells inputs (suc n) s few =
    let left = oldest_packets cells inputs s s.packets refl in
    ap (λ t. run cells inputs t (packet_choices cells inputs n (oldest_taken cells inputs s))) (chosen_oldest cells inputs s (omega arith))
    ∙ run_packets cells inputs n (oldest_taken cells inputs s) (omega arith)

pub run_flight : (cells : List Cell) (inputs : List (List Value)) (s : State) → run cells inputs s (flight_choices cells inputs s) ≡ flight_taken cells inputs s
run_flight cells inputs s = run_packets cells inputs (length s.packets) s (omega arith)

pub run_phase : JoinsRuns → (cells : List Cell) (inputs : List (List Value)) (s : State) → length s.busy ≡ length cells → run cells inputs s (phase_choices cells inputs s) ≡ phase cells inputs s
unfolding phase phase_choices
run_phase joins cells inputs s long =
    let cs = enabled cells s in
    let a = fired_all cells s cs in
    let b = flight_taken cells inputs a in
    joins cells inputs s (replicate (length cs) 0) (choices_once_fired cells inputs a)
    ∙ ap (λ t. run cells inputs t (choices_once_fired cells inputs a)) (run_fires cells inputs cs s long refl)
    ∙ joins cells inputs a (flight_choices cells inputs a) (flight_choices cells inputs b)
    ∙ ap (λ t. run cells inputs t (flight_choices cells inputs b)) (run_flight cells inputs a)
    ∙ run_flight cells inputs b

-- ---- all phases

deliver_busy : (cells : List Cell) (inputs : List (List Value)) (s : State) (packet : Packet) → length (deliver cells inputs s packet).busy ≡ length s.busy
unfolding perform arrive acknowledge
deliver_busy cells inputs s (Operation c x) = length-set s.busy c.0 false
deliver_busy cells inputs s (Operand d v) = refl
deliver_busy cells inputs s (Acknowledgement d) = refl

from_busy : (cells : List Cell) (inputs : List (List Value)) (s : State) (o : Option Packet) → length (state_from cells inputs s 0 None o).busy ≡ length s.busy
from_busy cells inputs s None = refl
from_busy cells inputs s (Some packet) = deliver_busy cells inputs (record s { packets = remove s.packets 0 }) packet

pub any_busy : (cells : List Cell) (inputs : List (List Value)) (s : State) (i : ℕ) (o : Option ℕ) (p : Option Packet) → length (state_from cells inputs s i o p).busy ≡ length s.busy
any_busy cells inputs s i (Some c) p = fire_length cells s c
any_busy cells inputs s i None (Some packet) = deliver_busy cells inputs (record s { packets = remove s.packets i }) packet
any_busy cells inputs s i None None = refl

taken_busy : (cells : List Cell) (inputs : List (List Value)) (n : ℕ) (s : State) → length (packets_taken cells inputs n s).busy ≡ length s.busy
taken_busy cells inputs zero s = refl
taken_busy cells inputs (suc n) s = taken_busy cells inputs n (oldest_taken cells inputs s) ∙ from_busy cells inputs s (slice_get s.packets 0)

all_busy : (cells : List Cell) (cs : List ℕ) (s : State) → length (fired_all cells s cs).busy ≡ length s.busy
all_busy cells [] s = refl
all_busy cells (c ∷ cs) s = all_busy cells cs (fire cells s c) ∙ fire_length cells s c

phase_busy : (cells : List Cell) (inputs : List (List Value)) (s : State) → length (phase cells inputs s).busy ≡ length s.busy
unfolding phase
phase_busy cells inputs s =
    let a = fired_all cells s (enabled cells s) in
    let b = flight_taken cells inputs a in
    taken_busy cells inputs (length b.packets) b ∙ taken_busy cells inputs (length a.packets) a ∙ all_busy cells (enabled cells s) s

phases_busy : (cells : List Cell) (inputs : List (List Value)) (k : ℕ) → length (phases_from cells inputs k (start cells)).busy ≡ length cells
unfolding start
phases_busy cells inputs zero = length-replicate (length cells) false
phases_busy cells inputs (suc k) = phase_busy cells inputs (phases_from cells inputs k (start cells)) ∙ phases_busy cells inputs k

run_phases : JoinsRuns → (cells : List Cell) (inputs : List (List Value)) (k : ℕ) → run cells inputs (start cells) (choices_from cells inputs k (start cells)) ≡ phases_from cells inputs k (start cells)
run_phases joins cells inputs zero = refl
run_phases joins cells inputs (suc k) =
    let s = phases_from cells inputs k (start cells) in
    joins cells inputs (start cells) (choices_from cells inputs k (start cells)) (phase_choices cells inputs s)
    ∙ ap (λ t. run cells inputs t (phase_choices cells inputs s)) (run_phases joins cells inputs k)
    ∙ run_phase joins cells inputs s (phases_busy cells inputs k)

pub phases_run : JoinsRuns → PhasesAreRuns
unfolding after_phases after choices_of_phases
phases_run joins cells inputs k = sym (run_phases joins cells inputs k)
