-- Runs from what a u32 tells of a state, and how many firings a run can have.
use Rattle.std.proofs.Common.{◌≡◌, ℕ, zero, suc, ◌+◌, ◌-◌, ◌%◌, ◌≤◌, Bool, cond, ◌==◌, List, [], ◌∷◌, ◌++◌, get_or, map, set, length, Option, Some, None, refl, sym, ◌∙◌, ap, inl, inr, arith}
use Rattle.std.specs.Prelude.{slice_get}
use Rattle.std.proofs.lemmas.List.{get_or-set_same, get_or-set_other, get_or_past, length-set}
use Rattle.std.proofs.lemmas.Bool.{cases_lt, cases_eq, eq-eqb, ne_eqb}
use Rattle.df_values.specs.declared.values.Value.{Value}
use Rattle.df_cells.specs.declared.cells.Cell.{Cell}
use Rattle.df_machine.specs.declared.packets.Packet.{Packet}
use Rattle.df_machine.specs.declared.packets.Packet.TheVariants.{Operation, Operand, Acknowledgement}
use Rattle.df_machine.specs.CanRun.{CanRun}
use Rattle.df_machine.specs.States.{State, start, firings, told_count, told}
use Rattle.df_machine.specs.Events.{enabled, possible, fire, perform, arrive, acknowledge, state_from, next, chosen}
use Rattle.df_machine.specs.Runs.{run, after, events_from, events}
use Rattle.df_machine.specs.Sound.{IsWithinLimits}
use Rattle.df_machine.proofs.SoundRuns.{default_start}
use Rattle.df_machine.proofs.Steps.{chosen_none}
use Rattle.df_machine.proofs.Told.{told_again, within_told, possible_told, chosen_told, within_chosen}
use Rattle.df_machine.proofs.Drained.{run-append}

pub within_run : (cells : List Cell) (inputs : List (List Value)) (s : State) (ks : List ℕ) → IsWithinLimits cells s → IsWithinLimits cells (run cells inputs s ks)
within_run cells inputs s [] within = within
within_run cells inputs s (k ∷ ks) within = within_run cells inputs (chosen cells inputs s k) ks (within_chosen cells inputs s k within)

pub within_start : (cells : List Cell) → IsWithinLimits cells (start cells)
unfolding start
within_start cells c m is = let f : firings (start cells) c ≡ 0 = default_start (length cells) c 0 in omega arith

pub within_after : (cells : List Cell) (inputs : List (List Value)) (ks : List ℕ) → IsWithinLimits cells (after cells inputs ks)
unfolding after
within_after cells inputs ks = within_run cells inputs (start cells) ks (within_start cells)

-- states of which the same is told go on alike
pub run_told : (cells : List Cell) (inputs : List (List Value)) (s : State) (ks : List ℕ) → CanRun cells → IsWithinLimits cells s
    → told (run cells inputs (told s) ks) ≡ told (run cells inputs s ks)
run_told cells inputs s [] w within = told_again s
run_told cells inputs s (k ∷ ks) w within =
    let x = chosen cells inputs (told s) k in
    let y = chosen cells inputs s k in
    sym (run_told cells inputs x ks w (within_chosen cells inputs (told s) k (within_told cells s within)))
    ∙ ap (λ t. told (run cells inputs t ks)) (chosen_told cells inputs s k w within)
    ∙ run_told cells inputs y ks w (within_chosen cells inputs s k within)

pub events_told : (cells : List Cell) (inputs : List (List Value)) (s : State) (ks : List ℕ) → CanRun cells → IsWithinLimits cells s
    → events_from cells inputs (told s) ks ≡ events_from cells inputs s ks
events_told cells inputs s [] w within = refl
events_told cells inputs s (k ∷ ks) w within =
    let x = chosen cells inputs (told s) k in
    let y = chosen cells inputs s k in
    let one = ap (λ n. cond (n == 0) 0 1 + events_from cells inputs x ks) (possible_told cells s w within) in
    let more =
    sym (events_told cells inputs x ks w (within_chosen cells inputs (told s) k (within_told cells s within)))
    ∙ ap (λ t. events_from cells inputs t ks) (chosen_told cells inputs s k w within)
    ∙ events_told cells inputs y ks w (within_chosen cells inputs s k within) in
    one ∙ ap (λ n. cond (possible cells s == 0) 0 1 + n) more

pub after_told : (cells : List Cell) (inputs : List (List Value)) (ks more : List ℕ) → CanRun cells
    → told (run cells inputs (told (after cells inputs ks)) more) ≡ told (after cells inputs (ks ++ more))
unfolding after
after_told cells inputs ks more w =
    run_told cells inputs (after cells inputs ks) more w (within_after cells inputs ks) ∙ ap told (sym (run-append cells inputs (start cells) ks more))

-- ---- firings and events

more_from : (cells : List Cell) (inputs : List (List Value)) (s : State) (i : ℕ) (fires : Option ℕ) (packet : Option Packet) (c : ℕ)
    → firings (state_from cells inputs s i fires packet) c ≤ firings s c + 1
unfolding fire perform arrive acknowledge
more_from cells inputs s i (Some c0) packet c = elim (cases_eq c c0) [
  | inr other ↦ let f = get_or-set_other s.fired c0 c (firings s c0 + 1) 0 other in omega arith
  | inl same ↦ elim (cases_lt c0 (length s.fired)) [
    | inl there ↦
        let f = ap (λ j. get_or (set s.fired c0 (firings s c0 + 1)) j 0) same ∙ get_or-set_same s.fired c0 (firings s c0 + 1) 0 there in
        let back = ap (λ j. firings s j) same in omega arith
    | inr past ↦ let len = length-set s.fired c0 (firings s c0 + 1) in let f = get_or_past (set s.fired c0 (firings s c0 + 1)) c 0 (omega arith) in omega arith
  ]
]
more_from cells inputs s i None (Some (Operation c0 x)) c = omega arith
more_from cells inputs s i None (Some (Operand d v)) c = omega arith
more_from cells inputs s i None (Some (Acknowledgement d)) c = omega arith
more_from cells inputs s i None None c = omega arith

at_most : (cells : List Cell) (inputs : List (List Value)) (s : State) (k c : ℕ) → firings (chosen cells inputs s k) c ≤ firings s c + 1
unfolding chosen next
at_most cells inputs s k c =
    let m = k % possible cells s in
    let i = m - length (enabled cells s) in
    more_from cells inputs s i (slice_get (enabled cells s) m) (slice_get s.packets i) c

-- none where none is possible, and else one
abbrev no_event : Bool → ℕ
no_event none = cond none 0 1

more_chosen : (cells : List Cell) (inputs : List (List Value)) (s : State) (k c : ℕ) → firings (chosen cells inputs s k) c ≤ firings s c + no_event (possible cells s == 0)
more_chosen cells inputs s k c = elim (cases_eq (possible cells s) 0) [
  | inl none ↦
      let same = ap (λ (t : State). firings t c) (chosen_none cells inputs s k none) in
      let b = ap no_event (eq-eqb (possible cells s) 0 none) in omega arith
  | inr some ↦
      let le = at_most cells inputs s k c in
      let b = ap no_event (ne_eqb (possible cells s) 0 some) in omega arith
]

pub more_run : (cells : List Cell) (inputs : List (List Value)) (s : State) (ks : List ℕ) (c : ℕ) → firings (run cells inputs s ks) c ≤ firings s c + events_from cells inputs s ks
more_run cells inputs s [] c = omega arith
more_run cells inputs s (k ∷ ks) c =
    let one = more_chosen cells inputs s k c in
    let rest = more_run cells inputs (chosen cells inputs s k) ks c in omega arith

pub once_per_event : (cells : List Cell) (inputs : List (List Value)) (ks : List ℕ) (c : ℕ) → firings (after cells inputs ks) c ≤ events cells inputs ks
unfolding after events start
once_per_event cells inputs ks c =
    let f : firings (start cells) c ≡ 0 = default_start (length cells) c 0 in
    let all = more_run cells inputs (start cells) ks c in omega arith

all_told : (xs : List ℕ) → ((c : ℕ) → get_or xs c 0 ≤ 4294967295) → map told_count xs ≡ xs
all_told [] few = refl
all_told (x ∷ xs) few =
    let e : told_count x ≡ x = let le = few zero in omega arith in
    ap (λ y. y ∷ map told_count xs) e ∙ ap (λ l. x ∷ l) (all_told xs (λ c. few (suc c)))

pub short_told : (cells : List Cell) (inputs : List (List Value)) (ks : List ℕ) → events cells inputs ks ≤ 4294967295 → told (after cells inputs ks) ≡ after cells inputs ks
short_told cells inputs ks few =
    let s = after cells inputs ks in
    ap (λ f. record s { fired = f }) (all_told s.fired (λ c. let le = once_per_event cells inputs ks c in omega arith))
