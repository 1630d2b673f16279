-- What a u32 doesn't tell of the numbers of firings makes no difference to a run.
use Rattle.std.proofs.Common.{◌≡◌, ℕ, zero, suc, ◌+◌, ◌-◌, ◌%◌, ◌<◌, Bool, true, false, not, ◌&&◌, ◌==◌, List, [], ◌∷◌, ◌++◌, get_or, map, set, length, Option, Some, None, refl, sym, ◌∙◌, ap, inl, inr, arith}
use Rattle.std.specs.Prelude.{slice_get}
use Rattle.std.specs.List.{filter, range_with_len}
use Rattle.std.proofs.Math.ListN.{get_or-map}
use Rattle.std.proofs.lemmas.List.{map-set, get_or-set_same, get_or-set_other, get_or_past, length-set}
use Rattle.std.proofs.lemmas.Bool.{cases_lt, cases_eq, ltb-true}
use Rattle.df_values.specs.declared.values.Value.{Value}
use Rattle.df_cells.specs.declared.cells.Cell.{Cell}
use Rattle.df_cells.specs.declared.kinds.Kind.{Kind}
use Rattle.df_cells.specs.declared.kinds.Kind.TheVariants as kind
use Rattle.df_cells.specs.Kinds.{source_length, limit}
use Rattle.df_cells.specs.Firings.{Operands, with_constants, answer}
use Rattle.df_cells.specs.Cells.{cell_at, values_of}
use Rattle.df_machine.specs.declared.packets.Packet.{Packet}
use Rattle.df_machine.specs.declared.packets.Packet.TheVariants.{Operation, Operand, Acknowledgement}
use Rattle.df_machine.specs.CanRun.{CanRun}
use Rattle.df_machine.specs.States.{State, row, is_busy, awaits, firings, told_count, told}
use Rattle.df_machine.specs.Events.{is_below, has_operands, is_enabled, enabled, possible, taken, left, fire, answers, acknowledgements, answer_now, perform, arrive, acknowledge, written, event_from, state_from, event_at, next, chosen, chosen_event}
use Rattle.df_machine.specs.Sound.{IsWithinLimits}
use Rattle.df_machine.proofs.Formed.{limit_from_source}
use Rattle.df_machine.proofs.Outputs.{limit_from_enabled}
use Rattle.df_machine.proofs.Performs.{without}
use Rattle.df_machine.proofs.SoundRuns.{enabled_at}

-- ---- numbers

pub told_twice : (xs : List ℕ) → map told_count (map told_count xs) ≡ map told_count xs
told_twice [] = refl
told_twice (x ∷ xs) = let e : told_count (told_count x) ≡ told_count x = omega arith in ap (λ y. y ∷ map told_count (map told_count xs)) e ∙ ap (λ l. told_count x ∷ l) (told_twice xs)

pub firings_told : (s : State) (c : ℕ) → firings (told s) c ≡ told_count (firings s c)
firings_told s c = get_or-map told_count s.fired c 0

-- what is told of a state has been told
pub told_again : (s : State) → told (told s) ≡ told s
told_again s = ap (λ f. record s { fired = f }) (told_twice s.fired)

-- all of a number within the limits is told
count_told : (cells : List Cell) (s : State) (c m : ℕ) → CanRun cells → IsWithinLimits cells s → limit (cell_at cells c).kind ≡ Some m → firings (told s) c ≡ firings s c
count_told cells s c m w within is = let f = firings_told s c in let a = within c m is in let b = w.short c m is in omega arith

pub within_told : (cells : List Cell) (s : State) → IsWithinLimits cells s → IsWithinLimits cells (told s)
within_told cells s within c m is = let f = firings_told s c in let a = within c m is in omega arith

-- ---- the same events are possible

below_same : (n m : ℕ) (l : Option ℕ) → ((k : ℕ) → l ≡ Some k → n ≡ m) → is_below n l ≡ is_below m l
below_same n m None h = refl
below_same n m (Some k) h = ap (λ i. is_below i (Some k)) (h k refl)

enabled_one : (cells : List Cell) (s : State) → CanRun cells → IsWithinLimits cells s → (c : ℕ) → is_enabled cells (told s) c ≡ is_enabled cells s c
unfolding is_enabled
enabled_one cells s w within c =
    ap (λ b. not (is_busy s c) && (awaits s c == 0) && b && has_operands (cell_at cells c) (row s c))
    (below_same (firings (told s) c) (firings s c) (limit (cell_at cells c).kind) (λ m is. count_told cells s c m w within is))

filter_same : (p q : ℕ → Bool) → ((x : ℕ) → p x ≡ q x) → (xs : List ℕ) → filter p xs ≡ filter q xs
filter_same p q h [] = refl
filter_same p q h (x ∷ xs) = simp (h x, filter_same p q h xs)

pub enabled_told : (cells : List Cell) (s : State) → CanRun cells → IsWithinLimits cells s → enabled cells (told s) ≡ enabled cells s
unfolding enabled
enabled_told cells s w within = filter_same (is_enabled cells (told s)) (is_enabled cells s) (enabled_one cells s w within) (range_with_len 0 (length cells))

pub possible_told : (cells : List Cell) (s : State) → CanRun cells → IsWithinLimits cells s → possible cells (told s) ≡ possible cells s
unfolding possible
possible_told cells s w within = ap (λ (l : List ℕ). length l + length s.packets) (enabled_told cells s w within)

pub event_told : (cells : List Cell) (s : State) (k : ℕ) → CanRun cells → IsWithinLimits cells s → chosen_event cells (told s) k ≡ chosen_event cells s k
unfolding chosen_event event_at possible
event_told cells s k w within =
    let at = λ (l : List ℕ). k % (length l + length s.packets) in
    ap (λ (l : List ℕ). event_from (slice_get l (at l)) (slice_get s.packets (at l - length l))) (enabled_told cells s w within)

-- ---- what they do

-- only the answer of a source depends on the number of its firing
answer_same : (it : Kind) (n m : ℕ) (values : List Value) (x : Operands) → ((k : ℕ) → source_length it ≡ Some k → n ≡ m) → answer it n values x ≡ answer it m values x
unfolding answer
answer_same (kind.In name basic k) n m values x h = ap (λ i. slice_get values i) (h k refl)
answer_same (kind.Idx lo k) n m values x h = ap (λ i. answer (kind.Idx lo k) i values x) (h k refl)
answer_same (kind.Ctl runs) n m values x h = ap (λ i. answer (kind.Ctl runs) i values x) (h _ refl)
answer_same _ n m values x h = refl

now_same : (cells : List Cell) (inputs : List (List Value)) (s : State) (c : ℕ) (x : Operands) → CanRun cells → IsWithinLimits cells s
    → answer_now cells inputs (told s) c x ≡ answer_now cells inputs s c x
now_same cells inputs s c x w within =
    answer_same (cell_at cells c).kind (firings (told s) c - 1) (firings s c - 1) (values_of cells inputs c) (with_constants (cell_at cells c) x)
    (λ k is. ap (λ n. n - 1) (count_told cells s c k w within (limit_from_source (cell_at cells c).kind k is)))

fire_told : (cells : List Cell) (s : State) (c : ℕ) → told (fire cells (told s) c) ≡ told (fire cells s c)
unfolding fire
fire_told cells s c =
    let n = firings s c in
    let counts : told_count (firings (told s) c + 1) ≡ told_count (n + 1) = let f = firings_told s c in omega arith in
    ap (λ f. record (told (fire cells s c)) { fired = f })
    (map-set told_count (map told_count s.fired) c (firings (told s) c + 1)
    ∙ ap (λ l. set l c (told_count (firings (told s) c + 1))) (told_twice s.fired)
    ∙ ap (λ k. set (map told_count s.fired) c k) counts
    ∙ sym (map-set told_count s.fired c (n + 1)))

-- an element that was read, whatever would stand for one that isn't there
pub read_at : {A : Type 0} (xs : List A) (i : ℕ) (x d : A) → i < length xs → x ≡ get_or xs i x → x ≡ get_or xs i d
read_at [] i x d h is = absurd (omega arith)
read_at (y ∷ xs) zero x d h is = is
read_at (y ∷ xs) (suc i) x d h is = read_at xs i x d (omega arith) is

-- what begins a firing, part by part
pub fire_parts : (cells : List Cell) (s : State) (c : ℕ) (x y : Operands) (n : ℕ) (packets : List Packet) → told s ≡ s → x ≡ left (cell_at cells c) (row s c) → y ≡ taken (cell_at cells c) (row s c)
    → n ≡ told_count (firings s c + 1) → packets ≡ s.packets ++ Operation (record { 0 = c }) y ∷ []
    → record s { places = set s.places c x; busy = set s.busy c true; fired = set s.fired c n; packets = packets } ≡ told (fire cells s c)
unfolding fire
fire_parts cells s c x y n packets is lefts takes count grown =
    let state = λ (p : List Operands) (f : List ℕ) (k : List Packet). let t : State = record s { places = p; busy = set s.busy c true; fired = f; packets = k } in t in
    let old : map told_count s.fired ≡ s.fired = ap (λ (t : State). t.fired) is in
    ap (λ o. state (set s.places c o) (set s.fired c n) packets) lefts
    ∙ ap (λ f. state (set s.places c (left (cell_at cells c) (row s c))) f packets)
    (ap (λ m. set s.fired c m) count ∙ sym (map-set told_count s.fired c (firings s c + 1) ∙ ap (λ l. set l c (told_count (firings s c + 1))) old))
    ∙ ap (λ k. state (set s.places c (left (cell_at cells c) (row s c))) (map told_count (set s.fired c (firings s c + 1))) k)
    (grown ∙ ap (λ o. s.packets ++ Operation (record { 0 = c }) o ∷ []) takes)

-- what ends a firing that answers so
abbrev performed : List Cell → State → ℕ → Operands → Option Value → State
performed cells s c x a =
    let sent = answers a (cell_at cells c).dests in
    record s {
      busy = set s.busy c false;
      awaited = set s.awaited c (length sent);
      packets = s.packets ++ (sent ++ acknowledgements c x);
      results = written (cell_at cells c).kind (with_constants (cell_at cells c) x) s.results;
    }

perform_told : (cells : List Cell) (inputs : List (List Value)) (s : State) (c : ℕ) (x : Operands) → CanRun cells → IsWithinLimits cells s
    → told (perform cells inputs (told s) c x) ≡ told (perform cells inputs s c x)
unfolding perform
perform_told cells inputs s c x w within =
    ap (λ a. told (performed cells (told s) c x a)) (now_same cells inputs s c x w within)
    ∙ ap (λ f. record (performed cells s c x (answer_now cells inputs s c x)) { fired = f }) (told_twice s.fired)

from_told : (cells : List Cell) (inputs : List (List Value)) (s : State) (i : ℕ) (fires : Option ℕ) (packet : Option Packet) → CanRun cells → IsWithinLimits cells s
    → told (state_from cells inputs (told s) i fires packet) ≡ told (state_from cells inputs s i fires packet)
unfolding arrive acknowledge
from_told cells inputs s i (Some c) packet w within = fire_told cells s c
from_told cells inputs s i None (Some (Operation c x)) w within = perform_told cells inputs (without s i) c.0 x w within
from_told cells inputs s i None (Some (Operand d v)) w within = ap (λ f. record (arrive (without s i) d v) { fired = f }) (told_twice s.fired)
from_told cells inputs s i None (Some (Acknowledgement d)) w within = ap (λ f. record (acknowledge cells (without s i) d) { fired = f }) (told_twice s.fired)
from_told cells inputs s i None None w within = told_again s

pub chosen_told : (cells : List Cell) (inputs : List (List Value)) (s : State) (k : ℕ) → CanRun cells → IsWithinLimits cells s
    → told (chosen cells inputs (told s) k) ≡ told (chosen cells inputs s k)
unfolding chosen next possible
chosen_told cells inputs s k w within =
    let n = length (enabled cells s) in
    let m = k % (n + length s.packets) in
    let at = λ (l : List ℕ). k % (length l + length s.packets) in
    ap (λ (l : List ℕ). told (state_from cells inputs (told s) (at l - length l) (slice_get l (at l)) (slice_get s.packets (at l - length l)))) (enabled_told cells s w within)
    ∙ from_told cells inputs s (m - n) (slice_get (enabled cells s) m) (slice_get s.packets (m - n)) w within

-- ---- the limits are kept

within_fire : (cells : List Cell) (s : State) (c0 : ℕ) → IsWithinLimits cells s → is_enabled cells s c0 ≡ true → IsWithinLimits cells (fire cells s c0)
unfolding fire
within_fire cells s c0 within e c m is = elim (cases_eq c c0) [
  | inr other ↦ let f = get_or-set_other s.fired c0 c (firings s c0 + 1) 0 other in let old = within c m is in omega arith
  | inl same ↦ elim (cases_lt c0 (length s.fired)) [
    | inl there ↦
        let f = ap (λ i. get_or (set s.fired c0 (firings s c0 + 1)) i 0) same ∙ get_or-set_same s.fired c0 (firings s c0 + 1) 0 there in
        let below = ap (is_below (firings s c0)) (sym is ∙ ap (λ i. limit (cell_at cells i).kind) same) ∙ limit_from_enabled cells s c0 e in
        let lt = ltb-true (firings s c0) m below in
        omega arith
    | inr past ↦ let len = length-set s.fired c0 (firings s c0 + 1) in let f = get_or_past (set s.fired c0 (firings s c0 + 1)) c 0 (omega arith) in omega arith
  ]
]

within_from : (cells : List Cell) (inputs : List (List Value)) (s : State) (i : ℕ) (fires : Option ℕ) (packet : Option Packet) → IsWithinLimits cells s
    → ((c : ℕ) → fires ≡ Some c → is_enabled cells s c ≡ true) → IsWithinLimits cells (state_from cells inputs s i fires packet)
unfolding perform arrive acknowledge
within_from cells inputs s i (Some c) packet within ready = within_fire cells s c within (ready c refl)
within_from cells inputs s i None (Some (Operation c x)) within ready = within
within_from cells inputs s i None (Some (Operand d v)) within ready = within
within_from cells inputs s i None (Some (Acknowledgement d)) within ready = within
within_from cells inputs s i None None within ready = within

pub within_chosen : (cells : List Cell) (inputs : List (List Value)) (s : State) (k : ℕ) → IsWithinLimits cells s → IsWithinLimits cells (chosen cells inputs s k)
unfolding chosen next
within_chosen cells inputs s k within =
    let m = k % possible cells s in
    let i = m - length (enabled cells s) in
    within_from cells inputs s i (slice_get (enabled cells s) m) (slice_get s.packets i) within (λ c h. (enabled_at cells s m c h).1)
