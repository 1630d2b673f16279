-- No two packets in flight have one name: a cell has one firing under way, and one packet is on an arc.
use Rattle.std.proofs.Common.{◌≡◌, ◌≢◌, ℕ, suc, ◌+◌, ◌-◌, ◌%◌, ◌*◌, ◌<◌, ◌≤◌, Bool, true, false, cond, List, [], ◌∷◌, length, Option, Some, None, refl, sym, ◌∙◌, ap, subst, arith}
use Rattle.std.specs.Prelude.{slice_get}
use Rattle.std.specs.List.{count_by, AllByRecursion}
use Rattle.std.proofs.lemmas.List.Sums.{sum_by-cons}
use Rattle.std.proofs.lemmas.Bool.{eq-eqb}
use Rattle.df_cells.specs.declared.cells.Cell.{Cell}
use Rattle.df_cells.specs.declared.cells.CellId.{CellId}
use Rattle.df_cells.specs.declared.cells.Dest.{Dest}
use Rattle.df_cells.specs.Cells.{same_port, port_of, producer_of}
use Rattle.df_machine.specs.declared.packets.Packet.{Packet}
use Rattle.df_machine.specs.declared.packets.Packet.TheVariants.{Operation, Operand, Acknowledgement}
use Rattle.df_machine.specs.CanRun.{CanRun}
use Rattle.df_machine.specs.declared.packets.Event.{Event}
use Rattle.df_machine.specs.declared.packets.Event.TheVariants.{Fire}
use Rattle.df_machine.specs.Events.{enabled, possible, event_of, event_from, event_at, chosen_event}
use Rattle.df_machine.specs.Laws.{IsOfCells}
use Rattle.df_machine.proofs.SoundRuns.{enabled_at}
use Rattle.df_machine.specs.Flights.{packet_name, AreApart, Fits}
use Rattle.df_machine.specs.Sound.{bit, is_operation, is_on, tokens, room_from, Sound}
use Rattle.df_machine.specs.States.{State, is_busy}
use Rattle.df_machine.proofs.Counts.{bit-le, same_port-refl}
use Rattle.df_machine.proofs.Formed.{ports-le}
use Rattle.df_machine.proofs.Performs.{busy_from_packet, within_from_busy}
use Rattle.df_machine.proofs.Arrives.{on_arc, fed_within}

-- a packet of a cell in a list of so many cells, at one of its three ports
abbrev pub IsPlaced : ℕ → Packet → Type 0
IsPlaced n (Operation c x) = c.0 < n
IsPlaced n (Operand d v) = (d.cell.0 < n) × (d.port.0 < 3)
IsPlaced n (Acknowledgement d) = (d.cell.0 < n) × (d.port.0 < 3)

record AreFew (packets : List Packet) : Type 0 where
  pub firings : (c : ℕ) → count_by (is_operation c) packets ≤ 1
  pub arcs : (d : Dest) → count_by (is_on d) packets ≤ 1

few_behind : (p : Packet) (packets : List Packet) → AreFew (p ∷ packets) → AreFew packets
few_behind p packets few = record {
  firings = λ c. let l = sum_by-cons (λ q. bit (is_operation c q)) p packets in let m = few.firings c in omega arith;
  arcs = λ d. let l = sum_by-cons (λ q. bit (is_on d q)) p packets in let m = few.arcs d in omega arith;
}

-- one port is named by its number
same_from_name : (d e : Dest) → d.port.0 < 3 → e.port.0 < 3 → 4 * d.cell.0 + 1 + d.port.0 ≡ 4 * e.cell.0 + 1 + e.port.0 → d ≡ e
same_from_name d e a b n =
    let c : d.cell.0 ≡ e.cell.0 = omega arith in let p : d.port.0 ≡ e.port.0 = omega arith in
    ap (λ i. port_of i d.port.0) c ∙ ap (λ q. port_of e.cell.0 q) p

apart_firing : (n c : ℕ) (packets : List Packet) → count_by (is_operation c) packets ≤ 0 → AllByRecursion (IsPlaced n) packets
    → AllByRecursion (λ other. packet_name other ≢ 4 * c) packets
apart_firing n c [] none placed = tt
apart_firing n c (Operation e x ∷ packets) none placed =
    let l = sum_by-cons (λ q. bit (is_operation c q)) (Operation e x) packets in (
      λ same. let one : bit (is_operation c (Operation e x)) ≡ 1 = ap bit (eq-eqb e.0 c (omega arith)) in absurd (omega arith),
      apart_firing n c packets (omega arith) placed.1,
    )
apart_firing n c (Operand d v ∷ packets) none placed =
    let l = sum_by-cons (λ q. bit (is_operation c q)) (Operand d v) packets in let port = placed.0.1 in
    (λ same. absurd (omega arith), apart_firing n c packets (omega arith) placed.1)
apart_firing n c (Acknowledgement d ∷ packets) none placed =
    let l = sum_by-cons (λ q. bit (is_operation c q)) (Acknowledgement d) packets in let port = placed.0.1 in
    (λ same. absurd (omega arith), apart_firing n c packets (omega arith) placed.1)

apart_arc : (n : ℕ) (d : Dest) (packets : List Packet) → d.port.0 < 3 → count_by (is_on d) packets ≤ 0 → AllByRecursion (IsPlaced n) packets
    → AllByRecursion (λ other. packet_name other ≢ 4 * d.cell.0 + 1 + d.port.0) packets
apart_arc n d [] port none placed = tt
apart_arc n d (Operation e x ∷ packets) port none placed =
    let l = sum_by-cons (λ q. bit (is_on d q)) (Operation e x) packets in
    (λ same. absurd (omega arith), apart_arc n d packets port (omega arith) placed.1)
apart_arc n d (Operand e v ∷ packets) port none placed =
    let l = sum_by-cons (λ q. bit (is_on d q)) (Operand e v) packets in let port' = placed.0.1 in (
      λ same. let one : bit (same_port d e) ≡ 1 = ap bit (subst (λ x. same_port d x ≡ true) (same_from_name d e port port' (sym same)) (same_port-refl d)) in absurd (omega arith),
      apart_arc n d packets port (omega arith) placed.1,
    )
apart_arc n d (Acknowledgement e ∷ packets) port none placed =
    let l = sum_by-cons (λ q. bit (is_on d q)) (Acknowledgement e) packets in let port' = placed.0.1 in (
      λ same. let one : bit (same_port d e) ≡ 1 = ap bit (subst (λ x. same_port d x ≡ true) (same_from_name d e port port' (sym same)) (same_port-refl d)) in absurd (omega arith),
      apart_arc n d packets port (omega arith) placed.1,
    )

apart_few : (n : ℕ) (packets : List Packet) → AreFew packets → AllByRecursion (IsPlaced n) packets → AreApart packets
apart_few n [] few placed = tt
apart_few n (Operation c x ∷ packets) few placed =
    let l = sum_by-cons (λ q. bit (is_operation c.0 q)) (Operation c x) packets in let m = few.firings c.0 in let one = ap bit (eq-eqb c.0 c.0 refl) in
    (apart_firing n c.0 packets (omega arith) placed.1, apart_few n packets (few_behind (Operation c x) packets few) placed.1)
apart_few n (Operand d v ∷ packets) few placed =
    let l = sum_by-cons (λ q. bit (is_on d q)) (Operand d v) packets in let m = few.arcs d in let one = ap bit (same_port-refl d) in
    (apart_arc n d packets placed.0.1 (omega arith) placed.1, apart_few n packets (few_behind (Operand d v) packets few) placed.1)
apart_few n (Acknowledgement d ∷ packets) few placed =
    let l = sum_by-cons (λ q. bit (is_on d q)) (Acknowledgement d) packets in let m = few.arcs d in let one = ap bit (same_port-refl d) in
    (apart_arc n d packets placed.0.1 (omega arith) placed.1, apart_few n packets (few_behind (Acknowledgement d) packets few) placed.1)

within_placed : (n : ℕ) (packets : List Packet) → AllByRecursion (IsPlaced n) packets → AllByRecursion (λ packet. packet_name packet < 4 * n) packets
within_placed n [] placed = tt
within_placed n (Operation c x ∷ packets) placed = (let a = placed.0 in omega arith, within_placed n packets placed.1)
within_placed n (Operand d v ∷ packets) placed = (let a = placed.0.0 in let b = placed.0.1 in omega arith, within_placed n packets placed.1)
within_placed n (Acknowledgement d ∷ packets) placed = (let a = placed.0.0 in let b = placed.0.1 in omega arith, within_placed n packets placed.1)

-- ---- of a state that is sound

placed_at : (cells : List Cell) (s : State) (i : ℕ) (packet : Packet) → CanRun cells → Sound cells s → slice_get s.packets i ≡ Some packet → IsPlaced (length cells) packet
placed_at cells s i (Operation c x) w sound at = within_from_busy cells s c.0 sound (busy_from_packet cells s i c.0 x sound at)
placed_at cells s i (Operand d v) w sound at =
    let here = on_arc cells s i (Operand d v) d sound at (same_port-refl d) in let fed = fed_within cells d here.1.0 here.1.1 in
    (fed.0, let p = ports-le cells w d.cell.0 in let q = fed.1 in omega arith)
placed_at cells s i (Acknowledgement d) w sound at =
    let here = on_arc cells s i (Acknowledgement d) d sound at (same_port-refl d) in let fed = fed_within cells d here.1.0 here.1.1 in
    (fed.0, let p = ports-le cells w d.cell.0 in let q = fed.1 in omega arith)

-- the event of a packet, and of a cell or a packet
of_packet : (n : ℕ) (p : Packet) → IsPlaced n p → IsOfCells n (event_of p)
of_packet n (Operation c x) placed = placed
of_packet n (Operand d v) placed = placed
of_packet n (Acknowledgement d) placed = placed

of_either : (n : ℕ) (cell : Option ℕ) (packet : Option Packet) (event : Event) → ((c : ℕ) → cell ≡ Some c → c < n) → ((p : Packet) → packet ≡ Some p → IsPlaced n p)
    → event_from cell packet ≡ Some event → IsOfCells n event
of_either n (Some c) packet event within placed is = subst (IsOfCells n) (let e : Fire (record { 0 = c }) ≡ event = cc in e) (within c refl)
of_either n None (Some p) event within placed is = subst (IsOfCells n) (let e : event_of p ≡ event = cc in e) (of_packet n p (placed p refl))
of_either n None None event within placed is = cc

pub event_placed : (cells : List Cell) (s : State) (k : ℕ) (event : Event) → CanRun cells → Sound cells s → chosen_event cells s k ≡ Some event → IsOfCells (length cells) event
unfolding chosen_event event_at
event_placed cells s k event w sound is =
    let m = k % possible cells s in let i = m - length (enabled cells s) in
    of_either (length cells) (slice_get (enabled cells s) m) (slice_get s.packets i) event
    (λ c at. (enabled_at cells s m c at).0) (λ p at. placed_at cells s i p w sound at) is

all_by_places : {A : Type 0} (P : A → Type 0) (xs : List A) → ((i : ℕ) (x : A) → slice_get xs i ≡ Some x → P x) → AllByRecursion P xs
all_by_places P [] each = tt
all_by_places P (x ∷ xs) each = (each 0 x refl, all_by_places P xs (λ i y at. each (suc i) y at))

busy-le : (b : Bool) → cond b 0 1 ≤ 1
busy-le true = omega arith
busy-le false = omega arith

room-le : (s : State) (u : Option CellId) → room_from s u ≤ 1
room-le s None = omega arith
room-le s (Some u) = busy-le (is_busy s u.0)

few_sound : (cells : List Cell) (s : State) → Sound cells s → AreFew s.packets
unfolding tokens
few_sound cells s sound = record {
  firings = λ c. let e = sound.once c in let b = bit-le (is_busy s c) in omega arith;
  arcs = λ d. let a = sound.arcs d in let r = room-le s (producer_of cells d) in omega arith;
}

pub fits_sound : (cells : List Cell) (s : State) → CanRun cells → Sound cells s → Fits (4 * length cells) s.packets
fits_sound cells s w sound =
    let placed = all_by_places (IsPlaced (length cells)) s.packets (λ i packet at. placed_at cells s i packet w sound at) in record {
      apart = apart_few (length cells) s.packets (few_sound cells s sound) placed;
      within = within_placed (length cells) s.packets placed;
    }
