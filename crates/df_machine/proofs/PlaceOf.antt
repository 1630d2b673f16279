-- The place of the possible event in which something happens.
use Rattle.std.proofs.Common.{◌≡◌, ◌≢◌, ℕ, zero, suc, ◌+◌, ◌-◌, ◌%◌, ◌<◌, true, false, List, [], ◌∷◌, get_or, length, Option, Some, None, refl, sym, ◌∙◌, ap, subst, ◌⊎◌, inl, inr, arith}
use Rattle.std.specs.Prelude.{slice_get}
use Rattle.std.specs.List.{AllByRecursion}
use Rattle.std.specs.Option.{option_map}
use Rattle.std.proofs.lemmas.Option.{slice_get_within}
use Rattle.std.proofs.Math.Nat.{mod-eq_of_lt}
use Rattle.df_cells.specs.declared.cells.Cell.{Cell}
use Rattle.df_cells.specs.declared.cells.CellId.{CellId}
use Rattle.df_machine.specs.declared.packets.Packet.{Packet}
use Rattle.df_machine.specs.declared.packets.Packet.TheVariants.{Operation, Operand, Acknowledgement}
use Rattle.df_machine.specs.declared.packets.Action.{Action}
use Rattle.df_machine.specs.declared.packets.Action.TheVariants.{Fire}
use Rattle.df_machine.specs.declared.store.Store.{Store}
use Rattle.df_machine.specs.States.{State}
use Rattle.df_machine.specs.Events.{is_enabled, enabled, possible, event_of, event_from, event_at, chosen_event, action_of}
use Rattle.df_machine.specs.Flights.{IsAt}
use Rattle.df_machine.specs.Indexes.{enabled_flags}
use Rattle.df_machine.specs.Seen.{state_of, Indexed, IsPlaceOf}
use Rattle.df_pick.specs.Sums.{up_count, up_before}
use Rattle.df_machine.proofs.Indexes.{flags_long, flag_is, count_is, kth_is, past_is}
use Rattle.df_machine.proofs.SoundRuns.{enabled_at}

-- ---- an event that is possible

first-le : (n m : ℕ) → n < m → n % m ≡ n
first-le n m h = mod-eq_of_lt h

chosen_at : (cells : List Cell) (s : State) (place : ℕ) (action : Action) → place < possible cells s
    → option_map action_of (event_from (slice_get (enabled cells s) place) (slice_get s.packets (place - length (enabled cells s)))) ≡ Some action → IsPlaceOf cells s place action
unfolding chosen_event event_at
chosen_at cells s place action within is = record {
  within = within;
  chosen = ap (λ k. option_map action_of (event_from (slice_get (enabled cells s) k) (slice_get s.packets (k - length (enabled cells s))))) (first-le place (possible cells s) within) ∙ is;
}

pub place_of_cell : (cells : List Cell) (st : Store) (place : ℕ) (c : CellId) (action : Action) → Indexed cells st → c.0 < length cells → is_enabled cells (state_of st) c.0 ≡ true
    → place ≡ up_before st.enabled c.0 → Fire c ≡ action → IsPlaceOf cells (state_of st) place action
unfolding possible
place_of_cell cells st place c action indexed within up before is =
    let s = state_of st in
    let flag : get_or (enabled_flags cells s) c.0 false ≡ true = flag_is cells s c.0 within ∙ up in
    let at = kth_is cells s place c.0 (let l = flags_long cells s in omega arith) flag (sym (before ∙ ap (λ l. up_before l c.0) indexed)) in
    let some = slice_get_within (enabled cells s) place c.0 at in
    chosen_at cells s place action (omega arith) (ap (λ o. option_map action_of (event_from o (slice_get s.packets (place - length (enabled cells s))))) at ∙ ap (λ e. Some e) is)

pub place_of_packet : (cells : List Cell) (st : Store) (count place : ℕ) (action : Action) → Indexed cells st → count ≡ up_count st.enabled → IsAt st.packets.packets place action
    → IsPlaceOf cells (state_of st) (count + place) action
unfolding possible
place_of_packet cells st count place action indexed counted at =
    let s = state_of st in let few = count_is cells s in
    let all : count ≡ length (enabled cells s) = counted ∙ ap up_count indexed ∙ few in
    let some = slice_get_within s.packets place at.0 at.1 in
    let past = past_is cells s (count + place) (omega arith) in
    chosen_at cells s (count + place) action (omega arith)
    (ap (λ o. option_map action_of (event_from o (slice_get s.packets (count + place - length (enabled cells s))))) past
    ∙ ap (λ k. option_map action_of (event_from None (slice_get s.packets k))) (let z : count + place - length (enabled cells s) ≡ place = omega arith in z)
    ∙ ap (λ o. option_map action_of (event_from None o)) at.1 ∙ ap (λ e. Some e) at.2)

-- ---- what can't happen

-- a cell fires, or a packet is taken
cases_from : (cell : Option ℕ) (packet : Option Packet) (action : Action) → option_map action_of (event_from cell packet) ≡ Some action
    → ((c : ℕ) × (cell ≡ Some c) × (Fire (record { 0 = c }) ≡ action)) ⊎ ((p : Packet) × (packet ≡ Some p) × (action_of (event_of p) ≡ action))
cases_from (Some c) packet action is = inl (c, refl, cc)
cases_from None (Some p) action is = inr (p, refl, cc)
cases_from None None action is = cc

never_fire : (p : Packet) (c : CellId) → action_of (event_of p) ≡ Fire c → ⊥
never_fire (Operation d x) c is = cc
never_fire (Operand d v) c is = cc
never_fire (Acknowledgement d) c is = cc

same_cell : (c d : CellId) → Fire c ≡ Fire d → c ≡ d
same_cell c d is = cc

pub no_place_of_cell : (cells : List Cell) (s : State) (c : CellId) (action : Action) → Fire c ≡ action → (c.0 < length cells → is_enabled cells s c.0 ≡ false) → (choice : ℕ)
    → option_map action_of (chosen_event cells s choice) ≢ Some action
unfolding chosen_event event_at
no_place_of_cell cells s c action is down choice taken =
    let k = choice % possible cells s in
    elim (cases_from (slice_get (enabled cells s) k) (slice_get s.packets (k - length (enabled cells s))) action taken) [
      | inl f ↦ (
          let ready = enabled_at cells s k f.0 f.1 in
          let same : f.0 ≡ c.0 = ap (λ (x : CellId). x.0) (same_cell (record { 0 = f.0 }) c (f.2 ∙ sym is)) in
          let up : is_enabled cells s c.0 ≡ true = subst (λ j. is_enabled cells s j ≡ true) same ready.1 in
          let no_up = down (subst (λ j. j < length cells) same ready.0) in cc)
      | inr p ↦ never_fire p.0 c (p.2 ∙ sym is)
    ]

none_of : (packets : List Packet) (action : Action) (i : ℕ) (p : Packet) → AllByRecursion (λ packet. action_of (event_of packet) ≢ action) packets → slice_get packets i ≡ Some p
    → action_of (event_of p) ≡ action → ⊥
none_of [] action i p none at is = cc
none_of (x ∷ packets) action zero p none at is = none.0 (let e : x ≡ p = cc in ap (λ q. action_of (event_of q)) e ∙ is)
none_of (x ∷ packets) action (suc i) p none at is = none_of packets action i p none.1 at is

pub no_place_of_packet : (cells : List Cell) (s : State) (action : Action) → ((c : CellId) → Fire c ≡ action → ⊥) → AllByRecursion (λ packet. action_of (event_of packet) ≢ action) s.packets
    → (choice : ℕ) → option_map action_of (chosen_event cells s choice) ≢ Some action
unfolding chosen_event event_at
no_place_of_packet cells s action other none choice taken =
    let k = choice % possible cells s in
    elim (cases_from (slice_get (enabled cells s) k) (slice_get s.packets (k - length (enabled cells s))) action taken) [
      | inl f ↦ other (record { 0 = f.0 }) f.2
      | inr p ↦ none_of s.packets action (k - length (enabled cells s)) p.0 none p.1 p.2
    ]
