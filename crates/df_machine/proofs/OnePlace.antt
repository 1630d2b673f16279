-- At most one of the possible events is one in which a given thing happens.
use Rattle.std.proofs.Common.{◌≡◌, ◌≢◌, ℕ, zero, suc, ◌+◌, ◌-◌, ◌%◌, ◌<◌, ◌≤◌, Bool, true, false, List, [], ◌∷◌, cond, length, Option, Some, None, refl, sym, ◌∙◌, ap, subst, inl, inr, arith}
use Rattle.std.specs.Prelude.{slice_get}
use Rattle.std.specs.Option.{option_map}
use Rattle.std.specs.List.{filter, range_with_len, AllByRecursion}
use Rattle.std.proofs.lemmas.Bool.{cases_Bool, cases_lt}
use Rattle.std.proofs.lemmas.Option.{slice_get_within}
use Rattle.df_cells.specs.declared.cells.Cell.{Cell}
use Rattle.df_cells.specs.declared.cells.CellId.{CellId}
use Rattle.df_machine.specs.declared.packets.Packet.{Packet}
use Rattle.df_machine.specs.declared.packets.Packet.TheVariants.{Operation, Operand, Acknowledgement}
use Rattle.df_machine.specs.declared.packets.Event.{Event}
use Rattle.df_machine.specs.declared.packets.Action.{Action}
use Rattle.df_machine.specs.declared.packets.Action.TheVariants.{Fire}
use Rattle.df_machine.specs.CanRun.{CanRun}
use Rattle.df_machine.specs.Events.{is_enabled, enabled, possible, event_of, event_from, event_at, chosen_event, action_of}
use Rattle.df_machine.specs.Flights.{name_of, packet_name, AreApart}
use Rattle.df_machine.specs.Sound.{Sound}
use Rattle.df_machine.specs.States.{State}
use Rattle.df_machine.proofs.Apart.{fits_sound}

-- ---- cells that are chosen among all stand at one place each

all_more : (a b : ℕ) (xs : List ℕ) → a ≤ b → AllByRecursion (λ c. b ≤ c) xs → AllByRecursion (λ c. a ≤ c) xs
all_more a b [] less all = tt
all_more a b (x ∷ xs) less all = (let m = all.0 in omega arith, all_more a b xs less all.1)

all_at : (a : ℕ) (xs : List ℕ) (i c : ℕ) → AllByRecursion (λ x. a ≤ x) xs → slice_get xs i ≡ Some c → a ≤ c
all_at a [] i c all at = cc
all_at a (x ∷ xs) zero c all at = let e : x ≡ c = cc in let m = all.0 in omega arith
all_at a (x ∷ xs) (suc i) c all at = all_at a xs i c all.1 at

above : (p : ℕ → Bool) (a n : ℕ) → AllByRecursion (λ c. a ≤ c) (filter p (range_with_len a n))
above p a zero = tt
above p a (suc n) = elim (cases_Bool (p a)) [
  | inl up ↦ subst (λ b. AllByRecursion (λ c. a ≤ c) (cond b (a ∷ filter p (range_with_len (a + 1) n)) (filter p (range_with_len (a + 1) n)))) (sym up)
      (omega arith, all_more a (a + 1) _ (omega arith) (above p (a + 1) n))
  | inr other ↦ subst (λ b. AllByRecursion (λ c. a ≤ c) (cond b (a ∷ filter p (range_with_len (a + 1) n)) (filter p (range_with_len (a + 1) n)))) (sym other)
      (all_more a (a + 1) _ (omega arith) (above p (a + 1) n))
]

one_of : (a : ℕ) (rest : List ℕ) (i j c : ℕ) → AllByRecursion (λ x. a + 1 ≤ x) rest → ((i j : ℕ) → slice_get rest i ≡ Some c → slice_get rest j ≡ Some c → i ≡ j)
    → slice_get (a ∷ rest) i ≡ Some c → slice_get (a ∷ rest) j ≡ Some c → i ≡ j
one_of a rest zero zero c all one h k = refl
one_of a rest zero (suc j) c all one h k = let e : a ≡ c = cc in let m = all_at (a + 1) rest j c all k in absurd (omega arith)
one_of a rest (suc i) zero c all one h k = let e : a ≡ c = cc in let m = all_at (a + 1) rest i c all h in absurd (omega arith)
one_of a rest (suc i) (suc j) c all one h k = ap suc (one i j h k)

one_cell : (p : ℕ → Bool) (a n i j c : ℕ) → slice_get (filter p (range_with_len a n)) i ≡ Some c → slice_get (filter p (range_with_len a n)) j ≡ Some c → i ≡ j
one_cell p a zero i j c h k = cc
one_cell p a (suc n) i j c h k =
    let rest = filter p (range_with_len (a + 1) n) in
    elim (cases_Bool (p a)) [
      | inl up ↦ one_of a rest i j c (above p (a + 1) n) (λ x y f g. one_cell p (a + 1) n x y c f g)
          (subst (λ b. slice_get (cond b (a ∷ rest) rest) i ≡ Some c) up h) (subst (λ b. slice_get (cond b (a ∷ rest) rest) j ≡ Some c) up k)
      | inr other ↦ one_cell p (a + 1) n i j c
          (subst (λ b. slice_get (cond b (a ∷ rest) rest) i ≡ Some c) other h) (subst (λ b. slice_get (cond b (a ∷ rest) rest) j ≡ Some c) other k)
    ]

-- ---- so do packets of one name

name_at : (packets : List Packet) (packet p : Packet) (i : ℕ) → AllByRecursion (λ other. packet_name other ≢ packet_name packet) packets → slice_get packets i ≡ Some p
    → packet_name p ≡ packet_name packet → ⊥
name_at [] packet p i apart at same = cc
name_at (x ∷ packets) packet p zero apart at same = apart.0 (let e : x ≡ p = cc in ap packet_name e ∙ same)
name_at (x ∷ packets) packet p (suc i) apart at same = name_at packets packet p i apart.1 at same

one_packet : (packets : List Packet) (p q : Packet) (i j : ℕ) → AreApart packets → slice_get packets i ≡ Some p → slice_get packets j ≡ Some q → packet_name p ≡ packet_name q → i ≡ j
one_packet [] p q i j apart h k same = cc
one_packet (x ∷ packets) p q zero zero apart h k same = refl
one_packet (x ∷ packets) p q zero (suc j) apart h k same = absurd (name_at packets x q j apart.0 k (let e : x ≡ p = cc in sym same ∙ ap packet_name (sym e)))
one_packet (x ∷ packets) p q (suc i) zero apart h k same = absurd (name_at packets x p i apart.0 h (let e : x ≡ q = cc in same ∙ ap packet_name (sym e)))
one_packet (x ∷ packets) p q (suc i) (suc j) apart h k same = ap suc (one_packet packets p q i j apart.1 h k same)

-- ---- of all possible events

never_fires : (p : Packet) (c : ℕ) → action_of (event_of p) ≡ Fire (record { 0 = c }) → ⊥
never_fires (Operation d x) c is = cc
never_fires (Operand d v) c is = cc
never_fires (Acknowledgement d) c is = cc

data IsFrom (cell : Option ℕ) (packet : Option Packet) (event : Event) : Type 0 where
  fires : (c : ℕ) → cell ≡ Some c → action_of event ≡ Fire (record { 0 = c }) → IsFrom cell packet event
  comes : (p : Packet) → cell ≡ None → packet ≡ Some p → action_of event ≡ action_of (event_of p) → IsFrom cell packet event

some_same : (e f : Event) → Some e ≡ Some f → e ≡ f
some_same e f is = cc

from_either : (cell : Option ℕ) (packet : Option Packet) (event : Event) → event_from cell packet ≡ Some event → IsFrom cell packet event
from_either (Some c) packet event is = fires c refl (ap action_of (let e : event ≡ _ = sym (some_same _ _ is) in e))
from_either None (Some p) event is = comes p refl refl (ap action_of (sym (some_same _ _ is)))
from_either None None event is = cc

same_id : (c d : CellId) → Fire c ≡ Fire d → c ≡ d
same_id c d is = cc

same_cell : (c d : ℕ) → Fire (record { 0 = c }) ≡ Fire (record { 0 = d }) → c ≡ d
same_cell c d is = ap (λ (x : CellId). x.0) (same_id (record { 0 = c }) (record { 0 = d }) is)

past_none : {A : Type 0} (xs : List A) (i : ℕ) → slice_get xs i ≡ None → length xs ≤ i
past_none [] i none = omega arith
past_none (x ∷ xs) zero none = cc
past_none (x ∷ xs) (suc i) none = let l = past_none xs i none in omega arith

pub one_place : (cells : List Cell) (s : State) (j k : ℕ) (e f : Event) → CanRun cells → Sound cells s → chosen_event cells s j ≡ Some e → chosen_event cells s k ≡ Some f
    → action_of e ≡ action_of f → j % possible cells s ≡ k % possible cells s
unfolding chosen_event event_at enabled
one_place cells s j k e f w sound first second same =
    let n = length (enabled cells s) in let x = j % possible cells s in let y = k % possible cells s in
    let apart = (fits_sound cells s w sound).apart in
    elim (from_either (slice_get (enabled cells s) x) (slice_get s.packets (x - n)) e first) [
      | fires c at is ↦ elim (from_either (slice_get (enabled cells s) y) (slice_get s.packets (y - n)) f second) [
        | fires d there also ↦
            let alike : c ≡ d = same_cell c d (sym is ∙ same ∙ also) in
            one_cell (is_enabled cells s) 0 (length cells) x y d (subst (λ i. slice_get (enabled cells s) x ≡ Some i) alike at) there
        | comes q none there also ↦ absurd (never_fires q c (sym also ∙ sym same ∙ is))
      ]
      | comes p none at is ↦ elim (from_either (slice_get (enabled cells s) y) (slice_get s.packets (y - n)) f second) [
        | fires d there also ↦ absurd (never_fires p d (sym is ∙ same ∙ also))
        | comes q missing there also ↦
            let alike = one_packet s.packets p q (x - n) (y - n) apart at there (ap name_of (sym is ∙ same ∙ also)) in
            let a = past_none (enabled cells s) x none in let b = past_none (enabled cells s) y missing in omega arith
      ]
    ]
