-- Names of packets in flight: what a packet more or less changes, and what a name finds.
use Rattle.std.proofs.Common.{◌≡◌, ◌≢◌, ℕ, zero, suc, ◌+◌, ◌<◌, ◌≤◌, List, [], ◌∷◌, ◌++◌, take, drop, get_or, set, length, map, Option, Some, None, refl, sym, ◌∙◌, ap, subst, inl, inr, arith}
use Rattle.std.specs.Prelude.{IsSome, slice_get, remove}
use Rattle.std.specs.Option.{unwrap_or}
use Rattle.std.specs.List.{AllByRecursion}
use Rattle.std.proofs.lemmas.List.{length-set, get_or-set_same, get_or-set_other}
use Rattle.std.proofs.lemmas.Bool.{cases_eq}
use Rattle.slab.specs.Slab.{Slab, get, slab_len, ContainsKey, Updates}
use Rattle.df_cells.specs.Cells.{port_of}
use Rattle.df_machine.specs.declared.packets.Packet.{Packet}
use Rattle.df_machine.specs.declared.packets.Packet.TheVariants.{Acknowledgement}
use Rattle.df_machine.specs.declared.packets.Action.{Action}
use Rattle.df_machine.specs.Events.{event_of, action_of}
use Rattle.df_machine.specs.Flights.{packet_under, AreKeys, KeepsFlight, HasAll, IsNamed, AreApart, Fits, name_of, packet_name}
use Rattle.df_machine.specs.InOrder.{InOrder}
use Rattle.df_machine.proofs.FlightKeys.{AreOthers, fresh, other_there, others_behind, one_packet_more, one_packet_less}

-- ---- packets that fit

all_before : {A : Type 0} (P : A → Type 0) (xs ys : List A) → AllByRecursion P (xs ++ ys) → AllByRecursion P xs
all_before P [] ys all = tt
all_before P (x ∷ xs) ys all = (all.0, all_before P xs ys all.1)

apart_before : (xs ys : List Packet) → AreApart (xs ++ ys) → AreApart xs
apart_before [] ys apart = tt
apart_before (x ∷ xs) ys apart = (all_before (λ other. packet_name other ≢ packet_name x) xs ys apart.0, apart_before xs ys apart.1)

pub fits_before : (names : ℕ) (xs ys : List Packet) → Fits names (xs ++ ys) → Fits names xs
fits_before names xs ys fits = record {
  apart = apart_before xs ys fits.apart;
  within = all_before (λ packet. packet_name packet < names) xs ys fits.within;
}

all_last : {A : Type 0} (P : A → Type 0) (xs : List A) (y : A) → AllByRecursion P (xs ++ y ∷ []) → P y
all_last P [] y all = all.0
all_last P (x ∷ xs) y all = all_last P xs y all.1

last_apart : (xs : List Packet) (y : Packet) → AreApart (xs ++ y ∷ []) → AllByRecursion (λ other. packet_name other ≢ packet_name y) xs
last_apart [] y apart = tt
last_apart (x ∷ xs) y apart = (λ e. all_last (λ other. packet_name other ≢ packet_name x) xs y apart.0 (sym e), last_apart xs y apart.1)

pub last_within : (names : ℕ) (xs : List Packet) (y : Packet) → Fits names (xs ++ y ∷ []) → packet_name y < names
last_within names xs y fits = all_last (λ packet. packet_name packet < names) xs y fits.within

-- ---- names

same_under : (old new : Slab Packet) (key k : ℕ) (slot : Option Packet) → Updates old new key slot → k ≢ key → packet_under new k ≡ packet_under old k
same_under old new key k slot w other = ap (λ o. unwrap_or o (Acknowledgement (port_of 0 0))) (w.others k other)

named_kept : (old new : Slab Packet) (key : ℕ) (slot : Option Packet) (names keys : List ℕ) → Updates old new key slot → AreOthers key keys
    → AllByRecursion (IsNamed old names) keys → AllByRecursion (IsNamed new names) keys
named_kept old new key slot names [] w others named = tt
named_kept old new key slot names (k ∷ keys) w others named =
    let same = sym (same_under old new key k slot w others.0) in (
      subst (λ p. (packet_name p < length names) × (get_or names (packet_name p) 0 ≡ k)) same named.0,
      named_kept old new key slot names keys w others.1 named.1,
    )

named_other : (packets : Slab Packet) (names : List ℕ) (n key : ℕ) (keys : List ℕ) → AllByRecursion (λ other. packet_name other ≢ n) (map (packet_under packets) keys)
    → AllByRecursion (IsNamed packets names) keys → AllByRecursion (IsNamed packets (set names n key)) keys
named_other packets names n key [] apart named = tt
named_other packets names n key (k ∷ keys) apart named =
    let m = packet_name (packet_under packets k) in let long = length-set names n key in let within = named.0.0 in (
      (omega arith, get_or-set_other names n m key 0 apart.0 ∙ named.0.1),
      named_other packets names n key keys apart.1 named.1,
    )

all_push : {A : Type 0} (P : A → Type 0) (xs : List A) (y : A) → AllByRecursion P xs → P y → AllByRecursion P (xs ++ y ∷ [])
all_push P [] y all last = (last, tt)
all_push P (x ∷ xs) y all last = (all.0, all_push P xs y all.1 last)

all_remove : {A : Type 0} (P : A → Type 0) (xs : List A) (i : ℕ) → AllByRecursion P xs → AllByRecursion P (remove xs i)
all_remove P [] zero all = tt
all_remove P [] (suc i) all = tt
all_remove P (x ∷ xs) zero all = all.1
all_remove P (x ∷ xs) (suc i) all = (all.0, all_remove P xs i all.1)

-- ---- every packet has its key there

at_front : (keys more : List ℕ) (i key : ℕ) → slice_get keys i ≡ Some key → slice_get (keys ++ more) i ≡ Some key
at_front [] more i key at = cc
at_front (k ∷ keys) more zero key at = at
at_front (k ∷ keys) more (suc i) key at = at_front keys more i key at

at_end : (keys : List ℕ) (key : ℕ) → slice_get (keys ++ key ∷ []) (length keys) ≡ Some key
at_end [] key = refl
at_end (k ∷ keys) key = at_end keys key

kept_at : (keys : List ℕ) (i key j k : ℕ) → slice_get keys i ≡ Some key → slice_get keys j ≡ Some k → k ≢ key → (m : ℕ) × (slice_get (remove keys i) m ≡ Some k)
kept_at [] i key j k at there other = cc
kept_at (x ∷ keys) zero key zero k at there other = absurd (other (let a : x ≡ key = cc in let b : x ≡ k = cc in sym b ∙ a))
kept_at (x ∷ keys) zero key (suc j) k at there other = (j, there)
kept_at (x ∷ keys) (suc i) key zero k at there other = (0, there)
kept_at (x ∷ keys) (suc i) key (suc j) k at there other = let r = kept_at keys i key j k at there other in (suc r.0, r.1)

has_more : (old new : Slab Packet) (keys more : List ℕ) (key : ℕ) (packet : Packet) → HasAll old keys → more ≡ keys ++ key ∷ [] → Updates old new key (Some packet) → HasAll new more
has_more old new keys more key packet all is updates k some = elim (cases_eq k key) [
  | inl e ↦ (length keys, ap (λ l. slice_get l (length keys)) is ∙ at_end keys key ∙ ap (λ x. Some x) (sym e))
  | inr n ↦ (let r = all k (subst (λ (o : Option Packet). IsSome o) (updates.others k n) some) in (r.0, ap (λ l. slice_get l r.0) is ∙ at_front keys (key ∷ []) r.0 k r.1))
]

pub none_there : (o : Option Packet) → o ≡ None → IsSome o → ⊥
none_there (Some p) none some = cc
none_there None none some = cc

has_less : (old new : Slab Packet) (keys left : List ℕ) (i key : ℕ) → HasAll old keys → slice_get keys i ≡ Some key → left ≡ remove keys i → Updates old new key None → HasAll new left
has_less old new keys left i key all at is updates k some = elim (cases_eq k key) [
  | inl e ↦ absurd (none_there (get new k) (ap (get new) e ∙ updates.changed) some)
  | inr n ↦ (
      let r = all k (subst (λ (o : Option Packet). IsSome o) (updates.others k n) some) in
      let m = kept_at keys i key r.0 k at r.1 n in (m.0, ap (λ l. slice_get l m.0) is ∙ m.1))
]

-- ---- as the methods need them

pub key_fresh : (packets : Slab Packet) (keys : List ℕ) (key : ℕ) → get packets key ≡ None → AreKeys packets keys → (i : ℕ) → slice_get keys i ≢ Some key
key_fresh packets keys key vacant used i at = other_there key keys i key (fresh packets key keys vacant used) at refl

pub flight_more : (old new : Slab Packet) (keys more : InOrder) (names : List ℕ) (room key : ℕ) (packet : Packet) → KeepsFlight old keys names room → length keys.keys < room → get old key ≡ None
    → more.keys ≡ keys.keys ++ key ∷ [] → more.room ≡ keys.room → more.span ≡ keys.span → Updates old new key (Some packet) → slab_len new ≡ slab_len old + 1 → new.capacity ≡ old.capacity
    → Fits (length names) (map (packet_under old) keys.keys ++ packet ∷ []) → KeepsFlight new more (set names (packet_name packet) key) room
flight_more old new keys more names room key packet w free vacant is room' span updates len capacity fits =
    let n = packet_name packet in let a = w.span in let p = w.kept.keys_room in
    let others = fresh old key keys.keys vacant w.kept.used in
    let under : packet_under new key ≡ packet = ap (λ o. unwrap_or o (Acknowledgement (port_of 0 0))) updates.changed in
    let within : n < length names = last_within (length names) (map (packet_under old) keys.keys) packet fits in
    let long = length-set names n key in
    let before = named_other old names n key keys.keys (last_apart (map (packet_under old) keys.keys) packet fits.apart) w.named in
    let kept = named_kept old new key (Some packet) (set names n key) keys.keys updates others before in
    let last : IsNamed new (set names n key) key =
    subst (λ p. (packet_name p < length (set names n key)) × (get_or (set names n key) (packet_name p) 0 ≡ key)) (sym under) (omega arith, get_or-set_same names n key 0 within) in
    record {
      kept = one_packet_more old new keys.keys more.keys keys.room more.room room key packet w.kept free vacant is updates len capacity (omega arith);
      span = omega arith;
      all = has_more old new keys.keys more.keys key packet w.all is updates;
      named = subst (λ l. AllByRecursion (IsNamed new (set names n key)) l) (sym is) (all_push (IsNamed new (set names n key)) keys.keys key kept last);
    }

pub flight_less : (old new : Slab Packet) (keys left : InOrder) (names : List ℕ) (room i key : ℕ) → KeepsFlight old keys names room → slice_get keys.keys i ≡ Some key
    → left.keys ≡ remove keys.keys i → left.room ≡ keys.room → left.span ≡ keys.span → Updates old new key None → slab_len new + 1 ≡ slab_len old → new.capacity ≡ old.capacity → KeepsFlight new left names room
flight_less old new keys left names room i key w at is room' span updates len capacity =
    let a = w.span in record {
      kept = one_packet_less old new keys.keys left.keys keys.room left.room room i key w.kept at is updates len capacity room';
      span = omega arith;
      all = has_less old new keys.keys left.keys i key w.all at is updates;
      named = subst (λ l. AllByRecursion (IsNamed new names) l) (sym is)
          (named_kept old new key None names (remove keys.keys i) updates (others_behind old keys.keys i key w.kept.used at) (all_remove (IsNamed old names) keys.keys i w.named));
    }

-- ---- what a name finds

pub absent_past : (packets : Slab Packet) (names keys : List ℕ) (action : Action) → length names ≤ name_of action → AllByRecursion (IsNamed packets names) keys
    → AllByRecursion (λ packet. action_of (event_of packet) ≢ action) (map (packet_under packets) keys)
absent_past packets names [] action past named = tt
absent_past packets names (k ∷ keys) action past named =
    (λ e. let n = ap name_of e in let within = named.0.0 in absurd (omega arith), absent_past packets names keys action past named.1)

pub absent : (packets : Slab Packet) (names keys : List ℕ) (action : Action) (key : ℕ) → key ≡ get_or names (name_of action) 0
    → (ContainsKey packets key → action_of (event_of (packet_under packets key)) ≡ action → ⊥) → AreKeys packets keys → AllByRecursion (IsNamed packets names) keys
    → AllByRecursion (λ packet. action_of (event_of packet) ≢ action) (map (packet_under packets) keys)
absent packets names [] action key is never used named = tt
absent packets names (k ∷ keys) action key is never used named = (
  λ e.
      let same : k ≡ key = sym named.0.1 ∙ ap (λ x. get_or names (name_of x) 0) e ∙ sym is in
      never (subst (λ j. ContainsKey packets j) same used.0) (subst (λ j. action_of (event_of (packet_under packets j)) ≡ action) same e),
  absent packets names keys action key is never used.2 named.1,
)

-- ---- packets that are sent one after the other

append_assoc : {A : Type 0} (xs ys zs : List A) → (xs ++ ys) ++ zs ≡ xs ++ (ys ++ zs)
append_assoc [] ys zs = refl
append_assoc (x ∷ xs) ys zs = ap (λ l. x ∷ l) (append_assoc xs ys zs)

-- of what fits behind these, the first part fits
pub fits_first : (names : ℕ) (xs ys zs : List Packet) → Fits names (xs ++ (ys ++ zs)) → Fits names (xs ++ ys)
fits_first names xs ys zs fits = fits_before names (xs ++ ys) zs (subst (Fits names) (sym (append_assoc xs ys zs)) fits)

-- and the second behind it
pub fits_second : (names names' : ℕ) (xs ys zs sent : List Packet) → Fits names (xs ++ (ys ++ zs)) → sent ≡ xs ++ ys → names' ≡ names → Fits names' (sent ++ zs)
fits_second names names' xs ys zs sent fits is same =
    subst (λ n. Fits n (sent ++ zs)) (sym same) (subst (λ l. Fits names (l ++ zs)) (sym is) (subst (Fits names) (sym (append_assoc xs ys zs)) fits))

mapped_next : {A : Type 0} (f : A → Packet) (xs : List A) (i : ℕ) (x : A) → i < length xs → map f xs ≡ map f (take i xs) ++ (f (get_or xs i x) ∷ map f (drop (suc i) xs))
mapped_next f [] i x h = absurd (omega arith)
mapped_next f (y ∷ xs) zero x h = refl
mapped_next f (y ∷ xs) (suc i) x h = ap (λ l. f y ∷ l) (mapped_next f xs i x (omega arith))

-- the next one of a list that is sent
pub fits_next : {A : Type 0} (names names' : ℕ) (old sent : List Packet) (f : A → Packet) (xs : List A) (i : ℕ) (x : A) → Fits names (old ++ map f xs) → i < length xs
    → sent ≡ old ++ map f (take i xs) → names' ≡ names → Fits names' (sent ++ f (get_or xs i x) ∷ [])
fits_next names names' old sent f xs i x fits within is same =
    let rest = map f (drop (suc i) xs) in
    let all = subst (λ l. Fits names (old ++ l)) (mapped_next f xs i x within) fits in
    fits_first names' sent (f (get_or xs i x) ∷ []) rest
    (fits_second names names' old (map f (take i xs)) (f (get_or xs i x) ∷ rest) sent all is same)
