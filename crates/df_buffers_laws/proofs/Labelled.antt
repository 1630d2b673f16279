-- Labels that meet cells meet them with BUF cells on their arcs too.
use Rattle.std.proofs.Common.{◌≡◌, ℕ, zero, suc, ◌+◌, ◌<◌, ◌≤◌, ◌&&◌, Bool, true, false, nat_lt, cond, List, [], ◌∷◌}
use Rattle.std.proofs.Common.{◌++◌, map}
use Rattle.std.proofs.Common.{length, take, get_or, Option, Some, None, inl, inr, refl, sym, ap, subst, ◌∙◌, arith}
use Rattle.std.specs.Prelude.{slice_get, is_some}
use Rattle.std.specs.Option.{option_map}
use Rattle.std.specs.List.{AllByRecursion}
use Rattle.std.proofs.lemmas.Bool.{cases_lt, both_ways, lt-ltb, le-ltb}
use Rattle.std.proofs.lemmas.List.{get_or_past, length-map, take_all}
use Rattle.std.proofs.lemmas.Option.{slice_get-map, slice_get_past}
use Rattle.df_values.specs.declared.values.Value.{Value}
use Rattle.df_cells.specs.declared.cells.CellId.{CellId}
use Rattle.df_cells.specs.declared.cells.Cell.{Cell}
use Rattle.df_cells.specs.declared.cells.Dest.{Dest}
use Rattle.df_cells.specs.declared.cells.Feed.{Feed}
use Rattle.df_cells.specs.declared.cells.Feed.TheVariants.{Arc, Constant, Loaded}
use Rattle.df_cells.specs.declared.kinds.Kind.{Kind}
use Rattle.df_cells.specs.declared.kinds.Kind.TheVariants as kind
use Rattle.df_cells.specs.Kinds.{is_input, limit}
use Rattle.df_cells.specs.Cells.{no_cell, cell_at, cell_from, loaded_from, loaded_at, port_of, producer_of, values_of}
use Rattle.df_cells.specs.Firings.{Operands, per_port, at_hand, with_constants, wants, takes, answer}
use Rattle.df_cells.specs.Shifts.{origin, gate_part, merge_part}
use Rattle.df_labels.specs.Histories.{listed, answer_at}
use Rattle.df_labels.specs.Labels.{Turn, later, AreRising, block_turn, source_list, source_values}
use Rattle.df_labels.specs.Members.{Member, Firing, Stream, Labels, sure, as_member, values, value_of, IsSure}
use Rattle.df_labels.specs.Members.{IsWanted, IsOver, MeetsAt, LabelsMeet, AreLate, answered, received, members}
use Rattle.df_labels.specs.Members.{block_turns, firing_at, coming, left_from, left_at}
use Rattle.df_buffers_laws.specs.Buffered.{over_buffers, IsBuffered}
use Rattle.df_buffers_laws.specs.Carried.{earlier, pass, passed_on, carried}
use Rattle.df_buffers_laws.proofs.Origins.{home, own, loads_stay, buf_unloaded, buf_feed, was_fed, is_fed, producers}
use Rattle.df_buffers_laws.proofs.Origins.{buf_origin}
use Rattle.df_buffers_laws.proofs.Origins.{gates_stay, merges_stay, no_gate, no_merge}
use Rattle.df_buffers_laws.proofs.Streams.{added, zeros, sums, same_added, rising_back, turns_of, stream_turns}
use Rattle.df_buffers_laws.proofs.Streams.{all_answered, rising_answered, passed_members, passed_taken, passed_turns}
use Rattle.df_buffers_laws.proofs.Streams.{turns_later, numbers_later}
use Rattle.df_buffers_laws.proofs.KindSums.{same_sum}
use Rattle.df_buffers_laws.proofs.Paths.{none_past, only_feed}

-- ---- cells of one kind whose feeds are the same over BUF cells

same_hand : (cells : List Cell) (feed : Option Feed) (x : Option Value)
    → at_hand (option_map (over_buffers cells) feed) x ≡ at_hand feed x
same_hand cells None x = refl
same_hand cells (Some (Arc u)) x = refl
same_hand cells (Some (Constant v)) x = refl
same_hand cells (Some (Loaded u v)) x = refl

same_arc : (cells : List Cell) (feed : Option Feed)
    → is_some (cell_from (option_map (over_buffers cells) feed)) ≡ is_some (cell_from feed)
same_arc cells None = refl
same_arc cells (Some (Arc u)) = refl
same_arc cells (Some (Constant v)) = refl
same_arc cells (Some (Loaded u v)) = refl

module _ (cells : List Cell) (old new : Cell) (kinds : new.kind ≡ old.kind)
    (ports : map (over_buffers cells) new.ports ≡ old.ports) where
  feed_at : (p : ℕ) → slice_get old.ports p ≡ option_map (over_buffers cells) (slice_get new.ports p)
  feed_at p = ap (λ (l : List Feed). slice_get l p) (sym ports) ∙ slice_get-map (over_buffers cells) new.ports p

  hand_at : (x : Operands) (p : ℕ)
      → at_hand (slice_get new.ports p) (get_or x p None) ≡ at_hand (slice_get old.ports p) (get_or x p None)
  hand_at x p =
      sym (same_hand cells (slice_get new.ports p) (get_or x p None))
      ∙ ap (λ o. at_hand o (get_or x p None)) (sym (feed_at p))

  same_constants : (x : Operands) → with_constants new x ≡ with_constants old x
  same_constants x =
      let triple = λ (a b c : Option Value). a ∷ b ∷ c ∷ [] in
      let at_old = λ (p : ℕ). at_hand (slice_get old.ports p) (get_or x p None) in
      let at_new = λ (p : ℕ). at_hand (slice_get new.ports p) (get_or x p None) in
      ap (λ a. triple a (at_new 1) (at_new 2)) (hand_at x 0) ∙ ap (λ b. triple (at_old 0) b (at_new 2)) (hand_at x 1)
      ∙ ap (λ c. triple (at_old 0) (at_old 1) c) (hand_at x 2)

  same_takes : (x : Operands) (p : ℕ) → takes new x p ≡ takes old x p
  same_takes x p =
      ap (λ b. b && wants new.kind (with_constants new x) p)
      (sym (same_arc cells (slice_get new.ports p)) ∙ ap (λ o. is_some (cell_from o)) (sym (feed_at p)))
      ∙ ap (λ y. is_some (cell_from (slice_get old.ports p)) && wants new.kind y p) (same_constants x)
      ∙ ap (λ k. is_some (cell_from (slice_get old.ports p)) && wants k (with_constants old x) p) kinds

  wanted_stays : (f : Firing) → IsWanted old f → IsWanted new f
  wanted_stays f wanted =
      record { ports = wanted.ports; takes = λ p. wanted.takes p ∙ sym (same_takes (values f.taken) p) }

  all_wanted : (label : List Firing) → AllByRecursion (IsWanted old) label → AllByRecursion (IsWanted new) label
  all_wanted [] all = tt
  all_wanted (f ∷ label) all = (wanted_stays f all.0, all_wanted label all.1)

  same_answer : (i : ℕ) (own : List Value) (x : Operands)
      → answer new.kind i own (with_constants new x) ≡ answer old.kind i own (with_constants old x)
  same_answer i own x =
      ap (λ y. answer new.kind i own y) (same_constants x) ∙ ap (λ k. answer k i own (with_constants old x)) kinds

  same_wants : (x : Operands) (p : ℕ)
      → wants new.kind (with_constants new x) p ≡ wants old.kind (with_constants old x) p
  same_wants x p =
      ap (λ y. wants new.kind y p) (same_constants x) ∙ ap (λ k. wants k (with_constants old x) p) kinds

-- ---- BUF cells

abbrev buf_cell : Cell → CellId → Cell
buf_cell cell u = record cell { kind = kind.Buf; ports = Arc u ∷ [] }

pass_wanted : (cell : Cell) (u : CellId) (g : ℕ) (x : Turn × Member) → IsWanted (buf_cell cell u) (pass g x)
pass_wanted cell u g x = record { ports = refl; takes = at }
  where
    at : (p : ℕ) → is_some (get_or (pass g x).taken p None) ≡ takes (buf_cell cell u) (values (pass g x).taken) p
    at zero = refl
    at (suc zero) = refl
    at (suc (suc zero)) = refl
    at (suc (suc (suc p))) = refl

passes_wanted : (cell : Cell) (u : CellId) (g : ℕ) (s : Stream)
    → AllByRecursion (IsWanted (buf_cell cell u)) (map (pass g) s)
passes_wanted cell u g [] = tt
passes_wanted cell u g (x ∷ s) = (pass_wanted cell u g x, passes_wanted cell u g s)

-- a BUF cell that takes a value answers it
abbrev AnswersRightly : Cell → ℕ → List Value → Firing → Type 0
AnswersRightly cell i own f =
    IsSure f → f.answer ≡ as_member (answer cell.kind i own (with_constants cell (values f.taken)))

pass_right : (cell : Cell) (u : CellId) (g i : ℕ) (own : List Value) (t : Turn) (m : Member)
    → AnswersRightly (buf_cell cell u) i own (pass g (t, m))
unfolding answer
pass_right cell u g i own t None safe = let no' = safe.0 in cc
pass_right cell u g i own t (Some v) safe = refl

passes_right : (cell : Cell) (u : CellId) (g i : ℕ) (own : List Value) (s : Stream) (k : ℕ)
    → k < length (map (pass g) s)
    → AnswersRightly (buf_cell cell u) i own (firing_at (map (pass g) s) k)
passes_right cell u g i own [] k within = absurd (omega arith)
passes_right cell u g i own (x ∷ s) zero within = pass_right cell u g i own x.0 x.1
passes_right cell u g i own (x ∷ s) (suc k) within = passes_right cell u g i own s k (omega arith)

-- what holds of a BUF cell holds of the cell that is one
as_buf : (P : Cell → Type 0) (cell : Cell) (u : CellId) → cell.kind ≡ kind.Buf → cell.ports ≡ Arc u ∷ []
    → P (buf_cell cell u) → P cell
as_buf P cell u is ports holds =
    subst (λ (l : List Feed). P (record cell { ports = l })) (sym ports)
    (subst (λ (k : Kind). P (record cell { kind = k; ports = Arc u ∷ [] })) (sym is) holds)

all_answer : (g : ℕ) (s : Stream) → AllByRecursion (λ (f : Firing). is_some f.answer ≡ true) (map (pass g) s)
all_answer g [] = tt
all_answer g (x ∷ s) = (refl, all_answer g s)

-- ---- cells with BUF cells

pub old_label : (old new : List Cell) (labels : Labels) (c : ℕ) → c < length old → carried old new labels c ≡ labels c
old_label old new labels c h =
    ap (λ b. cond b (labels c) (cond (nat_lt c (length new)) (passed_on old new labels c) []))
    (lt-ltb c (length old) h)

module _ (old new : List Cell) (count : Dest → ℕ) (is : IsBuffered old new count) where
  same_values : (inputs : List (List Value)) (c : ℕ) → c < length old → values_of new inputs c ≡ values_of old inputs c
  same_values inputs c h =
      let few = is.few in
      ap (λ i. get_or inputs i [])
      (same_sum (λ k. cond (is_input k) 1 0) new old c (omega arith) (omega arith) (λ i l. is.kinds i (omega arith)))

  same_sources : (inputs : List (List Value)) (c : ℕ) → c < length old
      → source_values new inputs c ≡ source_values old inputs c
  same_sources inputs c h =
      ap (λ k. source_list k (values_of new inputs c)) (is.kinds c h)
      ∙ ap (source_list (cell_at old c).kind) (same_values inputs c h)

  module _ (inputs : List (List Value)) (n : ℕ) (labels : Labels) (meet : LabelsMeet old inputs n labels)
      (late : AreLate old labels) where
    abbrev now : Labels
    now = carried old new labels

    buf_label : (b : ℕ) → length old ≤ b → b < length new → now b ≡ passed_on old new labels b
    buf_label b h l =
        ap (λ t. cond t (labels b) (cond (nat_lt b (length new)) (passed_on old new labels b) []))
        (le-ltb b (length old) h)
        ∙ ap (λ t. cond t (passed_on old new labels b) []) (lt-ltb b (length new) l)

    past_label : (c : ℕ) → length new ≤ c → now c ≡ []
    past_label c h =
        let few = is.few in
        ap (λ t. cond t (labels c) (cond (nat_lt c (length new)) (passed_on old new labels c) []))
        (le-ltb c (length old) (omega arith))
        ∙ ap (λ t. cond t (passed_on old new labels c) []) (le-ltb c (length new) h)

    -- ---- what a cell sends is what its origin sends, some of its gate part already gone

    record Sends (u : ℕ) : Type 0 where
      sent : members (answered (now u)) ≡ members (answered (labels (origin new u)))
      gone : ℕ
      part : gone + gate_part new u ≡ gate_part old (origin new u)
      turns : added gone (block_turns (answered (now u))) ≡ block_turns (answered (labels (origin new u)))

    sends : (u : ℕ) → u < length new → Sends u
    sends u h = elim (cases_lt u (length old)) [
      | inl here ↦
          let same : now u ≡ labels (origin new u) =
          old_label old new labels u here ∙ ap labels (sym (own old new count is u here)) in
          let part : gate_part new u ≡ gate_part old (origin new u) =
          gates_stay old new count is u here ∙ ap (gate_part old) (sym (own old new count is u here)) in
          record {
            sent = ap (λ l. members (answered l)) same;
            gone = 0;
            part = omega arith;
            turns = zeros (block_turns (answered (now u))) ∙ ap (λ l. block_turns (answered l)) same;
          }
      | inr behind ↦
          let same = buf_label u behind h in
          let g = gate_part old (origin new u) in
          let stream = answered (labels (origin new u)) in
          let none = no_gate old new count is u behind h in
          record {
            sent = ap (λ l. members (answered l)) same ∙ passed_members g stream;
            gone = g;
            part = omega arith;
            turns =
                ap (λ l. added g (block_turns (answered l))) same ∙ numbers_later g stream (late (origin new u));
          }
    ]

    size_sent : (u : ℕ) → u < length new → length (answered (now u)) ≡ length (answered (labels (origin new u)))
    size_sent u h =
        let e = ap (λ (l : List Member). length l) (sends u h).sent in
        let a = length-map (answered (now u)) (λ x. x.1) in
        let b = length-map (answered (labels (origin new u))) (λ x. x.1) in
        omega (arith, e, a, b)

    -- ---- old cells

    same_coming : (c p : ℕ) (u : CellId) → c < length old → producer_of new (port_of c p) ≡ Some u
        → coming new now (port_of c p) u.0 ≡ coming old labels (port_of c p) (origin new u.0)
    same_coming c p u h fed =
        ap (λ o. sure (listed o) ++ members (answered (now u.0))) (loads_stay old new count is (port_of c p) h)
        ∙ ap (λ l. sure (listed (loaded_at old (port_of c p))) ++ l) (sends u.0 (is.within c p u fed)).sent

    old_arcs : (c p : ℕ) (u : CellId) → c < length old → producer_of new (port_of c p) ≡ Some u
        → members (received p (now c)) ≡ take (length (answered (now u.0))) (coming new now (port_of c p) u.0)
    old_arcs c p u h fed =
        ap (λ l. members (received p l)) (old_label old new labels c h)
        ∙ (meet c).arcs p (home new u) (was_fed old new count is (port_of c p) u h fed)
        ∙ ap (λ k. take k (coming old labels (port_of c p) (origin new u.0)))
        (sym (size_sent u.0 (is.within c p u fed)))
        ∙ ap (take (length (answered (now u.0)))) (sym (same_coming c p u h fed))

    same_left : (c p : ℕ) → c < length old → left_at new now c p ≡ left_at old labels c p
    same_left c p h = go (producer_of new (port_of c p)) refl
      where
        d : Dest
        d = port_of c p

        go : (o : Option CellId) → producer_of new d ≡ o → left_at new now c p ≡ left_at old labels c p
        go None fed =
            ap (left_from new now d) fed
            ∙ sym (ap (left_from old labels d) (producers old new count is d h ∙ ap (option_map (home new)) fed))
        go (Some u) fed =
            ap (left_from new now d) fed
            ∙ ap (λ l. slice_get l (length (received p (now c)))) (same_coming c p u h fed)
            ∙ ap (λ l. slice_get (coming old labels d (origin new u.0)) (length (received p l)))
            (old_label old new labels c h)
            ∙ sym (ap (left_from old labels d) (was_fed old new count is d u h fed))

    old_over : (c : ℕ) → c < length old → IsOver old labels c → IsOver new now c
    old_over c h over =
        let fed = is_fed old new count is (port_of c over.port) over.from h over.fed in
        let triple = λ (x y z : Option Value). x ∷ y ∷ z ∷ [] in
        let was = λ (p : ℕ). value_of (left_at old labels c p) in
        let at = λ (p : ℕ). value_of (left_at new now c p) in
        let lefts : per_port at ≡ per_port was =
        ap (λ x. triple x (at 1) (at 2)) (ap value_of (same_left c 0 h))
        ∙ ap (λ y. triple (was 0) y (at 2)) (ap value_of (same_left c 1 h))
        ∙ ap (λ z. triple (was 0) (was 1) z) (ap value_of (same_left c 2 h)) in
        record {
          port = over.port;
          from = fed.0;
          fed = fed.1;
          wanted =
              ap (λ x. wants (cell_at new c).kind (with_constants (cell_at new c) x) over.port) lefts
              ∙ same_wants new (cell_at old c) (cell_at new c) (is.kinds c h) (is.feeds c h) (per_port was) over.port
              ∙ over.wanted;
          missing = same_left c over.port h ∙ over.missing;
        }

    commute : (a b : ℕ) (ts : List ℕ) → added a (added b ts) ≡ added b (added a ts)
    commute a b ts =
        let e : b + a ≡ a + b = omega arith in sums b a ts ∙ ap (λ k. added k ts) e ∙ sym (sums a b ts)

    old_shifts : (c p : ℕ) (u : CellId) → c < length old → producer_of new (port_of c p) ≡ Some u
        → loaded_at new (port_of c p) ≡ None
        → added (gate_part new u.0) (block_turns (received p (now c)))
        ≡ added (merge_part new (port_of c p)) (block_turns (answered (now u.0)))
    old_shifts c p u h fed none =
        let sent = sends u.0 (is.within c p u fed) in
        let d = port_of c p in
        let ts = block_turns (received p (labels c)) in
        let us = block_turns (answered (now u.0)) in
        let m = merge_part old d in
        let gate = gate_part new u.0 in
        let before : added (gate_part old (origin new u.0)) ts
        ≡ added m (block_turns (answered (labels (origin new u.0)))) =
        (meet c).shifts p (home new u) (was_fed old new count is d u h fed)
        (sym (loads_stay old new count is d h) ∙ none) in
        let part : gate + sent.gone ≡ gate_part old (origin new u.0) = let e = sent.part in omega arith in
        let both : added sent.gone (added gate ts) ≡ added sent.gone (added m us) =
        sums gate sent.gone ts ∙ ap (λ k. added k ts) part ∙ before
        ∙ ap (added m) (sym sent.turns) ∙ commute m sent.gone us in
        ap (λ l. added gate (block_turns (received p l))) (old_label old new labels c h)
        ∙ same_added sent.gone (added gate ts) (added m us) both
        ∙ ap (λ k. added k us) (sym (merges_stay old new count is d h))

    old_steady : (c : ℕ) → c < length old → (d : Dest) → producer_of new d ≡ Some (record { 0 = c })
        → is_some (loaded_at new d) ≡ true → AllByRecursion (λ (f : Firing). is_some f.answer ≡ true) (labels c)
    old_steady c h d fed some = elim (cases_lt d.cell.0 (length old)) [
      | inl there ↦
          (meet c).steady d
          (was_fed old new count is d (record { 0 = c }) there fed
          ∙ ap (λ k. Some (record { 0 = k })) (own old new count is c h))
          (ap (λ (o : Option Value). is_some o) (sym (loads_stay old new count is d there)) ∙ some)
      | inr behind ↦ elim (cases_lt d.cell.0 (length new)) [
        | inl inside ↦
            absurd (both_ways (is_some (loaded_at new d))
            (ap (λ (o : Option Value). is_some o)
            (buf_unloaded old new count is d.cell.0 d.port.0 behind inside)) some)
        | inr past ↦ absurd (none_past new d.cell.0 past d.port.0 (record { 0 = c }) fed)
      ]
    ]

    old_right : (c : ℕ) → c < length old → (f : Firing) (i : ℕ)
        → f.answer ≡ as_member (answer_at old inputs i c (values f.taken))
        → f.answer ≡ as_member (answer_at new inputs i c (values f.taken))
    old_right c h f i right =
        let x = values f.taken in
        right ∙ ap as_member (sym
        (same_answer new (cell_at old c) (cell_at new c) (is.kinds c h) (is.feeds c h) i (values_of new inputs c) x
        ∙ ap (λ own. answer (cell_at old c).kind i own (with_constants (cell_at old c) x)) (same_values inputs c h)))

    -- ---- BUF cells

    buf_origin_of : (b p : ℕ) (u : CellId) → length old ≤ b → b < length new → producer_of new (port_of b p) ≡ Some u
        → (p ≡ 0) × (origin new b ≡ origin new u.0)
    buf_origin_of b zero u behind h fed =
        let feed = buf_feed old new count is b behind h in
        let only = sym (only_feed old new count is b 0 u behind h fed) in
        (refl, buf_origin old new count is b feed.0 behind h feed.1 feed.2 ∙ ap (origin new) only)
    buf_origin_of b (suc p) u behind h fed =
        let none = ap (λ (ports : List Feed). cell_from (slice_get ports (suc p))) (is.chains b behind h).1 in
        absurd (cc)

    -- all that comes is taken
    buf_takes : (b p : ℕ) (u : CellId) → length old ≤ b → b < length new → producer_of new (port_of b p) ≡ Some u
        → members (received p (now b)) ≡ coming new now (port_of b p) u.0
    buf_takes b p u behind h fed =
        let from = buf_origin_of b p u behind h fed in
        let sent = sends u.0 (is.within b p u fed) in
        let g = gate_part old (origin new b) in
        let stream = answered (labels (origin new b)) in
        ap (λ l. members (received p l)) (buf_label b behind h)
        ∙ ap (λ q. members (received q (map (pass g) stream))) from.0
        ∙ ap (λ t. members t) (passed_taken g stream) ∙ passed_members g stream
        ∙ ap (λ k. members (answered (labels k))) from.1 ∙ sym sent.sent
        ∙ ap (λ o. sure (listed o) ++ members (answered (now u.0))) (sym (buf_unloaded old new count is b p behind h))

    buf_coming : (b p : ℕ) (u : CellId) → length old ≤ b → b < length new
        → length (coming new now (port_of b p) u.0) ≡ length (answered (now u.0))
    buf_coming b p u behind h =
        let none = ap (λ o. length (sure (listed o) ++ members (answered (now u.0))))
        (buf_unloaded old new count is b p behind h) in
        let size = length-map (answered (now u.0)) (λ x. x.1) in
        omega (arith, none, size)

    buf_arcs : (b p : ℕ) (u : CellId) → length old ≤ b → b < length new → producer_of new (port_of b p) ≡ Some u
        → members (received p (now b)) ≡ take (length (answered (now u.0))) (coming new now (port_of b p) u.0)
    buf_arcs b p u behind h fed =
        let size = buf_coming b p u behind h in
        buf_takes b p u behind h fed
        ∙ sym (take_all (length (answered (now u.0))) (coming new now (port_of b p) u.0) (omega (arith, size)))

    buf_over : (b : ℕ) → length old ≤ b → b < length new → IsOver new now b
    buf_over b behind h =
        let feed = buf_feed old new count is b behind h in
        let u = feed.0 in
        let d = port_of b 0 in
        let e = ap (λ (l : List Member). length l) (buf_takes b 0 u behind h feed.1) in
        let size = length-map (received 0 (now b)) (λ x. x.1) in
        let left = per_port (λ p. value_of (left_at new now b p)) in
        record {
          port = 0;
          from = u;
          fed = feed.1;
          wanted = ap (λ k. wants k (with_constants (cell_at new b) left) 0) (is.others b behind h);
          missing =
              ap (left_from new now d) feed.1
              ∙ slice_get_past (coming new now d u.0) (length (received 0 (now b))) (omega (arith, e, size));
        }

    buf_shifts : (b p : ℕ) (u : CellId) → length old ≤ b → b < length new → producer_of new (port_of b p) ≡ Some u
        → added (gate_part new u.0) (block_turns (received p (now b)))
        ≡ added (merge_part new (port_of b p)) (block_turns (answered (now u.0)))
    buf_shifts b p u behind h fed =
        let from = buf_origin_of b p u behind h fed in
        let sent = sends u.0 (is.within b p u fed) in
        let g = gate_part old (origin new b) in
        let stream = answered (labels (origin new b)) in
        let ts = block_turns (answered (map (pass g) stream)) in
        let us = block_turns (answered (now u.0)) in
        let gate = gate_part new u.0 in
        let is_ts : block_turns (received p (now b)) ≡ ts =
        ap (λ l. block_turns (received p l)) (buf_label b behind h)
        ∙ ap (λ q. block_turns (received q (map (pass g) stream))) from.0
        ∙ ap (λ t. block_turns t) (passed_taken g stream) in
        let part : gate + sent.gone ≡ g =
        let e = sent.part in let same = ap (gate_part old) from.1 in omega arith in
        let both : added sent.gone (added gate ts) ≡ added sent.gone us =
        sums gate sent.gone ts ∙ ap (λ k. added k ts) part
        ∙ numbers_later g stream (late (origin new b))
        ∙ ap (λ k. block_turns (answered (labels k))) from.1 ∙ sym sent.turns in
        ap (added gate) is_ts
        ∙ same_added sent.gone (added gate ts) us both
        ∙ sym (zeros us) ∙ ap (λ k. added k us) (sym (no_merge old new count is b p behind h))

    -- ---- all cells

    meets_old : (c : ℕ) → c < length old → MeetsAt new inputs n now c
    meets_old c h =
        let at = meet c in
        let is_now = old_label old new labels c h in
        let same = sym is_now in
        record {
          source = λ list e. is_now ∙ at.source list (sym (same_sources inputs c h) ∙ e);
          rising = subst (λ l. AreRising (turns_of l)) same at.rising;
          arcs = λ p u fed. old_arcs c p u h fed;
          shifts = λ p u fed none. old_shifts c p u h fed none;
          wanted = subst (AllByRecursion (IsWanted (cell_at new c))) same
              (all_wanted new (cell_at old c) (cell_at new c) (is.kinds c h) (is.feeds c h) (labels c) at.wanted);
          right = λ i few within safe.
              let f = firing_at (labels c) i in
              let here : firing_at (now c) i ≡ f = ap (λ l. firing_at l i) is_now in
              let sized = ap (λ (l : List Firing). length l) is_now in
              let was = at.right i few (omega (arith, sized, within)) (subst (λ (g : Firing). IsSure g) here safe) in
              subst (λ (g : Firing). g.answer ≡ as_member (answer_at new inputs i c (values g.taken))) (sym here)
              (old_right c h f i was);
          over = λ within few none.
              let sized = ap (λ (l : List Firing). length l) is_now in
              old_over c h (at.over h (omega (arith, sized, few)) (sym (ap limit (is.kinds c h)) ∙ none));
          steady = λ d fed some.
              subst (AllByRecursion (λ (f : Firing). is_some f.answer ≡ true)) same (old_steady c h d fed some);
          counts =
              λ m e. ap (λ (l : List Firing). length l) is_now ∙ at.counts m (sym (ap limit (is.kinds c h)) ∙ e);
        }

    meets_buf : (b : ℕ) → length old ≤ b → b < length new → MeetsAt new inputs n now b
    meets_buf b behind h =
        let kind' = is.others b behind h in
        let chain = is.chains b behind h in
        let g = gate_part old (origin new b) in
        let label = labels (origin new b) in
        let stream = answered label in
        let is_now = buf_label b behind h in
        let same = sym is_now in
        let at = meet (origin new b) in
        let cell = cell_at new b in
        let turns : map (later g) (turns_of (map (pass g) stream)) ≡ stream_turns stream =
        ap (map (later g)) (passed_turns g stream) ∙ turns_later g stream (late (origin new b)) in
        record {
          source = λ list e. let none = ap (λ k. source_list k (values_of new inputs b)) kind' in absurd (cc);
          rising =
              subst (λ l. AreRising (turns_of l)) same
              (rising_back g (turns_of (map (pass g) stream))
              (subst AreRising (sym turns) (rising_answered label at.rising)));
          arcs = λ p u fed. buf_arcs b p u behind h fed;
          shifts = λ p u fed none. buf_shifts b p u behind h fed;
          wanted = subst (AllByRecursion (IsWanted cell)) same
              (as_buf (λ x. AllByRecursion (IsWanted x) (map (pass g) stream)) cell chain.0 kind' chain.1
              (passes_wanted cell chain.0 g stream));
          right = λ i few within safe.
              let here = ap (λ l. firing_at l i) is_now in
              let sized = ap (λ (l : List Firing). length l) is_now in
              let all = as_buf (λ x. AnswersRightly x i (values_of new inputs b)
              (firing_at (map (pass g) stream) i)) cell
              chain.0 kind' chain.1
              (passes_right cell chain.0 g i (values_of new inputs b) stream i (omega (arith, sized, within))) in
              subst (λ (f : Firing). f.answer ≡ as_member (answer_at new inputs i b (values f.taken))) (sym here)
              (all (subst (λ (f : Firing). IsSure f) here safe));
          over = λ within few none. buf_over b behind h;
          steady = λ d fed some.
              subst (AllByRecursion (λ (f : Firing). is_some f.answer ≡ true)) same (all_answer g stream);
          counts = λ m e. let none = ap limit kind' in absurd (cc);
        }

    meets_past : (c : ℕ) → length new ≤ c → MeetsAt new inputs n now c
    meets_past c past =
        let none = sym (past_label c past) in
        let cell = get_or_past new c no_cell past in
        record {
          source =
              λ list e. let no = ap (λ (x : Cell). source_list x.kind (values_of new inputs c)) cell in absurd (cc);
          rising = subst (λ l. AreRising (turns_of l)) none tt;
          arcs = λ p u fed. absurd (none_past new c past p u fed);
          shifts = λ p u fed bare. absurd (none_past new c past p u fed);
          wanted = subst (AllByRecursion (IsWanted (cell_at new c))) none tt;
          right = λ i few within safe.
              let sized = ap (λ (l : List Firing). length l) (past_label c past) in absurd
              (omega (arith, sized, within));
          over = λ within few free. absurd (omega (arith, within, past));
          steady = λ d fed some. subst (AllByRecursion (λ (f : Firing). is_some f.answer ≡ true)) none tt;
          counts = λ m e. let is_buf = ap (λ (x : Cell). limit x.kind) cell in absurd (cc);
        }

    pub carried_meet : LabelsMeet new inputs n now
    carried_meet c = elim (cases_lt c (length old)) [
      | inl here ↦ meets_old c here
      | inr behind ↦ elim (cases_lt c (length new)) [
        | inl inside ↦ meets_buf c behind inside
        | inr past ↦ meets_past c past
      ]
    ]

  -- ---- answers come no earlier than the gate part

  not_early : (s : Stream) → AllByRecursion (λ x. 0 ≤ block_turn x.0) s
  not_early [] = tt
  not_early (x ∷ s) = (omega arith, not_early s)

  pub carried_late : (labels : Labels) → AreLate old labels → AreLate new (carried old new labels)
  carried_late labels late c = elim (cases_lt c (length old)) [
    | inl here ↦
        subst (λ g. AllByRecursion (λ x. g ≤ block_turn x.0) (answered (carried old new labels c)))
        (sym (gates_stay old new count is c here))
        (subst (λ l. AllByRecursion (λ x. gate_part old c ≤ block_turn x.0) (answered l))
        (sym (old_label old new labels c here)) (late c))
    | inr behind ↦ elim (cases_lt c (length new)) [
      | inl inside ↦
          subst (λ g. AllByRecursion (λ x. g ≤ block_turn x.0) (answered (carried old new labels c)))
          (sym (no_gate old new count is c behind inside)) (not_early (answered (carried old new labels c)))
      | inr past ↦
          let none : carried old new labels c ≡ [] =
          let few = is.few in
          ap (λ t. cond t (labels c) (cond (nat_lt c (length new)) (passed_on old new labels c) []))
          (le-ltb c (length old) behind)
          ∙ ap (λ t. cond t (passed_on old new labels c) []) (le-ltb c (length new) past) in
          subst (λ l. AllByRecursion (λ x. gate_part new c ≤ block_turn x.0) (answered l)) (sym none) tt
    ]
  ]

  single_passed : (g : ℕ) (s : Stream) → AllByRecursion (λ t. length t ≡ 1) (stream_turns s)
      → AllByRecursion (λ (f : Firing). length f.turn ≡ 1) (map (pass g) s)
  single_passed g [] all = tt
  single_passed g (x ∷ s) all = (same_size x.0 all.0, single_passed g s all.1)
    where
      same_size : (t : Turn) → length t ≡ 1 → length (earlier g t) ≡ 1
      same_size [] one = one
      same_size (i ∷ t) one = one

  -- turns stay of one number
  pub carried_single : (labels : Labels) → ((c : ℕ) → AllByRecursion (λ (f : Firing). length f.turn ≡ 1) (labels c))
      → (c : ℕ) → AllByRecursion (λ (f : Firing). length f.turn ≡ 1) (carried old new labels c)
  carried_single labels single c = go (nat_lt c (length old)) (nat_lt c (length new))
    where
      from_firings : (label : List Firing) → AllByRecursion (λ (f : Firing). length f.turn ≡ 1) label
          → AllByRecursion (λ t. length t ≡ 1) (turns_of label)
      from_firings [] all = tt
      from_firings (f ∷ label) all = (all.0, from_firings label all.1)

      go : (a b : Bool) → AllByRecursion (λ (f : Firing). length f.turn ≡ 1)
          (cond a (labels c) (cond b (passed_on old new labels c) []))
      go true b = single c
      go false true =
          let o = origin new c in
          single_passed (gate_part old o) (answered (labels o))
          (all_answered (λ t. length t ≡ 1) (labels o) (from_firings (labels o) (single o)))
      go false false = tt

  pub none_loaded : ((d : Dest) → loaded_at old d ≡ None) → (d : Dest) → loaded_at new d ≡ None
  none_loaded none d = elim (cases_lt d.cell.0 (length old)) [
    | inl here ↦ loads_stay old new count is d here ∙ none d
    | inr behind ↦ elim (cases_lt d.cell.0 (length new)) [
      | inl inside ↦ buf_unloaded old new count is d.cell.0 d.port.0 behind inside
      | inr past ↦
          ap (λ (cell : Cell). loaded_from (slice_get cell.ports d.port.0)) (get_or_past new d.cell.0 no_cell past)
    ]
  ]
