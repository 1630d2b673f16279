-- The answers of a gate come no earlier than its gate part.
use Rattle.std.proofs.Common.{◌≡◌, ℕ, zero, suc, ◌+◌, ◌≤◌, ◌&&◌, Bool, true, false, cond, List, [], ◌∷◌, ◌++◌, map}
use Rattle.std.proofs.Common.{length, drop, get_or, Option, Some, None, ◌⊎◌, inl, inr, refl, sym, ap, subst, ◌∙◌}
use Rattle.std.proofs.Common.{arith}
use Rattle.std.specs.Prelude.{slice_get, is_some}
use Rattle.std.specs.Option.{unwrap_or}
use Rattle.std.specs.List.{AllByRecursion}
use Rattle.df_values.specs.declared.values.Value.{Value}
use Rattle.df_values.specs.declared.values.Value.TheVariants.{Int, Truth, Error}
use Rattle.df_values.specs.declared.values.ErrorValue.TheVariants.{Undef}
use Rattle.df_cells.specs.declared.cells.CellId.{CellId}
use Rattle.df_cells.specs.declared.cells.Cell.{Cell}
use Rattle.df_cells.specs.declared.cells.Feed.{Feed}
use Rattle.df_cells.specs.declared.cells.Feed.TheVariants.{Arc, Constant, Loaded}
use Rattle.df_cells.specs.declared.kinds.Kind.{Kind}
use Rattle.df_cells.specs.declared.kinds.Kind.TheVariants as kind
use Rattle.df_cells.specs.declared.kinds.Family.{Family}
use Rattle.df_cells.specs.declared.kinds.Family.TheVariants as of
use Rattle.df_cells.specs.declared.kinds.Run.{Run}
use Rattle.df_cells.specs.Families.{family}
use Rattle.df_cells.specs.Kinds.{run_values}
use Rattle.df_cells.specs.Cells.{cell_at, cell_from, port_of, producer_of, values_of, is_buf}
use Rattle.df_cells.specs.Firings.{operand, at_hand, with_constants, family_wants, wants, source_answer, gate_answer}
use Rattle.df_cells.specs.Firings.{family_answer, answer}
use Rattle.df_cells.specs.Shifts.{origin, back_over, cell_or, first_from, is_truth, first_truth, control_values}
use Rattle.df_cells.specs.Shifts.{controls_from, controls, gate_place, gate_part, merge_place, merge_part}
use Rattle.df_labels.specs.Histories.{listed}
use Rattle.df_labels.specs.Labels.{Turn, Firing, Stream, Labels, block_turn, later, stream_turns, stream_values}
use Rattle.df_labels.specs.Labels.{at_turn, answered, received, source_list, in_order_from, IsRightFiring, LabelsMeet}
use Rattle.df_labels.specs.Finishing.{ArcsWithin, HasNoBuffers}

-- the turn is not among the first g
abbrev IsLate : ℕ → Turn → Type 0
IsLate g t = g ≤ block_turn t

later_zero : (t : Turn) → later 0 t ≡ t
later_zero [] = refl
later_zero (i ∷ t) = let e : i + 0 ≡ i = omega arith in ap (λ k. k ∷ t) e

zeros : (ts : List Turn) → map (later 0) ts ≡ ts
zeros [] = refl
zeros (t ∷ ts) = ap (λ s. s ∷ map (later 0) ts) (later_zero t) ∙ ap (λ l. t ∷ l) (zeros ts)

-- a cell that is no BUF is its own origin
over_same : (cells : List Cell) (n c : ℕ) → is_buf cells c ≡ false → back_over cells n c ≡ c
over_same cells zero c plain = refl
over_same cells (suc n) c plain =
    let before = cell_or c (producer_of cells (port_of c 0)) in
    ap (λ (t : Bool). back_over cells n (cond t before c)) plain ∙ over_same cells n c plain

origin_stays : (cells : List Cell) (c : ℕ) → is_buf cells c ≡ false → origin cells c ≡ c
unfolding origin
origin_stays cells c plain = over_same cells (length cells) c plain

-- ---- labels whose turns are 0, 1, 2 and so on, with these controls

abbrev InOrder : ℕ → List Firing → List Value → Type 0
InOrder i [] vs = Unit {0}
InOrder i (f ∷ label) [] = ⊥
InOrder i (f ∷ label) (v ∷ vs) = (f.turn ≡ i ∷ []) × (get_or f.taken 0 None ≡ Some v) × InOrder (i + 1) label vs

-- where the control isn't the truth value that passes, there is no answer
record IsGated (wanted : Bool) (f : Firing) : Type 0 where
  stops : (v : Value) → get_or f.taken 0 None ≡ Some v → is_truth wanted v ≡ false → f.answer ≡ None

abbrev AreLate : ℕ → List Firing → Type 0
AreLate g label = AllByRecursion (λ x. IsLate g x.0) (answered label)

late_rest : (g : ℕ) (t : Turn) (o : Option Value) (rest : Stream) → IsLate g t
    → AllByRecursion (λ x. IsLate g x.0) rest
    → AllByRecursion (λ x. IsLate g x.0) (at_turn t o ++ rest)
late_rest g t None rest here all = all
late_rest g t (Some v) rest here all = (here, all)

late_turn : (g i : ℕ) (t : Turn) → t ≡ i ∷ [] → g ≤ i → IsLate g t
late_turn g i t e h = subst (IsLate g) (sym e) h

late_after : (g i : ℕ) (label : List Firing) (vs : List Value) → g ≤ i → InOrder i label vs → AreLate g label
late_after g i [] vs h order = tt
late_after g i (f ∷ label) [] h order = absurd order
late_after g i (f ∷ label) (v ∷ vs) h order =
    late_rest g f.turn f.answer (answered label) (late_turn g i f.turn order.0 h)
    (late_after g (i + 1) label vs (omega arith) order.2)

late : (wanted : Bool) (i : ℕ) (label : List Firing) (vs : List Value) → InOrder i label vs
    → AllByRecursion (IsGated wanted) label → AreLate (first_from (is_truth wanted) i vs) label
late wanted i [] vs order gates = tt
late wanted i (f ∷ label) [] order gates = absurd order
late wanted i (f ∷ label) (v ∷ vs) order gates =
    by (is_truth wanted v) refl (late wanted (i + 1) label vs order.2 gates.1)
  where
    by : (b : Bool) → is_truth wanted v ≡ b → AreLate (first_from (is_truth wanted) (i + 1) vs) label
        → AreLate (cond b i (first_from (is_truth wanted) (i + 1) vs)) (f ∷ label)
    by true passes rest =
        late_rest i f.turn f.answer (answered label) (late_turn i i f.turn order.0 (omega arith))
        (late_after i (i + 1) label vs (omega arith) order.2)
    by false stops rest =
        subst (λ o. AllByRecursion (λ x. IsLate (first_from (is_truth wanted) (i + 1) vs) x.0)
        (at_turn f.turn o ++ answered label)) (sym (gates.0.stops v order.1 stops)) rest

-- ---- from what a gate receives

abbrev Takes : Firing → Type 0
Takes f = is_some (get_or f.taken 0 None) ≡ true

in_order : (i : ℕ) (label : List Firing) (vs : List Value) → AllByRecursion Takes label
    → stream_values (received 0 label) ≡ vs
    → stream_turns (received 0 label) ≡ stream_turns (answered (in_order_from i vs)) → InOrder i label vs
in_order i [] vs takes values turns = tt
in_order i (f ∷ label) vs takes values turns =
    by (get_or f.taken 0 None) refl vs takes.0 values turns (λ ws. in_order (i + 1) label ws takes.1)
  where
    by : (o : Option Value) → get_or f.taken 0 None ≡ o → (vs : List Value) → is_some o ≡ true
        → stream_values (at_turn f.turn o ++ received 0 label) ≡ vs
        → stream_turns (at_turn f.turn o ++ received 0 label) ≡ stream_turns (answered (in_order_from i vs))
        → ((ws : List Value) → stream_values (received 0 label) ≡ ws
        → stream_turns (received 0 label) ≡ stream_turns (answered (in_order_from (i + 1) ws))
        → InOrder (i + 1) label ws)
        → InOrder i (f ∷ label) vs
    by None is vs some values turns rest = absurd (cc)
    by (Some v) is [] some values turns rest = absurd (cc)
    by (Some v) is (w ∷ ws) some values turns rest =
        let value : v ≡ w = cc in
        let turn : f.turn ≡ i ∷ [] = cc in
        let more : stream_values (received 0 label) ≡ ws = cc in
        let later_turns : stream_turns (received 0 label) ≡ stream_turns (answered (in_order_from (i + 1) ws)) = cc in
        (turn, is ∙ ap Some value, rest ws more later_turns)

source_answers : (i : ℕ) (vs : List Value) → stream_values (answered (in_order_from i vs)) ≡ vs
source_answers i [] = refl
source_answers i (v ∷ vs) = ap (λ l. v ∷ l) (source_answers (i + 1) vs)

-- ---- firings of gates

each_firing : (P Q : Firing → Type 0) → ((f : Firing) → P f → Q f) → (label : List Firing) → AllByRecursion P label
    → AllByRecursion Q label
each_firing P Q weaker [] all = tt
each_firing P Q weaker (f ∷ label) all = (weaker f all.0, each_firing P Q weaker label all.1)

hand : (feed : Option Feed) (u : CellId) (x : Option Value) → cell_from feed ≡ Some u → at_hand feed x ≡ x
hand None u x fed = absurd (cc)
hand (Some (Arc w)) u x fed = refl
hand (Some (Constant v)) u x fed = absurd (cc)
hand (Some (Loaded w v)) u x fed = refl

stopped : (wanted : Bool) (control v : Value) → is_truth wanted control ≡ false → gate_answer wanted control v ≡ None
stopped true (Truth true) v stops = absurd (cc)
stopped true (Truth false) v stops = refl
stopped true (Int n) v stops = refl
stopped true (Error e) v stops = refl
stopped false (Truth true) v stops = refl
stopped false (Truth false) v stops = absurd (cc)
stopped false (Int n) v stops = refl
stopped false (Error e) v stops = refl

module _ (wanted : Bool) (cell : Cell) (u : CellId) (f : Firing) (is : family cell.kind ≡ of.Gate wanted)
    (fed : cell_from (slice_get cell.ports 0) ≡ Some u) (right : IsRightFiring cell f) where
  takes_control : Takes f
  takes_control =
      right.takes.takes 0 ∙ ap (λ o. is_some o && wants cell.kind (with_constants cell f.taken) 0) fed
      ∙ ap (λ k. family_wants k (with_constants cell f.taken) 0) is

  is_gated : IsGated wanted f
  unfolding answer
  is_gated = record {
    stops = λ v takes stops.
        let x = with_constants cell f.taken in
        let control : operand x 0 ≡ v =
        ap (λ o. unwrap_or o (Error Undef)) (hand (slice_get cell.ports 0) u (get_or f.taken 0 None) fed ∙ takes) in
        right.answers ∙ ap (λ k. family_answer k (source_answer cell.kind 0 []) x) is
        ∙ ap (λ c. gate_answer wanted c (operand x 1)) control
        ∙ stopped wanted v (operand x 1) stops;
  }

-- ---- kinds

control_or_none : (k : Kind) → ((runs : List Run) × (k ≡ kind.Ctl runs)) ⊎ (control_values k ≡ [])
control_or_none (kind.Ctl runs) = inl (runs, refl)
control_or_none _ = inr refl

gate_or_none : (f : Family) → ((wanted : Bool) × (f ≡ of.Gate wanted)) ⊎ ((vs : List Value) → gate_place f vs ≡ 0)
gate_or_none (of.Gate wanted) = inl (wanted, refl)
gate_or_none _ = inr (λ vs. refl)

no_list : (k : Kind) (wanted : Bool) (own : List Value) → family k ≡ of.Gate wanted → source_list k own ≡ None
no_list (kind.In name basic n) wanted own is = absurd (cc)
no_list (kind.Idx lo n) wanted own is = absurd (cc)
no_list (kind.Ctl runs) wanted own is = absurd (cc)
no_list _ wanted own is = refl

late_anyway : (s : Stream) → AllByRecursion (λ x. IsLate 0 x.0) s
late_anyway [] = tt
late_anyway (x ∷ s) = (omega arith, late_anyway s)

-- ---- all cells without BUF cells

module _ (cells : List Cell) (inputs : List (List Value)) (labels : Labels) (meet : LabelsMeet cells inputs labels)
    (plain : HasNoBuffers cells) (within : ArcsWithin cells) where
  no_part : (u : ℕ) (runs : List Run) → (cell_at cells u).kind ≡ kind.Ctl runs → gate_part cells u ≡ 0
  unfolding gate_part
  no_part u runs source = ap (λ k. gate_place (family k) (controls cells u)) source

  no_side : (wanted : Bool) (c : ℕ) → family (cell_at cells c).kind ≡ of.Gate wanted
      → merge_part cells (port_of c 0) ≡ 0
  unfolding merge_part
  no_side wanted c is = ap (λ f. merge_place f 0 (controls cells c)) is

  -- the control comes straight from a CTL
  gate_late : (wanted : Bool) (c : ℕ) (u : CellId) (runs : List Run) → family (cell_at cells c).kind ≡ of.Gate wanted
      → producer_of cells (port_of c 0) ≡ Some u → (cell_at cells u.0).kind ≡ kind.Ctl runs
      → AreLate (first_truth wanted (run_values runs)) (labels c)
  gate_late wanted c u runs is fed source =
      let vs = run_values runs in
      let cell = cell_at cells c in
      let own : labels u.0 ≡ in_order_from 0 vs =
      (meet u.0).sources vs (ap (λ k. source_list k (values_of cells inputs u.0)) source) in
      let none = (meet c).unloaded 0 in
      let right = (meet c).right (no_list cell.kind wanted (values_of cells inputs c) is) in
      let values : stream_values (received 0 (labels c)) ≡ vs =
      (meet c).arcs 0 u fed ∙ ap (λ o. listed o ++ stream_values (answered (labels u.0))) none
      ∙ ap (λ l. stream_values (answered l)) own ∙ source_answers 0 vs in
      let turns : stream_turns (received 0 (labels c)) ≡ stream_turns (answered (in_order_from 0 vs)) =
      sym (zeros (stream_turns (received 0 (labels c))))
      ∙ ap (λ g. map (later g) (stream_turns (received 0 (labels c)))) (sym (no_part u.0 runs source))
      ∙ ap (λ o. map (later (gate_part cells u.0)) (stream_turns (drop (length (listed o)) (received 0 (labels c)))))
      (sym none)
      ∙ (meet c).shifts 0 u fed
      ∙ ap (λ m. map (later m) (stream_turns (answered (labels u.0)))) (no_side wanted c is)
      ∙ zeros (stream_turns (answered (labels u.0)))
      ∙ ap (λ l. stream_turns (answered l)) own in
      late wanted 0 (labels c) vs
      (in_order 0 (labels c) vs (each_firing (IsRightFiring cell) Takes (λ f r. takes_control wanted cell u f is fed r)
      (labels c) right) values turns)
      (each_firing (IsRightFiring cell) (IsGated wanted) (λ f r. is_gated wanted cell u f is fed r) (labels c) right)

  gate_controls : (wanted : Bool) (c : ℕ) → family (cell_at cells c).kind ≡ of.Gate wanted → (o : Option CellId)
      → producer_of cells (port_of c 0) ≡ o
      → AreLate (first_truth wanted (controls_from cells o)) (labels c)
  gate_controls wanted c is None fed = late_anyway (answered (labels c))
  gate_controls wanted c is (Some u) fed =
      let straight = origin_stays cells u.0 (plain u.0 (within c 0 u fed)) in
      elim (control_or_none (cell_at cells (origin cells u.0)).kind) [
        | inl ctl ↦
            subst (λ vs. AreLate (first_truth wanted vs) (labels c)) (sym (ap control_values ctl.1))
            (gate_late wanted c u ctl.0 is fed (ap (λ k. (cell_at cells k).kind) (sym straight) ∙ ctl.1))
        | inr none ↦
            subst (λ vs. AreLate (first_truth wanted vs) (labels c)) (sym none) (late_anyway (answered (labels c)))
      ]

  pub late_enough : (c : ℕ) → AreLate (gate_part cells c) (labels c)
  unfolding gate_part
  late_enough c = elim (gate_or_none (family (cell_at cells c).kind)) [
    | inl gate ↦
        subst (λ g. AreLate g (labels c)) (sym (ap (λ f. gate_place f (controls cells c)) gate.1))
        (gate_controls gate.0 c gate.1 (producer_of cells (port_of c 0)) refl)
    | inr none ↦ subst (λ g. AreLate g (labels c)) (sym (none (controls cells c))) (late_anyway (answered (labels c)))
  ]
