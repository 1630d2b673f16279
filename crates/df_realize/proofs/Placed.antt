-- Loops of skeletons have places: arcs keep zones, where no value passes at the false side of a MERGE whose control is
-- never false.
use Rattle.std.proofs.Common.{◌≡◌, ℕ, zero, suc, ◌<◌, Bool, false, cond, List, ◌++◌, length, take, Option, Some, None, refl, sym, ◌∙◌, ap, subst, inl, inr, arith}
use Rattle.std.specs.Prelude.{slice_get}
use Rattle.std.specs.List.{AllByRecursion}
use Rattle.std.proofs.lemmas.Bool.{cases_lt}
use Rattle.std.proofs.lemmas.List.{get_or_past}
use Rattle.df_values.specs.declared.values.Value.{Value}
use Rattle.df_values.specs.Inputs.{AreValid}
use Rattle.df_cells.specs.declared.cells.Cell.{Cell}
use Rattle.df_cells.specs.declared.cells.CellId.{CellId}
use Rattle.df_cells.specs.declared.cells.Dest.{Dest}
use Rattle.df_cells.specs.declared.kinds.Kind.{Kind}
use Rattle.df_cells.specs.declared.kinds.Kind.TheVariants as kind
use Rattle.df_cells.specs.declared.kinds.Run.{Run}
use Rattle.df_cells.specs.Kinds.{port_count, run_values}
use Rattle.df_cells.specs.Cells.{no_cell, cell_from, cell_at, port_of, producer_of, values_of, declarations, is_buf}
use Rattle.df_cells.specs.Shifts.{cell_or, back_over, origin, control_values, controls_from, controls}
use Rattle.df_cells.specs.WellFormed.{WellFormed}
use Rattle.df_wellformed.proofs.Feeds.{fed_within}
use Rattle.df_labels.specs.Histories.{listed}
use Rattle.df_labels.specs.Labels.{Labels, LabelsMeet, Pairs, source_list, answered, received, stream_values}
use Rattle.df_labels.specs.Laws.{ObeysKinds}
use Rattle.df_labels.specs.Places.{HasPlaces}
use Rattle.df_build_cond.specs.Orderly.{AreNeverFalse}
use Rattle.df_build_elem.specs.Finished.{StaysWithin, AreInZones}
use Rattle.df_rank.specs.Laws.{ZonesGivePlaces}
use Rattle.df_rank.specs.Zones.{StaysInZone, KeepsZones}
use Rattle.df_realize.proofs.Untaken.{IsNotFalse, TakeNothing, never_false_side, nothing_received}

-- ---- kinds

some_of : {A B : Type 0} {x : A} → None ≡ Some x → B
some_of e = absurd (never e)
  where
    never : {A : Type 0} {x : A} → None ≡ Some x → ⊥
    never e = cc

-- only a MERGE has a third port
a_merge : (it : Kind) → 2 < port_count it → it ≡ kind.Merge
a_merge kind.Merge third = refl
a_merge _ third = absurd (omega (arith, third))

-- only a CTL has values of a control
a_control : (it : Kind) → 0 < length (control_values it) → (runs : List Run) × (it ≡ kind.Ctl runs)
a_control (kind.Ctl runs) some = (runs, refl)
a_control _ some = absurd (omega (arith, some))

module _ (cells : List Cell) (well_formed : WellFormed cells)
    (plain : (c : ℕ) → c < length cells → is_buf cells c ≡ false) where
  -- ---- which cells have a third port, and what controls them

  inside : (c p : ℕ) (u : CellId) → producer_of cells (port_of c p) ≡ Some u → c < length cells
  inside c p u fed = elim (cases_lt c (length cells)) [
    | inl here ↦ here
    | inr past ↦
        let none = ap (λ (cell : Cell). cell_from (slice_get cell.ports p)) (get_or_past cells c no_cell past) in
        some_of (sym none ∙ fed)
  ]

  merges : (c : ℕ) (u : CellId) → producer_of cells (port_of c 2) ≡ Some u → (cell_at cells c).kind ≡ kind.Merge
  merges c u fed =
      let ports = (well_formed.shaped.each c no_cell (inside c 2 u fed)).ports in
      let third = fed_within (cell_at cells c).ports 2 u fed in
      a_merge (cell_at cells c).kind (omega (arith, ports, third))

  over_same : (n c : ℕ) → c < length cells → back_over cells n c ≡ c
  over_same zero c here = refl
  over_same (suc n) c here =
      let before = cell_or c (producer_of cells (port_of c 0)) in
      ap (λ (t : Bool). back_over cells n (cond t before c)) (plain c here) ∙ over_same n c here

  origin_same : (c : ℕ) → c < length cells → origin cells c ≡ c
  unfolding origin
  origin_same c here = over_same (length cells) c here

  -- the CTL that controls a cell
  record IsRuled (c : ℕ) : Type 0 where
    by : CellId
    runs : List Run
    fed : producer_of cells (port_of c 0) ≡ Some by
    here : by.0 < length cells
    is : (cell_at cells by.0).kind ≡ kind.Ctl runs
    all : controls cells c ≡ run_values runs

  ruled : (c : ℕ) → 0 < length (controls cells c) → IsRuled c
  ruled c some = go (producer_of cells (port_of c 0)) refl
    where
      go : (o : Option CellId) → producer_of cells (port_of c 0) ≡ o → IsRuled c
      go None fed = let none = ap (λ o. length (controls_from cells o)) fed in absurd (omega (arith, some, none))
      go (Some w) fed =
          let here = (well_formed.port c (inside c 0 w fed)).feeds 0 w fed in
          let own = ap (λ k. control_values (cell_at cells k).kind) (origin_same w.0 here) in
          let from : controls cells c ≡ control_values (cell_at cells w.0).kind = ap (controls_from cells) fed ∙ own in
          let it = a_control (cell_at cells w.0).kind (subst (λ (l : List Value). 0 < length l) from some) in
          record {
            by = w;
            runs = it.0;
            fed = fed;
            here = here;
            is = it.1;
            all = from ∙ ap control_values it.1;
          }

  module _ (inputs : List (List Value)) (valid : AreValid (declarations cells) inputs) (labels : Labels)
      (meet : LabelsMeet cells inputs labels) (obeys : ObeysKinds) where
    -- ---- what a MERGE takes

    gives_runs : (w : ℕ) (runs : List Run) → w < length cells → (cell_at cells w).kind ≡ kind.Ctl runs
        → stream_values (answered (labels w)) ≡ run_values runs
    gives_runs w runs here is = sym (given (obeys cells inputs labels well_formed valid meet w (kind.Ctl runs) here is))
      where
        given : {xs ys : List Value} → Some xs ≡ Some ys → xs ≡ ys
        given e = cc

    takes_controls : (c : ℕ) (r : IsRuled c) → stream_values (received 0 (labels c)) ≡ run_values r.runs
    takes_controls c r =
        let first = ap (λ o. listed o ++ stream_values (answered (labels r.by.0))) ((meet c).unloaded 0) in
        (meet c).arcs 0 r.by r.fed ∙ (first ∙ gives_runs r.by.0 r.runs r.here r.is)

    takes_nothing : (c : ℕ) (u : CellId) → producer_of cells (port_of c 2) ≡ Some u → AreNeverFalse (controls cells c)
        → TakeNothing 2 (labels c)
    takes_nothing c u fed never =
        let is = merges c u fed in
        let r = ruled c never.0 in
        let others = subst (AllByRecursion IsNotFalse) (r.all ∙ sym (takes_controls c r)) never.1 in
        let right = (meet c).right (ap (λ it. source_list it (values_of cells inputs c)) is) in
        never_false_side (cell_at cells c) r.by is r.fed (labels c) right others

    -- ---- places

    never_passes : (d : Dest) (u : CellId) → producer_of cells d ≡ Some u → d.port.0 ≡ 2
        → AreNeverFalse (controls cells d.cell.0) → (i j : ℕ) → Pairs cells labels d u.0 i j → ⊥
    never_passes d u fed second never i j pair =
        let label = labels d.cell.0 in
        let there = ap (λ p. producer_of cells (port_of d.cell.0 p)) (sym second) ∙ fed in
        let none = takes_nothing d.cell.0 u there never in
        let takes = λ (p : ℕ). length (received p (take (suc j) label)) ≡ suc (length (received p (take j label))) in
        let more = subst takes second pair.takes in
        let all = nothing_received 2 label none (suc j) in
        omega (arith, more, all)

    keeps : (zone : ℕ → ℕ) → AreInZones cells zone → KeepsZones cells labels zone
    keeps zone zones d u fed =
        elim (zones d u fed) [ inl lower ↦ inl lower | inr both ↦ inr (both.0, stays both.1) ]
      where
        stays : StaysWithin cells d u.0 → StaysInZone cells labels d u.0
        stays (inl forth) = inl forth
        stays (inr (inl around)) = inr (inl around)
        stays (inr (inr f)) = inr (inr (never_passes d u fed f.0 f.2))

    pub places : ZonesGivePlaces → (zone : ℕ → ℕ) → AreInZones cells zone → HasPlaces cells labels
    places give zone zones = give cells inputs labels zone well_formed meet (keeps zone zones)
