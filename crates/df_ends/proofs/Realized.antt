-- What labels of values say, said for every number of firings: places, what cells realize, and that they are good.
use Rattle.std.proofs.Common.{◌≡◌, ℕ, zero, suc, ◌+◌, ◌-◌, List, [], ◌∷◌, ◌++◌, map, get_or, length, take, Some}
use Rattle.std.proofs.Common.{◌<◌, ◌≤◌, refl, sym, ◌∙◌, ap, subst, inl, inr, arith}
use Rattle.std.specs.List.{AllByRecursion}
use Rattle.std.specs.Prelude.{slice_get}
use Rattle.std.proofs.lemmas.List.{take-map, length-map, get_or_past}
use Rattle.std.proofs.lemmas.Bool.{cases_lt}
use Rattle.std.proofs.lemmas.Option.{none-some}
use Rattle.df_values.specs.declared.values.Value.{Value}
use Rattle.df_cells.specs.declared.cells.Dest.{Dest}
use Rattle.df_cells.specs.declared.cells.Cell.{Cell}
use Rattle.df_cells.specs.Cells.{no_cell, cell_from, port_of, producer_of, loaded_at}
use Rattle.df_cells.specs.Shifts.{gate_part}
use Rattle.df_cells.specs.WellFormed.{WellFormed}
use Rattle.df_cells.specs.declared.cells.CellId.{CellId}
use Rattle.df_labels.specs.Histories.{listed, IsPrefix}
use Rattle.df_labels.specs.Labels as plain
use Rattle.df_labels.specs.Places as placed
use Rattle.df_labels.specs.Realizes.{Outcome}
use Rattle.df_labels.specs.Members.{Member, Firing, AreLate, Pairs, firing_at, answered, received, members, sure}
use Rattle.df_labels.specs.MemberPlaces.{HasPlaces}
use Rattle.df_machine.specs.Runs.{after, events}
use Rattle.df_ends.specs.OfValues.{firing_of, of_values}
use Rattle.df_labels.specs.Finishing.{HasNoBuffers}
use Rattle.df_labels.specs.ForAll.{for_all}
use Rattle.df_rank.specs.Hold.{hold, held}
use Rattle.df_rank.specs.Laws.{HoldRealizes}
use Rattle.df_ends.specs.Laws.{LabelsOfValuesMeet, RealizingCellsRealizeForAll, RealizingForAllIsGood, GoodForAllIsGood}
use Rattle.df_ends.specs.Laws.{HoldIsGood}
use Rattle.df_ends.proofs.OfValues.{stream_of, answered_of, received_of, members_of}
use Rattle.df_ends.proofs.Late.{late_enough}

-- ---- places

answered_size : (label : List plain.Firing) (i : ℕ)
    → length (answered (take i (map firing_of label))) ≡ length (plain.answered (take i label))
answered_size label i =
    ap (λ l. length (answered l)) (take-map firing_of i label) ∙ ap (λ s. length s) (answered_of (take i label))
    ∙ length-map (plain.answered (take i label)) (λ x. (x.0, Some x.1))

received_size : (p : ℕ) (label : List plain.Firing) (i : ℕ)
    → length (received p (take i (map firing_of label))) ≡ length (plain.received p (take i label))
received_size p label i =
    ap (λ l. length (received p l)) (take-map firing_of i label) ∙ ap (λ s. length s) (received_of p (take i label))
    ∙ length-map (plain.received p (take i label)) (λ x. (x.0, Some x.1))

-- firings that one member joins are joined by its value
pairs_of : (cells : List Cell) (labels : plain.Labels) (d : Dest) (u i j : ℕ) → Pairs cells (of_values labels) d u i j
    → plain.Pairs cells labels d u i j
pairs_of cells labels d u i j pairs = record {
  gives = sym (answered_size (labels u) (suc i)) ∙ pairs.gives ∙ ap suc (answered_size (labels u) i);
  takes = sym (received_size d.port.0 (labels d.cell.0) (suc j)) ∙ pairs.takes
      ∙ ap suc (received_size d.port.0 (labels d.cell.0) j);
  same = ap (λ k. length (listed (loaded_at cells d)) + k) (sym (answered_size (labels u) i)) ∙ pairs.same
      ∙ received_size d.port.0 (labels d.cell.0) j;
}

turn_same : (label : List plain.Firing) (i : ℕ)
    → (firing_at (map firing_of label) i).turn ≡ get_or (plain.turns_of label) i []
turn_same [] i = refl
turn_same (f ∷ label) zero = refl
turn_same (f ∷ label) (suc i) = turn_same label i

single_of : (label : List plain.Firing) → AllByRecursion (λ t. length t ≡ 1) (plain.turns_of label)
    → AllByRecursion (λ (f : Firing). length f.turn ≡ 1) (map firing_of label)
single_of [] all = tt
single_of (f ∷ label) all = (all.0, single_of label all.1)

-- so loops have places by these labels too
places_of : (cells : List Cell) (inputs : List (List Value)) (labels : plain.Labels)
    → plain.LabelsMeet cells inputs labels → placed.HasPlaces cells labels → HasPlaces cells (of_values labels)
places_of cells inputs labels meets places = record {
  place = places.place;
  single = λ c. single_of (labels c) (meets c).single;
  passing = λ d u i j fed marked same pairs.
      let goes = places.passing d u i j fed marked same (pairs_of cells labels d u.0 i j pairs) in
      let first = turn_same (labels u.0) i in
      let second = turn_same (labels d.cell.0) j in
      elim goes [
        | inl still ↦ inl (ap plain.block_turn second ∙ still.0 ∙ sym (ap plain.block_turn first), still.1)
        | inr next ↦ inr
            (ap plain.block_turn second ∙ next.0 ∙ ap (λ t. plain.block_turn t + 1) (sym first), next.1)
      ];
  unloaded = λ d. (meets d.cell.0).unloaded d.port.0;
}

-- ---- answers come no earlier than the gate part

late_stream : (g : ℕ) (s : plain.Stream) → AllByRecursion (λ x. g ≤ plain.block_turn x.0) s
    → AllByRecursion (λ x. g ≤ plain.block_turn x.0) (stream_of s)
late_stream g [] all = tt
late_stream g (x ∷ s) all = (all.0, late_stream g s all.1)

late_of : (cells : List Cell) (inputs : List (List Value)) (labels : plain.Labels)
    → plain.LabelsMeet cells inputs labels
    → HasNoBuffers cells → WellFormed cells → AreLate cells (of_values labels)
late_of cells inputs labels meets bare w c =
    subst (λ s. AllByRecursion (λ x. gate_part cells c ≤ plain.block_turn x.0) s) (sym (answered_of (labels c)))
    (late_stream (gate_part cells c) (plain.answered (labels c))
    (late_enough cells inputs labels meets bare (λ d p u fed. (w.port d (there d p u fed)).feeds p u fed) c))
  where
    there : (d p : ℕ) (u : CellId) → producer_of cells (port_of d p) ≡ Some u → d < length cells
    there d p u fed = elim (cases_lt d (length cells)) [
      | inl within ↦ within
      | inr past ↦ absurd (none-some u
          (ap (λ (c : Cell). cell_from (slice_get c.ports p)) (sym (get_or_past cells d no_cell past)) ∙ fed))
    ]

-- ---- what cells realize

-- a result of values, as members
result_of : (outcome : Outcome) (k : ℕ) → get_or (map sure outcome) k [] ≡ sure (get_or outcome k [])
result_of [] k = refl
result_of (l ∷ outcome) zero = refl
result_of (l ∷ outcome) (suc k) = result_of outcome k

pub realizing_cells_realize_for_all : LabelsOfValuesMeet → RealizingCellsRealizeForAll
realizing_cells_realize_for_all meet cells meaning w bare realizes = record {
  outputs = λ inputs n fits. realizes.outputs inputs fits ∙ sym (length-map (meaning inputs) sure);
  tells = λ inputs n fits.
      let t = realizes.tells inputs fits in
      record {
        labels = of_values t.labels;
        meet = meet cells inputs t.labels w fits t.meet n;
        whole = λ c k m is. ap (λ s. members s) (received_of 0 (t.labels c))
            ∙ members_of (plain.received 0 (t.labels c)) ∙ ap sure (t.whole c k m is)
            ∙ sym (result_of (meaning inputs) (k - 1));
        placed = places_of cells inputs t.labels t.meet t.placed;
        late = late_of cells inputs t.labels t.meet bare w;
      };
}

-- ---- good cells

sure_alone : (a b : List Value) → sure a ≡ sure b → a ≡ b
sure_alone [] [] e = refl
sure_alone [] (w ∷ b) e = cc
sure_alone (v ∷ a) [] e = cc
sure_alone (v ∷ a) (w ∷ b) e =
    let one : v ≡ w = first v w (sure a) (sure b) e in
    ap (λ x. x ∷ a) one ∙ ap (λ l. w ∷ l) (sure_alone a b (others v w (sure a) (sure b) e))
  where
    first : (v w : Value) (x y : List Member) → Some v ∷ x ≡ Some w ∷ y → v ≡ w
    first v w x y e = cc

    others : (v w : Value) (x y : List Member) → Some v ∷ x ≡ Some w ∷ y → x ≡ y
    others v w x y e = cc

sure_prefix : (a b : List Value) (rest : List Member) → sure b ≡ sure a ++ rest → IsPrefix a b
sure_prefix [] b rest e = (b, refl)
sure_prefix (v ∷ a) [] rest e = cc
sure_prefix (v ∷ a) (w ∷ b) rest e =
    let next = sure_prefix a b rest (others v w (sure b) (sure a ++ rest) e) in
    (next.0, ap (λ x. x ∷ b) (first v w (sure b) (sure a ++ rest) e) ∙ ap (λ l. v ∷ l) next.1)
  where
    first : (v w : Value) (x y : List Member) → Some w ∷ x ≡ Some v ∷ y → w ≡ v
    first v w x y e = cc

    others : (v w : Value) (x y : List Member) → Some w ∷ x ≡ Some v ∷ y → x ≡ y
    others v w x y e = cc

-- so values that are all of a result of values, as members, are that result
pub values_alone : (values : List Value) (outcome : Outcome) (k : ℕ) → sure values ≡ get_or (map sure outcome) k []
    → values ≡ get_or outcome k []
values_alone values outcome k e = sure_alone values (get_or outcome k []) (e ∙ result_of outcome k)

pub good_for_all_is_good : GoodForAllIsGood
good_for_all_is_good cells meaning good = record {
  faithful = record {
    no_clash = good.faithful.no_clash;
    results = λ inputs choices fits. good.faithful.results inputs choices 0 fits ∙ length-map (meaning inputs) sure;
    prefixes = λ inputs choices k fits.
        let begun = good.faithful.prefixes inputs choices (suc (events cells inputs choices)) k fits (omega arith) in
        sure_prefix (get_or (after cells inputs choices).results k []) (get_or (meaning inputs) k []) begun.0
        (sym (result_of (meaning inputs) k) ∙ begun.1);
  };
  whole = λ inputs choices k fits none.
      let all = good.whole inputs choices (suc (events cells inputs choices)) k fits (omega arith) none in
      values_alone (get_or (after cells inputs choices).results k []) (meaning inputs) k all;
}

-- ---- a held value

no_buffers : HasNoBuffers hold
no_buffers zero within = refl
no_buffers (suc zero) within = refl
no_buffers (suc (suc zero)) within = refl
no_buffers (suc (suc (suc zero))) within = refl
no_buffers (suc (suc (suc (suc zero)))) within = refl
no_buffers (suc (suc (suc (suc (suc zero))))) within = refl
no_buffers (suc (suc (suc (suc (suc (suc c)))))) within = absurd (omega (arith, within))

pub hold_is_good : HoldRealizes → RealizingCellsRealizeForAll → RealizingForAllIsGood → HoldIsGood
hold_is_good hold' for_every good =
    good hold (for_all held) hold'.0 hold'.1 (for_every hold held hold'.0 no_buffers hold'.2)
