-- Labels beside the graph of cells are labels of the cells.
use Rattle.std.proofs.Common.{◌-◌, ◌≡◌, ℕ, zero, suc, ◌+◌, ◌<◌, ◌≤◌, cond, List, [], ◌∷◌, ◌++◌, get_or, length, map, take, drop, Option, Some, None, refl, sym, ◌∙◌, ap, subst, arith}
use Rattle.std.specs.Prelude.{slice_get}
use Rattle.std.specs.Option.{option_map}
use Rattle.std.specs.List.{count_by, AllByRecursion}
use Rattle.std.proofs.lemmas.List.{get_or_past, length-map}
use Rattle.std.proofs.lemmas.List.Sums.{sum_by-cons}
use Rattle.std.proofs.lemmas.Option.{slice_get-map, slice_get_within, get_or_from_slice_get}
use Rattle.df_cells.specs.declared.cells.CellId.{CellId}
use Rattle.df_cells.specs.declared.cells.Cell.{Cell}
use Rattle.df_cells.specs.declared.cells.Feed.{Feed}
use Rattle.df_cells.specs.declared.cells.Feed.TheVariants as feed
use Rattle.df_cells.specs.declared.kinds.Kind.TheVariants as kind
use Rattle.df_cells.specs.Kinds.{is_input, is_buffer}
use Rattle.df_cells.specs.Cells.{no_cell, cell_at, cell_from, loaded_from, port_of, producer_of, loaded_at, values_of}
use Rattle.df_cells.specs.Families.{family}
use Rattle.df_cells.specs.Shifts.{cell_or, back, back_over, origin, control_values, controls_from, controls, gate_place, merge_place, gate_part, merge_part}
use Rattle.df_labels.specs.Graphs.{Graph, Node, node_of, graph_of}
use Rattle.df_labels.specs.Histories.{listed}
use Rattle.df_labels.specs.Labels.{Turn, later, Labels, turns_of, Stream, stream_turns, stream_values, answered, received, source_list, source_values, AreRising, IsRightFiring, MeetsAt, LabelsMeet}
use Rattle.df_meant.specs.Sites.{Ends, Label, site_of, pattern_at, pattern_from, pattern_of, gate_of, side_of, delayed, cell_of, values_in, MeetsNode, Meeting}
use Rattle.df_meant.specs.SameGraph.{no_open, labels_of, AreReceived}
use Rattle.df_meant.proofs.Groups.{same_some, none_some}

-- ---- streams

values_delayed : (g : ℕ) (s : Stream) → stream_values (delayed g s) ≡ stream_values s
values_delayed g [] = refl
values_delayed g (x ∷ s) = ap (λ vs. x.1 ∷ vs) (values_delayed g s)

turns_delayed : (g : ℕ) (s : Stream) → stream_turns (delayed g s) ≡ map (later g) (stream_turns s)
turns_delayed g [] = refl
turns_delayed g (x ∷ s) = ap (λ ts. later g x.0 ∷ ts) (turns_delayed g s)

later_both : (a b : ℕ) (t : Turn) → later a (later b t) ≡ later b (later a t)
later_both a b [] = refl
later_both a b (i ∷ inner) = let e : i + b + a ≡ i + a + b = omega arith in ap (λ j. j ∷ inner) e

all_later : (a b : ℕ) (ts : List Turn) → map (later a) (map (later b) ts) ≡ map (later b) (map (later a) ts)
all_later a b [] = refl
all_later a b (t ∷ ts) = ap (λ u. u ∷ map (later a) (map (later b) ts)) (later_both a b t) ∙ ap (λ us. later b (later a t) ∷ us) (all_later a b ts)

-- ---- feeds

arc_from : (o : Option Feed) (u : CellId) → loaded_from o ≡ None → cell_from o ≡ Some u → o ≡ Some (feed.Arc u)
arc_from None u n e = absurd (none_some u e)
arc_from (Some (feed.Arc w)) u n e = ap (λ (x : CellId). Some (feed.Arc x)) (same_some w u e)
arc_from (Some (feed.Constant v)) u n e = absurd (none_some u e)
arc_from (Some (feed.Loaded w v)) u n e = absurd (none_some v (sym n))

-- ---- inputs before a cell

count_same : (cells : List Cell) (c : ℕ) → count_by (λ (x : Cell). is_input x.kind) (take c cells) ≡ count_by (λ (x : Node). is_input x.kind) (take c (map node_of cells))
count_same [] zero = refl
count_same [] (suc c) = refl
count_same (x ∷ cells) zero = refl
count_same (x ∷ cells) (suc c) =
    sum_by-cons (λ (y : Cell). cond (is_input y.kind) 1 0) x (take c cells)
    ∙ ap (λ n. cond (is_input x.kind) 1 0 + n) (count_same cells c)
    ∙ sym (sum_by-cons (λ (y : Node). cond (is_input y.kind) 1 0) (node_of x) (take c (map node_of cells)))

module _ (cells : List Cell) (ends : Ends) (ls : List Label) (meet : Meeting no_open (graph_of cells) ends ls) where
  abbrev graph : Graph
  graph = graph_of cells

  abbrev labels : Labels
  labels = labels_of ls

  node_at_cell : (c : ℕ) (cell : Cell) → slice_get cells c ≡ Some cell → slice_get graph c ≡ Some (node_of cell)
  node_at_cell c cell e = slice_get-map node_of cells c ∙ ap (option_map node_of) e

  no_node_at : (c : ℕ) → slice_get cells c ≡ None → slice_get graph c ≡ None
  no_node_at c e = slice_get-map node_of cells c ∙ ap (option_map node_of) e

  get_past : {A : Type 0} (xs : List A) (c : ℕ) → slice_get xs c ≡ None → length xs ≤ c
  get_past [] c e = omega arith
  get_past (x ∷ xs) zero e = absurd (none_some x (sym e))
  get_past (x ∷ xs) (suc c) e = let h = get_past xs c e in omega (arith, h)

  get_within : {A : Type 0} (xs : List A) (i : ℕ) → i < length xs → (x : A) × (slice_get xs i ≡ Some x)
  get_within [] i h = absurd (omega arith)
  get_within (x ∷ xs) zero h = (x, refl)
  get_within (x ∷ xs) (suc i) h = get_within xs i (omega arith)

  count : length ls ≡ length cells
  count = meet.long ∙ length-map cells node_of

  label_at : (c : ℕ) (cell : Cell) → slice_get cells c ≡ Some cell → (l : Label) × (slice_get ls c ≡ Some l)
  label_at c cell e = let within = slice_get_within cells c cell e in let same = count in get_within ls c (omega (arith, within, same))

  meets_cell : (c : ℕ) (cell : Cell) (l : Label) → slice_get cells c ≡ Some cell → slice_get ls c ≡ Some l → MeetsNode (site_of graph ls) (values_in graph ends c) (node_of cell) l
  meets_cell c cell l e h = meet.each c (node_of cell) l (node_at_cell c cell e) h refl

  -- ---- no way back is longer than nothing

  back_same : (c : ℕ) → back cells c ≡ c
  back_same c = go (slice_get cells c) refl
    where
      go : (o : Option Cell) → slice_get cells c ≡ o → back cells c ≡ c
      go None e = let past = get_or_past cells c no_cell (get_past cells c e) in
          ap (λ (x : Cell). cond (is_buffer x.kind) (cell_or c (cell_from (slice_get x.ports 0))) c) past
      go (Some cell) e = let l = label_at c cell e in
          ap (λ (x : Cell). cond (is_buffer x.kind) (cell_or c (cell_from (slice_get x.ports 0))) c) (get_or_from_slice_get cells c cell no_cell e)
          ∙ ap (λ b. cond b (cell_or c (cell_from (slice_get cell.ports 0))) c) (meets_cell c cell l.0 e l.1).whole

  over_same : (n c : ℕ) → back_over cells n c ≡ c
  over_same zero c = refl
  over_same (suc n) c = ap (back_over cells n) (back_same c) ∙ over_same n c

  origin_same : (c : ℕ) → origin cells c ≡ c
  unfolding origin
  origin_same c = over_same (length cells) c

  control_same : (c : ℕ) → control_values (cell_at cells c).kind ≡ pattern_at (slice_get graph c)
  control_same c = go (slice_get cells c) refl
    where
      go : (o : Option Cell) → slice_get cells c ≡ o → control_values (cell_at cells c).kind ≡ pattern_at (slice_get graph c)
      go None e = ap (λ (x : Cell). control_values x.kind) (get_or_past cells c no_cell (get_past cells c e)) ∙ sym (ap pattern_at (no_node_at c e))
      go (Some cell) e = ap (λ (x : Cell). control_values x.kind) (get_or_from_slice_get cells c cell no_cell e) ∙ sym (ap pattern_at (node_at_cell c cell e))

  from_same : (o : Option Feed) → loaded_from o ≡ None → controls_from cells (cell_from o) ≡ pattern_from graph o
  from_same None n = refl
  from_same (Some (feed.Constant v)) n = refl
  from_same (Some (feed.Loaded u v)) n = absurd (none_some v (sym n))
  from_same (Some (feed.Arc u)) n = ap (λ d. control_values (cell_at cells d).kind) (origin_same u.0) ∙ control_same u.0

  controls_same : (c : ℕ) (cell : Cell) → slice_get cells c ≡ Some cell → controls cells c ≡ pattern_of graph (node_of cell)
  controls_same c cell e = ap (λ (x : Cell). controls_from cells (cell_from (slice_get x.ports 0))) (get_or_from_slice_get cells c cell no_cell e) ∙ from_same (slice_get cell.ports 0) (let l = label_at c cell e in (meets_cell c cell l.0 e l.1).unloaded 0)

  gate_same : (c : ℕ) (cell : Cell) → slice_get cells c ≡ Some cell → gate_part cells c ≡ gate_of graph (node_of cell)
  unfolding gate_part
  gate_same c cell e = ap (λ (x : Cell). gate_place (family x.kind) (controls cells c)) (get_or_from_slice_get cells c cell no_cell e) ∙ ap (gate_place (family cell.kind)) (controls_same c cell e)

  side_same : (c p : ℕ) (cell : Cell) → slice_get cells c ≡ Some cell → merge_part cells (port_of c p) ≡ side_of graph (node_of cell) p
  unfolding merge_part
  side_same c p cell e = ap (λ (x : Cell). merge_place (family x.kind) p (controls cells c)) (get_or_from_slice_get cells c cell no_cell e) ∙ ap (merge_place (family cell.kind) p) (controls_same c cell e)

  -- ---- each cell

  right_cell : (cell : Cell) (l : Label) → AllByRecursion (IsRightFiring (cell_of (node_of cell))) l → AllByRecursion (IsRightFiring cell) l
  right_cell cell [] all = tt
  right_cell cell (f ∷ l) all = (record { takes = record { ports = all.0.takes.ports; takes = all.0.takes.takes }; answers = all.0.answers }, right_cell cell l all.1)

  past_meets : (c : ℕ) → slice_get cells c ≡ None → MeetsAt cells ends.inputs labels c
  past_meets c e =
      let past = get_past cells c e in
      let same = count in
      let cell_is : cell_at cells c ≡ no_cell = get_or_past cells c no_cell past in
      let none : labels c ≡ [] = get_or_past ls c [] (omega (arith, past, same)) in
      record {
        sources = λ values h. absurd (none_some values (sym (ap (λ (x : Cell). source_list x.kind (values_of cells ends.inputs c)) cell_is) ∙ h));
        single = subst (λ l. AllByRecursion (λ t. length t ≡ 1) (turns_of l)) (sym none) tt;
        rising = subst (λ l. AreRising (turns_of l)) (sym none) tt;
        arcs = λ p u h. absurd (none_some u (sym (ap (λ (x : Cell). cell_from (slice_get x.ports p)) cell_is) ∙ h));
        shifts = λ p u h. absurd (none_some u (sym (ap (λ (x : Cell). cell_from (slice_get x.ports p)) cell_is) ∙ h));
        right = λ h. subst (AllByRecursion (IsRightFiring (cell_at cells c))) (sym none) tt;
        unloaded = λ p. ap (λ (x : Cell). loaded_from (slice_get x.ports p)) cell_is;
        outputs = λ k n h. absurd (no_out k n (sym (ap (λ (x : Cell). x.kind) cell_is) ∙ h));
      }
    where
      no_out : (k n : ℕ) → no_cell.kind ≡ kind.Out k n → ⊥
      no_out k n h = cc

  cell_meets : (c : ℕ) (cell : Cell) → slice_get cells c ≡ Some cell → MeetsAt cells ends.inputs labels c
  cell_meets c cell e =
      let la = label_at c cell e in
      let l = la.0 in
      let meets = meets_cell c cell l e la.1 in
      let cell_is : cell_at cells c ≡ cell = get_or_from_slice_get cells c cell no_cell e in
      let label_is : labels c ≡ l = get_or_from_slice_get ls c l [] la.1 in
      let values_is : values_of cells ends.inputs c ≡ (values_in graph ends c).own = ap (λ n. get_or ends.inputs n []) (count_same cells c) in
      let source_is : source_values cells ends.inputs c ≡ source_list cell.kind (values_in graph ends c).own = ap (λ (x : Cell). source_list x.kind (values_of cells ends.inputs c)) cell_is ∙ ap (source_list cell.kind) values_is in
      let fed : (p : ℕ) (u : CellId) → producer_of cells (port_of c p) ≡ Some u → slice_get cell.ports p ≡ Some (feed.Arc u)
      = λ p u h. arc_from (slice_get cell.ports p) u (meets.unloaded p) (sym (ap (λ (x : Cell). cell_from (slice_get x.ports p)) cell_is) ∙ h) in
      let unloaded : (p : ℕ) → loaded_at cells (port_of c p) ≡ None = λ p. ap (λ (x : Cell). loaded_from (slice_get x.ports p)) cell_is ∙ meets.unloaded p in
      record {
        sources = λ values h. label_is ∙ meets.sources values (sym source_is ∙ h);
        single = subst (λ x. AllByRecursion (λ t. length t ≡ 1) (turns_of x)) (sym label_is) meets.single;
        rising = subst (λ x. AreRising (turns_of x)) (sym label_is) meets.rising;
        arcs = λ p u h.
            let a = meets.arcs p u.0 (fed p u h) in
            let from_is : labels u.0 ≡ a.1.label = get_or_from_slice_get ls u.0 a.1.label [] a.1.at in
            ap (λ x. stream_values (received p x)) label_is ∙ ap stream_values a.2 ∙ values_delayed (side_of graph (node_of cell) p) a.0
            ∙ sym (values_delayed (gate_of graph a.1.from) a.0) ∙ ap stream_values (sym a.1.same) ∙ ap (λ x. stream_values (answered x)) (sym from_is)
            ∙ ap (λ o. listed o ++ stream_values (answered (labels u.0))) (sym (unloaded p));
        shifts = λ p u h.
            let a = meets.arcs p u.0 (fed p u h) in
            let from_is : labels u.0 ≡ a.1.label = get_or_from_slice_get ls u.0 a.1.label [] a.1.at in
            let gate = gate_of graph a.1.from in
            let side = side_of graph (node_of cell) p in
            let gate_is : gate_part cells u.0 ≡ gate = gate_from u.0 a.1.from a.1.node in
            let side_is : merge_part cells (port_of c p) ≡ side = side_same c p cell e in
            ap (λ o. map (later (gate_part cells u.0)) (stream_turns (drop (length (listed o)) (received p (labels c))))) (unloaded p)
            ∙ ap (λ g. map (later g) (stream_turns (received p (labels c)))) gate_is
            ∙ ap (λ x. map (later gate) (stream_turns (received p x))) label_is
            ∙ ap (λ s. map (later gate) (stream_turns s)) a.2 ∙ ap (map (later gate)) (turns_delayed side a.0) ∙ all_later gate side (stream_turns a.0)
            ∙ ap (map (later side)) (sym (turns_delayed gate a.0)) ∙ ap (λ s. map (later side) (stream_turns s)) (sym a.1.same)
            ∙ ap (λ x. map (later side) (stream_turns (answered x))) (sym from_is) ∙ ap (λ g. map (later g) (stream_turns (answered (labels u.0)))) (sym side_is);
        right = λ h. subst (λ x. AllByRecursion (IsRightFiring x) (labels c)) (sym cell_is) (subst (AllByRecursion (IsRightFiring cell)) (sym label_is) (right_cell cell l (meets.right (sym source_is ∙ h))));
        unloaded = unloaded;
        outputs = λ k n h. ap length label_is ∙ meets.outputs k n (sym (ap (λ (x : Cell). x.kind) cell_is) ∙ h);
      }
    where
      gate_from : (u : ℕ) (from : Node) → slice_get graph u ≡ Some from → gate_part cells u ≡ gate_of graph from
      gate_from u from at = go (slice_get cells u) refl
        where
          go : (o : Option Cell) → slice_get cells u ≡ o → gate_part cells u ≡ gate_of graph from
          go None h = absurd (none_some from (sym (no_node_at u h) ∙ at))
          go (Some x) h = gate_same u x h ∙ ap (gate_of graph) (same_some (node_of x) from (sym (node_at_cell u x h) ∙ at))

  pub labels_meet : LabelsMeet cells ends.inputs labels
  labels_meet c = go (slice_get cells c) refl
    where
      go : (o : Option Cell) → slice_get cells c ≡ o → MeetsAt cells ends.inputs labels c
      go None e = past_meets c e
      go (Some cell) e = cell_meets c cell e

  pub results_received : AreReceived cells ends.results labels
  results_received c k n = go (slice_get cells c) refl
    where
      no_out : no_cell.kind ≡ kind.Out k n → ⊥
      no_out h = cc

      go : (o : Option Cell) → slice_get cells c ≡ o → (cell_at cells c).kind ≡ kind.Out k n → stream_values (received 0 (labels c)) ≡ get_or ends.results (k - 1) []
      go None e h = absurd (no_out (sym (ap (λ (x : Cell). x.kind) (get_or_past cells c no_cell (get_past cells c e))) ∙ h))
      go (Some cell) e h =
          let la = label_at c cell e in
          let meets = meets_cell c cell la.0 e la.1 in
          ap (λ l. stream_values (received 0 l)) (get_or_from_slice_get ls c la.0 [] la.1)
          ∙ meets.receives k n (sym (ap (λ (x : Cell). x.kind) (get_or_from_slice_get cells c cell no_cell e)) ∙ h)

  pub site_tells : LabelsMeet cells ends.inputs labels × AreReceived cells ends.results labels
  site_tells = (labels_meet, results_received)
