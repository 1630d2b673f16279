-- What is kept of nodes may be decided later: nothing looks into a node.
use Rattle.std.proofs.Common.{◌≡◌, ℕ, zero, suc, ◌+◌, ◌-◌, true, false, [], ◌∷◌, map, length, set, refl, sym, ◌∙◌, ap}
use Rattle.std.proofs.lemmas.List.{length-map, map-set}
use Rattle.df_values.specs.declared.kinds.Op.{Op}
use Rattle.df_values.specs.declared.kinds.Binary.TheVariants.{Operation}
use Rattle.df_cells.specs.declared.cells.Dest.{Dest}
use Rattle.df_cells.specs.declared.cells.Feed.{Feed}
use Rattle.df_cells.specs.declared.kinds.Kind.TheVariants as kind
use Rattle.df_cells.specs.Cells.{port_of}
use Rattle.df_cells.specs.Families.{kind_of}
use Rattle.df_labels.specs.declared.graphs.Flow.{Flow}
use Rattle.df_labels.specs.declared.graphs.Flow.TheVariants.{Constant, Cell}
use Rattle.df_labels.specs.Flows.{feed_of}
use Rattle.df_labels.specs.Graphs.{Graph, Node, no_node, node_at, with_fed}
use Rattle.df_labels.specs.Patterns.{pattern}
use Rattle.df_build_cond.specs.Growth.{Stood, Grown, with_cell, pushed}
use Rattle.df_build_cond.specs.Counting.{over_stood, over_grown}
use Rattle.df_build_cond.specs.Laws.{GatesCountTheSame}
use Rattle.df_build_loops.specs.Holds as holds
use Rattle.df_build_loops.specs.Frames as frames
use Rattle.df_build_loops.specs.Frames.{undef, closed}
use Rattle.df_build_loops.specs.Folds as folds
use Rattle.df_build_loops.specs.Folds.{Loop}
use Rattle.df_build_loops.specs.Laws.{over_loop, LoopsCountTheSame}

abbrev none : Node → Node
none = λ _. no_node

module _ (gates : GatesCountTheSame) (f keep : Node → Node) where
  abbrev less : Node → Node
  less = λ n. f (keep n)

  held : (g : Graph) (u n : ℕ) → holds.held less (map f g) u n ≡ over_stood f (holds.held keep g u n)
  held g u n =
      let first_only = kind.Ctl (pattern ((1, true) ∷ (n - 1, false) ∷ [])) in
      let all_but_last = kind.Ctl (pattern ((n - 1, true) ∷ (1, false) ∷ [])) in
      let m = length g in
      let sides = Cell (m + 1) ∷ Cell u ∷ Cell (m + 2) ∷ [] in
      let back = Cell (m + 3) ∷ Cell m ∷ [] in
      let cells : ℕ → Graph → Stood = λ m g. record { graph = with_cell less (with_cell less (with_cell less (with_cell less g kind.Merge (Cell (m + 1) ∷ Cell u ∷ Cell (m + 2) ∷ [])) first_only []) kind.Tgate (Cell (m + 3) ∷ Cell m ∷ [])) all_but_last []; cell = m } in
      let g1 = with_cell keep g kind.Merge sides in
      let g2 = with_cell keep g1 first_only [] in
      let g3 = with_cell keep g2 kind.Tgate back in
      ap (λ k. cells k (map f g)) (length-map g f)
      ∙ (ap (λ x. record { graph = with_cell less (with_cell less (with_cell less x first_only []) kind.Tgate back) all_but_last []; cell = m }) (gates.cell f keep g kind.Merge sides)
      ∙ (ap (λ x. record { graph = with_cell less (with_cell less x kind.Tgate back) all_but_last []; cell = m }) (gates.cell f keep g1 first_only [])
      ∙ (ap (λ x. record { graph = with_cell less x all_but_last []; cell = m }) (gates.cell f keep g2 kind.Tgate back)
      ∙ ap (λ x. record { graph = x; cell = m }) (gates.cell f keep g3 all_but_last []))))

  opened : (g : Graph) (first : Flow) (n : ℕ) → frames.opened less (map f g) first n ≡ over_stood f (frames.opened keep g first n)
  opened g first n = gates.ruled f keep g kind.Merge (first ∷ Constant undef ∷ []) (pattern ((1, true) ∷ (n, false) ∷ []))

  previous : (g : Graph) (merge n : ℕ) → frames.previous less (map f g) merge n ≡ over_stood f (frames.previous keep g merge n)
  previous g merge n = gates.ruled f keep g kind.Tgate (Cell merge ∷ []) (pattern ((n, true) ∷ (1, false) ∷ []))

  last : (g : Graph) (all n : ℕ) → frames.last less (map f g) all n ≡ over_stood f (frames.last keep g all n)
  last g all n = gates.ruled f keep g kind.Fgate (Cell all ∷ []) (pattern ((n, true) ∷ (1, false) ∷ []))

  begun : (first : Flow) (n : ℕ) (g : Graph) → folds.loop_begun less first n (map f g) ≡ over_loop f (folds.loop_begun keep first n g)
  unfolding folds.loop_begun
  begun first n g =
      let o = frames.opened keep g first n in
      ap (λ (o : Stood). let p = frames.previous less o.graph o.cell n in record { graph = p.graph; merge = o.cell; gate = p.cell }) (opened g first n)
      ∙ ap (λ (p : Stood). record { graph = p.graph; merge = o.cell; gate = p.cell }) (previous o.graph o.cell n)

-- ---- a port that is fed later

none_kept : (g : Graph) (c : ℕ) → node_at (map none g) c ≡ no_node
none_kept [] c = refl
none_kept (node ∷ g) zero = refl
none_kept (node ∷ g) (suc c) = none_kept g c

-- to feed a port and then keep nothing is to keep nothing and then feed it
fed : (g : Graph) (d : Dest) (x : Feed) → with_fed (map none g) d x ≡ map none (with_fed g d x)
fed g d x =
    let node = node_at g d.cell.0 in
    ap (λ (n : Node). set (map none g) d.cell.0 (record n { ports = set n.ports d.port.0 x })) (none_kept g d.cell.0)
    ∙ sym (map-set none g d.cell.0 (record node { ports = set node.ports d.port.0 x }))

closed_too : (g : Graph) (merge : ℕ) (next : Flow) → closed (map none g) merge next ≡ map none (closed g merge next)
closed_too g merge next = fed g (port_of merge 2) (feed_of next)

ended : GatesCountTheSame → (keep : Node → Node) (op : Op) (merge gate n : ℕ) (body : Grown)
    → folds.loop_ended none op merge gate n (over_grown none body) ≡ over_stood none (folds.loop_ended keep op merge gate n body)
unfolding folds.loop_ended
ended gates keep op merge gate n body =
    let flows = Cell gate ∷ body.flow ∷ [] in
    let joined = pushed keep body.graph (kind_of (Operation op)) flows in
    ap (λ (s : Stood). frames.last none (closed s.graph merge (Cell s.cell)) merge n) (gates.pushed none keep body.graph (kind_of (Operation op)) flows)
    ∙ (ap (λ x. frames.last none x merge n) (closed_too joined.graph merge (Cell joined.cell))
    ∙ last gates none keep (closed joined.graph merge (Cell joined.cell)) merge n)

pub loops_count_the_same : GatesCountTheSame → LoopsCountTheSame
loops_count_the_same gates = record {
  held = held gates;
  opened = opened gates;
  previous = previous gates;
  last = last gates;
  begun = begun gates;
  closed = closed_too;
  ended = ended gates;
}
