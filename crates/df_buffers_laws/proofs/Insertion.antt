-- One insertion after others: what feeds what, by fixed tables of where the values of cells come from.
use Rattle.std.proofs.Common.{◌≡◌, ℕ, suc, ◌+◌, ◌<◌, ◌≤◌, true, false, List, [], ◌∷◌, ◌++◌, map, length, set, Option, Some, None, inl, inr, refl, sym, ap, subst, ◌∙◌, arith, append-nil}
use Rattle.std.specs.Prelude.{slice_get}
use Rattle.std.specs.Option.{option_map}
use Rattle.std.specs.List.{count_by}
use Rattle.std.proofs.lemmas.Bool.{cases_eq}
use Rattle.std.proofs.lemmas.List.{get_or-set_same, get_or-set_other, get_or_append_left, get_or_push, length-set, length_push, map-set, set-get_or}
use Rattle.std.proofs.lemmas.Option.{slice_get-map, slice_get_within, get_or_from_slice_get}
use Rattle.df_cells.specs.declared.cells.CellId.{CellId}
use Rattle.df_cells.specs.declared.cells.Cell.{Cell}
use Rattle.df_cells.specs.declared.cells.Dest.{Dest}
use Rattle.df_cells.specs.declared.cells.Feed.{Feed}
use Rattle.df_cells.specs.declared.cells.Feed.TheVariants.{Arc, Constant, Loaded}
use Rattle.df_cells.specs.declared.kinds.Kind.TheVariants as kind
use Rattle.df_cells.specs.Cells.{cell_at, cell_from, feed_of, same_port}
use Rattle.df_labels.specs.Graphs.{Graph, Node, no_node, no_feed, node_at}
use Rattle.df_labels.specs.Flows.{arc}
use Rattle.df_buffers_laws.specs.Insertions.{buffer_for, insert}
use Rattle.df_buffers_laws.proofs.Ports.{slice_get-set_same, slice_get-set_other, same_itself, other_cell, other_port, dest_is, counted_more, places, placed_more}

-- ---- the graph with one BUF cell more

module _ (graph : Graph) (d : Dest) (within : d.cell.0 < length graph) where
  abbrev fed_node : Node
  fed_node =
      let node = node_at graph d.cell.0 in record node { ports = set node.ports d.port.0 (arc (length graph)) }

  pub insert_length : length (insert graph d) ≡ length graph + 1
  insert_length = length-set (graph ++ buffer_for graph d ∷ []) d.cell.0 _ ∙ length_push graph (buffer_for graph d)

  pub insert_same : node_at (insert graph d) d.cell.0 ≡ fed_node
  insert_same =
      get_or-set_same (graph ++ buffer_for graph d ∷ []) d.cell.0 _ no_node
      (let long = length_push graph (buffer_for graph d) in omega arith)
      ∙ ap (λ (n : Node). record n { ports = set n.ports d.port.0 (arc (length graph)) })
      (get_or_append_left graph (buffer_for graph d ∷ []) no_node d.cell.0 within)

  pub insert_other : (c : ℕ) → c < length graph → (c ≡ d.cell.0 → ⊥) → node_at (insert graph d) c ≡ node_at graph c
  insert_other c h other =
      get_or-set_other (graph ++ buffer_for graph d ∷ []) d.cell.0 c _ no_node other
      ∙ get_or_append_left graph (buffer_for graph d ∷ []) no_node c h

  pub insert_last : node_at (insert graph d) (length graph) ≡ buffer_for graph d
  insert_last =
      get_or-set_other (graph ++ buffer_for graph d ∷ []) d.cell.0 (length graph) _ no_node (λ e. omega arith)
      ∙ get_or_push graph (buffer_for graph d) no_node (length graph) refl

-- ---- feeds by a table

-- a feed, with the cell from which it comes over BUF cells by a table
abbrev pub over : (ℕ → ℕ) → Feed → Feed
over home (Arc u) = Arc (record { 0 = home u.0 })
over home (Constant v) = Constant v
over home (Loaded u v) = Loaded (record { 0 = home u.0 }) v

some_arc : (home : ℕ → ℕ) (o : Option Feed) (u : CellId) → option_map (over home) o ≡ Some (Arc u)
    → (w : CellId) × (o ≡ Some (Arc w)) × (home w.0 ≡ u.0)
some_arc home None u e = absurd (cc)
some_arc home (Some (Constant v)) u e = absurd (cc)
some_arc home (Some (Loaded w v)) u e = absurd (cc)
some_arc home (Some (Arc w)) u e = (w, refl, ap (λ (k : CellId). k.0) (by w u e))
  where
    by : (w u : CellId) → Some (Arc (record { 0 = home w.0 })) ≡ Some (Arc u) → record { 0 = home w.0 } ≡ u
    by w u e = cc

-- what feeds a port of a graph, where there is such a port
abbrev pub feeds : Graph → Dest → Option Feed
feeds graph e = slice_get (node_at graph e.cell.0).ports e.port.0

-- a BUF cell is one behind what feeds it
pub record IsBufferNode (home depth : ℕ → ℕ) (chain : ℕ → List ℕ) (node : Node) (b : ℕ) : Type 0 where
  pub from : CellId
  pub is : node ≡ record { kind = kind.Buf; ports = Arc from ∷ [] }
  pub less : from.0 < b
  pub homes : home b ≡ home from.0
  pub depths : depth b ≡ suc (depth from.0)
  pub chains : chain b ≡ chain from.0 ++ b ∷ []

-- The tables say of each cell from which cell its values come over BUF cells, how many of them there are, and which.
module _ (old : List Cell) (home depth : ℕ → ℕ) (chain : ℕ → List ℕ) where
  -- the old cells and BUF cells for these ports
  pub record Placed (done : List Dest) (graph : Graph) : Type 0 where
    pub count : length graph ≡ length old + length done
    pub kinds : (c : ℕ) → c < length old → (node_at graph c).kind ≡ (cell_at old c).kind
    pub ports : (c : ℕ) → c < length old → map (over home) (node_at graph c).ports ≡ (cell_at old c).ports
    pub fed : (d : Dest) (u : CellId) → d.cell.0 < length old → cell_from (feeds graph d) ≡ Some u
        → (depth u.0 ≡ count_by (same_port d) done) × (u.0 < length graph) × (chain u.0 ≡ places (length old) d done)
    pub others : (b : ℕ) → length old ≤ b → b < length graph → IsBufferNode home depth chain (node_at graph b) b

  -- an arc feeds the port, now over the BUF cells that are there
  pub fed_now : (done : List Dest) (graph : Graph) → Placed done graph → (d : Dest) (u : CellId)
      → feed_of old d ≡ Some (Arc u)
      → d.cell.0 < length old → (w : CellId) × (feeds graph d ≡ Some (Arc w)) × (home w.0 ≡ u.0)
  fed_now done graph placed d u fed inside = some_arc home (feeds graph d) u
      (sym (slice_get-map (over home) (node_at graph d.cell.0).ports d.port.0)
      ∙ ap (λ (l : List Feed). slice_get l d.port.0) (placed.ports d.cell.0 inside) ∙ fed)

  module _ (done : List Dest) (graph : Graph) (placed : Placed done graph) (d : Dest) (u : CellId)
      (fed : feed_of old d ≡ Some (Arc u))
      (inside : d.cell.0 < length old) (home_is : home (length graph) ≡ u.0)
      (depth_is : depth (length graph) ≡ suc (count_by (same_port d) done))
      (chain_is : chain (length graph) ≡ places (length old) d done ++ length graph ∷ []) where
    within : d.cell.0 < length graph
    within = let count = placed.count in omega arith

    abbrev node : Node
    node = node_at graph d.cell.0

    feed : (w : CellId) × (feeds graph d ≡ Some (Arc w)) × (home w.0 ≡ u.0)
    feed = fed_now done graph placed d u fed inside

    next_kinds : (c : ℕ) → c < length old → (node_at (insert graph d) c).kind ≡ (cell_at old c).kind
    next_kinds c h = let count = placed.count in elim (cases_eq c d.cell.0) [
      | inl same ↦
          ap (λ k. (node_at (insert graph d) k).kind) same ∙ ap (λ (n : Node). n.kind) (insert_same graph d within)
          ∙ placed.kinds d.cell.0 inside ∙ ap (λ k. (cell_at old k).kind) (sym same)
      | inr other ↦ ap (λ (n : Node). n.kind) (insert_other graph d within c (omega arith) other) ∙ placed.kinds c h
    ]

    next_ports : (c : ℕ) → c < length old → map (over home) (node_at (insert graph d) c).ports ≡ (cell_at old c).ports
    next_ports c h = let count = placed.count in elim (cases_eq c d.cell.0) [
      | inl same ↦
          ap (λ k. map (over home) (node_at (insert graph d) k).ports) same
          ∙ ap (λ (n : Node). map (over home) n.ports) (insert_same graph d within)
          ∙ map-set (over home) node.ports d.port.0 (arc (length graph))
          ∙ ap (λ l. set l d.port.0 (over home (arc (length graph)))) (placed.ports d.cell.0 inside)
          ∙ ap (λ k. set (cell_at old d.cell.0).ports d.port.0 (Arc (record { 0 = k }))) home_is
          ∙ ap (λ f. set (cell_at old d.cell.0).ports d.port.0 f)
          (sym (get_or_from_slice_get (cell_at old d.cell.0).ports d.port.0 (Arc u) no_feed fed))
          ∙ set-get_or (cell_at old d.cell.0).ports d.port.0 no_feed
          ∙ ap (λ k. (cell_at old k).ports) (sym same)
      | inr other ↦
          ap (λ (n : Node). map (over home) n.ports) (insert_other graph d within c (omega arith) other)
          ∙ placed.ports c h
    ]

    abbrev IsRight : Dest → CellId → Type 0
    IsRight e v = (depth v.0 ≡ count_by (same_port e) (done ++ d ∷ [])) × (v.0 < length (insert graph d))
        × (chain v.0 ≡ places (length old) e (done ++ d ∷ []))

    kept : (e : Dest) (v : CellId) → same_port e d ≡ false
        → (depth v.0 ≡ count_by (same_port e) done) × (v.0 < length graph) × (chain v.0 ≡ places (length old) e done)
        → IsRight e v
    kept e v other right =
        let more = counted_more e d false done other in
        let long = insert_length graph d within in (
          right.0 ∙ (omega arith),
          omega arith,
          right.2 ∙ sym (placed_more (length old) e d false done other ∙ append-nil (places (length old) e done)),
        )

    -- the port itself is fed by the new BUF cell
    now_last : (v : CellId) → record { 0 = length graph } ≡ v → IsRight d v
    now_last v id =
        let number = ap (λ (k : CellId). k.0) id in
        let more = counted_more d d true done (same_itself d) in
        let long = insert_length graph d within in (
          ap depth (sym number) ∙ depth_is ∙ (omega arith),
          omega arith,
          ap chain (sym number) ∙ chain_is ∙ ap (λ k. places (length old) d done ++ k ∷ []) placed.count
              ∙ sym (placed_more (length old) d d true done (same_itself d)),
        )

    next_fed : (e : Dest) (v : CellId) → e.cell.0 < length old → cell_from (feeds (insert graph d) e) ≡ Some v
        → IsRight e v
    next_fed e v h here = let count = placed.count in elim (cases_eq e.cell.0 d.cell.0) [
      | inr other ↦
          kept e v (other_cell e d other) (placed.fed e v h
          (ap (λ (n : Node). cell_from (slice_get n.ports e.port.0))
          (sym (insert_other graph d within e.cell.0 (omega arith) other)) ∙ here))
      | inl same ↦
          let now : cell_from (slice_get (set node.ports d.port.0 (arc (length graph))) e.port.0) ≡ Some v =
          sym (ap (λ k. cell_from (slice_get (node_at (insert graph d) k).ports e.port.0)) same
          ∙ ap (λ (n : Node). cell_from (slice_get n.ports e.port.0)) (insert_same graph d within)) ∙ here in
          elim (cases_eq e.port.0 d.port.0) [
            | inr other ↦
                kept e v (other_port e d other) (placed.fed e v h
                (ap (λ k. cell_from (slice_get (node_at graph k).ports e.port.0)) same
                ∙ ap cell_from (sym (slice_get-set_other node.ports d.port.0 e.port.0 (arc (length graph)) other))
                ∙ now))
            | inl port ↦
                let last : Some (record { 0 = length graph }) ≡ Some v =
                sym (ap (λ p. cell_from (slice_get (set node.ports d.port.0 (arc (length graph))) p)) port
                ∙ ap cell_from (slice_get-set_same node.ports d.port.0 (arc (length graph))
                (slice_get_within node.ports d.port.0 (Arc feed.0) feed.1))) ∙ now in
                let id : record { 0 = length graph } ≡ v = cc in
                subst (λ x. IsRight x v) (sym (dest_is e d.cell.0 d.port.0 same port)) (now_last v id)
          ]
    ]

    next_others : (b : ℕ) → length old ≤ b → b < length (insert graph d)
        → IsBufferNode home depth chain (node_at (insert graph d) b) b
    next_others b behind h = let long = insert_length graph d within in elim (cases_eq b (length graph)) [
      | inr other ↦
          subst (λ n. IsBufferNode home depth chain n b)
          (sym (insert_other graph d within b (omega (arith, other)) (λ e. omega arith)))
          (placed.others b behind (omega (arith, other)))
      | inl last ↦
          let right = placed.fed d feed.0 inside (ap cell_from feed.1) in
          let now : IsBufferNode home depth chain (node_at (insert graph d) (length graph)) (length graph) = record {
            from = feed.0;
            is = insert_last graph d within
                ∙ ap (λ f. record { kind = kind.Buf; ports = f ∷ [] })
                (get_or_from_slice_get node.ports d.port.0 (Arc feed.0) no_feed feed.1);
            less = right.1;
            homes = home_is ∙ sym feed.2;
            depths = depth_is ∙ ap suc (sym right.0);
            chains = chain_is ∙ ap (λ l. l ++ length graph ∷ []) (sym right.2);
          } in
          subst (λ k. IsBufferNode home depth chain (node_at (insert graph d) k) k) (sym last) now
    ]

    pub next_placed : Placed (done ++ d ∷ []) (insert graph d)
    next_placed = record {
      count =
          let count = placed.count in
          let long = insert_length graph d within in let more = length_push done d in omega arith;
      kinds = next_kinds;
      ports = next_ports;
      fed = next_fed;
      others = next_others;
    }
