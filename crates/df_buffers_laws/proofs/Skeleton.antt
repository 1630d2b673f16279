-- Cells with BUF cells on their arcs have the same skeleton but for these.
use Rattle.std.proofs.Common.{◌≡◌, ℕ, ◌<◌, ◌≤◌, ◌==◌, ◌&&◌, ◌||◌, not, pos, ◌+ℤ◌, ◌-ℤ◌, ◌*ℤ◌, ℤ, Bool, true, false, cond, List, [], ◌∷◌, map, length, Option, Some, None, refl, sym, ap, ◌∙◌, arith, eq-eqb}
use Rattle.std.specs.Option.{option_map}
use Rattle.std.specs.List.{flat_map, range_with_len}
use Rattle.std.proofs.lemmas.List.{length-map}
use Rattle.df_cells.specs.declared.cells.CellId.{CellId}
use Rattle.df_cells.specs.declared.cells.Cell.{Cell}
use Rattle.df_cells.specs.declared.cells.Dest.{Dest}
use Rattle.df_cells.specs.declared.cells.Feed.{Feed}
use Rattle.df_cells.specs.Cells.{no_cell, cell_at, port_of, producer_of, is_buf}
use Rattle.df_cells.specs.Paths.{mark_of}
use Rattle.df_cells.specs.Shifts.{first_from, origin, buffers_from, gate_part, merge_part, weight}
use Rattle.df_stages.specs.declared.skeleton.SkeletonArc.{SkeletonArc}
use Rattle.df_stages.specs.Nodes.{same_node, node_of, is_node}
use Rattle.df_stages.specs.Skeletons.{nodes, count_below, node_place, arc_from, arcs_at_ports, arcs_into, arcs}
use Rattle.df_buffers_laws.specs.Buffered.{over_buffers, IsBuffered}
use Rattle.df_buffers_laws.specs.Filled.{filled}
use Rattle.df_buffers_laws.proofs.Origins.{home, origin_stays, plain, buf, producers, lands_there, gates_stay, merges_stay}
use Rattle.df_buffers_laws.proofs.Pieces.{filter_first, pieces_first, map-pieces, first_same}

module _ (old new : List Cell) (count : Dest → ℕ) (is : IsBuffered old new count)
    (marks : (c : ℕ) → mark_of new c ≡ mark_of old c)
    (least : (c : ℕ) → c < length old → node_of old c < length old) where
  -- ---- nodes

  pub same_nodes : (c d : ℕ) → same_node new c d ≡ same_node old c d
  same_nodes c d =
      ap (λ m. (c == d) || (not (m == 0) && (m == mark_of new d))) (marks c)
      ∙ ap (λ m. (c == d) || (not (mark_of old c == 0) && (mark_of old c == m))) (marks d)

  pub node_stays : (c : ℕ) → c < length old → node_of new c ≡ node_of old c
  node_stays c h =
      ap (λ m. cond (m == 0) c (first_from (λ (cell : Cell). cell.mark == m) 0 new)) (marks c)
      ∙ ap (λ k. cond (mark_of old c == 0) c k)
      (first_same (λ (cell : Cell). cell.mark == mark_of old c) 0 old new no_cell is.few
      (λ i l. ap (λ m. m == mark_of old c) (marks i)) c h (eq-eqb (mark_of old c) (mark_of old c) refl))

  is_node_stays : (c : ℕ) → c < length old → is_node new c ≡ is_node old c
  is_node_stays c h =
      ap (λ b. not b && (node_of new c == c)) (plain old new count is c h ∙ sym (is.plain c h))
      ∙ ap (λ k. not (is_buf old c) && (k == c)) (node_stays c h)

  no_node : (c : ℕ) → length old ≤ c → c < length new → is_node new c ≡ false
  no_node c behind h = ap (λ b. not b && (node_of new c == c)) (buf old new count is c behind h)

  pub nodes_stay : nodes new ≡ nodes old
  nodes_stay =
      filter_first (is_node new) (is_node old) 0 (length old) (length new) is.few
      (λ i k l. is_node_stays i (omega arith)) (λ i k l. no_node i (omega arith) (omega arith))

  below_stays : (n : ℕ) → n ≤ length old → count_below new n ≡ count_below old n
  below_stays n h = ap (λ (l : List ℕ). length l)
      (filter_first (is_node new) (is_node old) 0 n n (omega arith) (λ i k l. is_node_stays i (omega arith))
      (λ i k l. absurd (omega arith)))

  pub place_stays : (c : ℕ) → c < length old → node_place new c ≡ node_place old c
  place_stays c h =
      ap (count_below new) (node_stays c h) ∙ below_stays (node_of old c) (let l = least c h in omega arith)

  -- ---- arcs

  abbrev arc_with : List Cell → ℕ → Dest → ℕ → SkeletonArc
  arc_with cells u d n = record {
    name = d;
    from = node_place cells u;
    to = node_place cells d.cell.0;
    weight = weight cells u d;
    buffers = n;
  }

  same_arc : (u : ℕ) (d : Dest) (n : ℕ) → u < length old → d.cell.0 < length old
      → arc_with new u d n ≡ arc_with old u d n
  same_arc u d n h k =
      let weighing = λ (w : ℤ). let arc : SkeletonArc =
      record { name = d; from = node_place old u; to = node_place old d.cell.0; weight = w; buffers = n } in arc in
      ap (λ i. record { name = d; from = i; to = node_place new d.cell.0; weight = weight new u d; buffers = n })
      (place_stays u h)
      ∙ ap (λ i. record { name = d; from = node_place old u; to = i; weight = weight new u d; buffers = n })
      (place_stays d.cell.0 k)
      ∙ ap (λ g. weighing (pos 1 +ℤ pos 2 *ℤ (pos g -ℤ pos (merge_part new d)))) (gates_stay old new count is u h)
      ∙ ap (λ m. weighing (pos 1 +ℤ pos 2 *ℤ (pos (gate_part old u) -ℤ pos m))) (merges_stay old new count is d k)

  filled_between : (b : Bool) (arc : SkeletonArc)
      → cond b [] (filled count arc ∷ []) ≡ map (filled count) (cond b [] (arc ∷ []))
  filled_between true arc = refl
  filled_between false arc = refl

  port_stays : (d : Dest) → d.cell.0 < length old
      → arc_from new d (producer_of new d) ≡ map (filled count) (arc_from old d (producer_of old d))
  port_stays d h =
      by (producer_of new d) refl
      ∙ ap (λ o. map (filled count) (arc_from old d o)) (sym (producers old new count is d h))
    where
      by : (o : Option CellId) → producer_of new d ≡ o
          → arc_from new d o ≡ map (filled count) (arc_from old d (option_map (home new) o))
      by None fed = refl
      by (Some u) fed =
          let inside = lands_there old new count is u.0 (is.within d.cell.0 d.port.0 u fed) in
          let back = origin_stays old (origin new u.0) (is.plain (origin new u.0) inside) in
          ap (λ b. cond b [] (arc_with new (origin new u.0) d (buffers_from new u.0) ∷ []))
          (same_nodes (origin new u.0) d.cell.0)
          ∙ ap (λ n. cond (same_node old (origin new u.0) d.cell.0) [] (arc_with new (origin new u.0) d n ∷ []))
          (is.counts d u h fed)
          ∙ ap (λ a. cond (same_node old (origin new u.0) d.cell.0) [] (a ∷ []))
          (same_arc (origin new u.0) d (count d) inside h)
          ∙ ap (λ k. cond (same_node old k d.cell.0) [] (arc_with old k d (count d) ∷ [])) (sym back)
          ∙ filled_between (same_node old (origin old (origin new u.0)) d.cell.0)
          (arc_with old (origin old (origin new u.0)) d (buffers_from old (origin new u.0)))

  cell_stays : (c : ℕ) → c < length old → arcs_into new c ≡ map (filled count) (arcs_into old c)
  cell_stays c h =
      let ports : length (cell_at new c).ports ≡ length (cell_at old c).ports =
      sym (length-map (cell_at new c).ports (over_buffers new)) ∙ ap (λ (l : List Feed). length l) (is.feeds c h) in
      let at_old = λ (p : ℕ). arc_from old (port_of c p) (producer_of old (port_of c p)) in
      ap (λ b. cond b [] (arcs_at_ports new c)) (plain old new count is c h)
      ∙ ap (λ n. flat_map (λ p. arc_from new (port_of c p) (producer_of new (port_of c p))) (range_with_len 0 n)) ports
      ∙ pieces_first _ (λ p. map (filled count) (at_old p)) 0 (length (cell_at old c).ports)
      (length (cell_at old c).ports) (omega arith) (λ p k l. port_stays (port_of c p) h) (λ p k l. absurd (omega arith))
      ∙ map-pieces (filled count) at_old (range_with_len 0 (length (cell_at old c).ports))
      ∙ ap (λ b. map (filled count) (cond b [] (arcs_at_ports old c))) (sym (is.plain c h))

  pub arcs_stay : arcs new ≡ map (filled count) (arcs old)
  arcs_stay =
      pieces_first (arcs_into new) (λ c. map (filled count) (arcs_into old c)) 0 (length old) (length new) is.few
      (λ c k l. cell_stays c (omega arith))
      (λ c k l. ap (λ b. cond b [] (arcs_at_ports new c)) (buf old new count is c (omega arith) (omega arith)))
      ∙ map-pieces (filled count) (arcs_into old) (range_with_len 0 (length old))
