-- Arcs of loops come from cells that are there.
use Rattle.std.proofs.Common.{◌≡◌, ◌≤◌, ◌<◌, ◌+◌, ◌-◌, ℕ, zero, suc, true, false, List, [], ◌∷◌, length, set, get_or, Option, Some, None, sym, subst, ap, arith}
use Rattle.std.specs.List.{AllByRecursion}
use Rattle.std.proofs.lemmas.List.{length-set, length_push}
use Rattle.df_values.specs.declared.kinds.Op.{Op}
use Rattle.df_values.specs.declared.kinds.Binary.TheVariants.{Operation}
use Rattle.df_cells.specs.declared.cells.CellId.{CellId}
use Rattle.df_cells.specs.declared.cells.Dest.{Dest}
use Rattle.df_cells.specs.declared.cells.Feed.{Feed}
use Rattle.df_cells.specs.declared.kinds.Kind.{Kind}
use Rattle.df_cells.specs.declared.kinds.Kind.TheVariants as kind
use Rattle.df_cells.specs.Cells.{port_of}
use Rattle.df_cells.specs.Families.{kind_of}
use Rattle.df_labels.specs.declared.graphs.Flow.{Flow}
use Rattle.df_labels.specs.declared.graphs.Flow.TheVariants.{Constant, Cell}
use Rattle.df_labels.specs.Flows.{feed_of}
use Rattle.df_labels.specs.Graphs.{Graph, ComesFrom, no_node, node_at, with_fed}
use Rattle.df_labels.specs.Patterns.{pattern}
use Rattle.df_build_cond.specs.Growth.{Grown, node, whole, with_cell, pushed}
use Rattle.df_build_cond.specs.Within.{NodeBelow, ArcsBelow, FlowBelow, StandsAfter}
use Rattle.df_build_cond.specs.Laws.{GatesHaveArcs}
use Rattle.df_build_loops.specs.Holds as holds
use Rattle.df_build_loops.specs.Frames as frames
use Rattle.df_build_loops.specs.Frames.{undef, closed}
use Rattle.df_build_loops.specs.Folds as folds
use Rattle.df_build_loops.specs.Laws.{BeginsAfter, LoopsHaveArcs}

-- ---- feeding a port

all_set : {X : Type 0} (P : X → Type 0) (xs : List X) (i : ℕ) (y : X) → AllByRecursion P xs → P y → AllByRecursion P (set xs i y)
all_set P [] i y all new = tt
all_set P (x ∷ xs) zero y all new = (new, all.1)
all_set P (x ∷ xs) (suc i) y all new = (all.0, all_set P xs i y all.1 new)

all_get_or : {X : Type 0} (P : X → Type 0) (xs : List X) (i : ℕ) (d : X) → AllByRecursion P xs → P d → P (get_or xs i d)
all_get_or P [] i d all last = last
all_get_or P (x ∷ xs) zero d all last = all.0
all_get_or P (x ∷ xs) (suc i) d all last = all_get_or P xs i d all.1 last

comes_flow : (n : ℕ) (f : Flow) → FlowBelow n f → ComesFrom n (feed_of f)
comes_flow n (Constant v) below u is = absurd (none is)
  where
    none : {u : CellId} → None ≡ Some u → ⊥
    none e = cc
comes_flow n (Cell c) below u is = let e : c ≡ u.0 = ap first is in omega (arith, below, e)
  where
    first : Option CellId → ℕ
    first (Some u) = u.0
    first None = 0

fed_below : (n : ℕ) (g : Graph) (d : Dest) (x : Feed) → ArcsBelow n g → ComesFrom n x → ArcsBelow n (with_fed g d x)
fed_below n g d x arcs comes =
    let node = node_at g d.cell.0 in
    all_set (NodeBelow n) g d.cell.0 (record node { ports = set node.ports d.port.0 x }) arcs
    (all_set (ComesFrom n) node.ports d.port.0 x (all_get_or (NodeBelow n) g d.cell.0 no_node arcs tt) comes)

pub closed_length : (g : Graph) (merge : ℕ) (next : Flow) → length (closed g merge next) ≡ length g
closed_length g merge next = length-set g merge (record (node_at g merge) { ports = set (node_at g merge).ports 2 (feed_of next) })

closed_arcs : (g : Graph) (merge : ℕ) (next : Flow) → ArcsBelow (length g) g → FlowBelow (length g) next → ArcsBelow (length (closed g merge next)) (closed g merge next)
closed_arcs g merge next arcs below =
    subst (λ k. ArcsBelow k (closed g merge next)) (sym (closed_length g merge next)) (fed_below (length g) g (port_of merge 2) (feed_of next) arcs (comes_flow (length g) next below))

-- ---- loops

pub length_cell : (g : Graph) (it : Kind) (flows : List Flow) → length (with_cell whole g it flows) ≡ length g + 1
length_cell g it flows = length_push g (node it flows)

module _ (gates : GatesHaveArcs) where
  held_after : (g : Graph) (u n : ℕ) → ArcsBelow (length g) g → u < length g → StandsAfter g (holds.held whole g u n)
  held_after g u n arcs less =
      let m = length g in
      let p1 = Cell (m + 1) ∷ Cell u ∷ Cell (m + 2) ∷ [] in
      let k2 = kind.Ctl (pattern ((1, true) ∷ (n - 1, false) ∷ [])) in
      let p3 = Cell (m + 3) ∷ Cell m ∷ [] in
      let k4 = kind.Ctl (pattern ((n - 1, true) ∷ (1, false) ∷ [])) in
      let g1 = with_cell whole g kind.Merge p1 in
      let g2 = with_cell whole g1 k2 [] in
      let g3 = with_cell whole g2 kind.Tgate p3 in
      let g4 = with_cell whole g3 k4 [] in
      let e1 : length g1 ≡ m + 1 = length_cell g kind.Merge p1 in
      let e2 : length g2 ≡ length g1 + 1 = length_cell g1 k2 [] in
      let e3 : length g3 ≡ length g2 + 1 = length_cell g2 kind.Tgate p3 in
      let e4 : length g4 ≡ length g3 + 1 = length_cell g3 k4 [] in
      let l = length g4 in
      let count : l ≡ m + 4 = omega (arith, e1, e2, e3, e4) in
      let le : m ≤ l = omega (arith, count) in
      let new : m < l = omega (arith, count) in
      record {
        more = le;
        arcs = gates.cell l g3 k4 []
            (gates.cell l g2 kind.Tgate p3
            (gates.cell l g1 k2 []
            (gates.cell l g kind.Merge p1 (gates.arcs_more m l le g arcs) (omega (arith, count), (omega (arith, less, count), (omega (arith, count), tt)))) tt)
            (omega (arith, count), (new, tt))) tt;
        cell = new;
      }

  opened_after : (g : Graph) (first : Flow) (n : ℕ) → ArcsBelow (length g) g → FlowBelow (length g) first → StandsAfter g (frames.opened whole g first n)
  opened_after g first n arcs below = gates.ruled g kind.Merge (first ∷ Constant undef ∷ []) (pattern ((1, true) ∷ (n, false) ∷ [])) arcs (below, (tt, tt))

  previous_after : (g : Graph) (merge n : ℕ) → ArcsBelow (length g) g → merge < length g → StandsAfter g (frames.previous whole g merge n)
  previous_after g merge n arcs less = gates.ruled g kind.Tgate (Cell merge ∷ []) (pattern ((n, true) ∷ (1, false) ∷ [])) arcs (less, tt)

  last_after : (g : Graph) (all n : ℕ) → ArcsBelow (length g) g → all < length g → StandsAfter g (frames.last whole g all n)
  last_after g all n arcs less = gates.ruled g kind.Fgate (Cell all ∷ []) (pattern ((n, true) ∷ (1, false) ∷ [])) arcs (less, tt)

  begun_after : (first : Flow) (n : ℕ) (g : Graph) → ArcsBelow (length g) g → FlowBelow (length g) first → BeginsAfter g (folds.loop_begun whole first n g)
  unfolding folds.loop_begun
  begun_after first n g arcs below =
      let o = frames.opened whole g first n in
      let good = opened_after g first n arcs below in
      let p = previous_after o.graph o.cell n good.arcs good.cell in
      let le1 = good.more in
      let le2 = p.more in
      let less = good.cell in
      record { more = omega (arith, le1, le2); arcs = p.arcs; merge = omega (arith, less, le2); gate = p.cell }

  ended_after : (op : Op) (merge gate n : ℕ) (body : Grown) → ArcsBelow (length body.graph) body.graph → merge < length body.graph → gate < length body.graph → FlowBelow (length body.graph) body.flow
      → StandsAfter body.graph (folds.loop_ended whole op merge gate n body)
  unfolding folds.loop_ended
  ended_after op merge gate n body arcs there less below =
      let it = kind_of (Operation op) in
      let j = pushed whole body.graph it (Cell gate ∷ body.flow ∷ []) in
      let good = gates.pushed body.graph it (Cell gate ∷ body.flow ∷ []) arcs (less, (below, tt)) in
      let c = closed j.graph merge (Cell j.cell) in
      let same : length c ≡ length j.graph = closed_length j.graph merge (Cell j.cell) in
      let le = good.more in
      let l = last_after c merge n (closed_arcs j.graph merge (Cell j.cell) good.arcs good.cell) (omega (arith, there, le, same)) in
      let le' = l.more in
      record { more = omega (arith, le, same, le'); arcs = l.arcs; cell = l.cell }

pub loops_have_arcs : GatesHaveArcs → LoopsHaveArcs
loops_have_arcs gates = record {
  held = held_after gates;
  opened = opened_after gates;
  previous = previous_after gates;
  last = last_after gates;
  begun = begun_after gates;
  closed_length = closed_length;
  closed = closed_arcs;
  ended = ended_after gates;
}
