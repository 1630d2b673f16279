-- What is known of graphs with holds and frames.
use Rattle.std.specs.Prelude.{◌≡◌, ◌≤◌, ◌<◌, ◌+◌, ℕ, true, false, List, [], ◌∷◌, map, length}
use Rattle.df_values.specs.declared.kinds.Op.{Op}
use Rattle.df_cells.specs.declared.kinds.Kind.TheVariants as kind
use Rattle.df_cells.specs.Kinds.{run_values}
use Rattle.df_labels.specs.declared.graphs.Flow.{Flow}
use Rattle.df_labels.specs.Graphs.{Graph, Node, no_node, node_at}
use Rattle.df_labels.specs.Patterns.{pattern}
use Rattle.df_build_cond.specs.Growth.{Stood, Grown, whole}
use Rattle.df_build_cond.specs.Counting.{over_stood, over_grown}
use Rattle.df_build_cond.specs.Within.{ArcsBelow, FlowBelow, StandsAfter}
use Rattle.df_build_cond.specs.Made.{AreMade}
use Rattle.df_build_cond.specs.Orderly.{zone_at, controls_in, Orderly, IsOrderly}
use Rattle.df_build_cond.specs.InZone.{IsSteady, Suits, FlowSuits, FlowUnder, KeepsCells, StandsInZone}
use Rattle.df_build_loops.specs.Holds.{held}
use Rattle.df_build_loops.specs.Frames.{opened, previous, closed, last}
use Rattle.df_build_loops.specs.Folds.{Loop, loop_begun, loop_ended}

-- ---- where less is kept of nodes, the graph is the same but for nodes

abbrev pub over_loop : (Node → Node) → Loop → Loop
over_loop f l = record l { graph = map f l.graph }

-- a frame is closed by feeding a cell that is there, so of the nodes nothing is kept
pub record LoopsCountTheSame : Type 0 where
  pub held : (f keep : Node → Node) (graph : Graph) (scalar n : ℕ)
      → held (λ node. f (keep node)) (map f graph) scalar n ≡ over_stood f (held keep graph scalar n)
  pub opened : (f keep : Node → Node) (graph : Graph) (first : Flow) (n : ℕ)
      → opened (λ node. f (keep node)) (map f graph) first n ≡ over_stood f (opened keep graph first n)
  pub previous : (f keep : Node → Node) (graph : Graph) (merge n : ℕ)
      → previous (λ node. f (keep node)) (map f graph) merge n ≡ over_stood f (previous keep graph merge n)
  pub last : (f keep : Node → Node) (graph : Graph) (all n : ℕ)
      → last (λ node. f (keep node)) (map f graph) all n ≡ over_stood f (last keep graph all n)
  pub begun : (f keep : Node → Node) (first : Flow) (n : ℕ) (graph : Graph)
      → loop_begun (λ node. f (keep node)) first n (map f graph) ≡ over_loop f (loop_begun keep first n graph)
  pub closed : (graph : Graph) (merge : ℕ) (next : Flow)
      → closed (map (λ _. no_node) graph) merge next ≡ map (λ _. no_node) (closed graph merge next)
  pub ended : (keep : Node → Node) (op : Op) (merge gate n : ℕ) (body : Grown)
      → loop_ended (λ _. no_node) op merge gate n (over_grown (λ _. no_node) body) ≡ over_stood (λ _. no_node) (loop_ended keep op merge gate n body)

-- ---- arcs come from cells that are there

pub record BeginsAfter (old : Graph) (l : Loop) : Type 0 where
  pub more : length old ≤ length l.graph
  pub arcs : ArcsBelow (length l.graph) l.graph
  pub merge : l.merge < length l.graph
  pub gate : l.gate < length l.graph

pub record LoopsHaveArcs : Type 0 where
  pub held : (graph : Graph) (scalar n : ℕ) → ArcsBelow (length graph) graph → scalar < length graph → StandsAfter graph (held whole graph scalar n)
  pub opened : (graph : Graph) (first : Flow) (n : ℕ) → ArcsBelow (length graph) graph → FlowBelow (length graph) first
      → StandsAfter graph (opened whole graph first n)
  pub previous : (graph : Graph) (merge n : ℕ) → ArcsBelow (length graph) graph → merge < length graph → StandsAfter graph (previous whole graph merge n)
  pub last : (graph : Graph) (all n : ℕ) → ArcsBelow (length graph) graph → all < length graph → StandsAfter graph (last whole graph all n)
  pub begun : (first : Flow) (n : ℕ) (graph : Graph) → ArcsBelow (length graph) graph → FlowBelow (length graph) first
      → BeginsAfter graph (loop_begun whole first n graph)
  pub closed_length : (graph : Graph) (merge : ℕ) (next : Flow) → length (closed graph merge next) ≡ length graph
  pub closed : (graph : Graph) (merge : ℕ) (next : Flow) → ArcsBelow (length graph) graph → FlowBelow (length graph) next
      → ArcsBelow (length (closed graph merge next)) (closed graph merge next)
  pub ended : (op : Op) (merge gate n : ℕ) (body : Grown) → ArcsBelow (length body.graph) body.graph → merge < length body.graph
      → gate < length body.graph → FlowBelow (length body.graph) body.flow → StandsAfter body.graph (loop_ended whole op merge gate n body)

-- ---- cells are made as their kinds ask

pub record LoopsAreMade : Type 0 where
  pub held : (graph : Graph) (scalar n : ℕ) → 2 ≤ n → n ≤ 65536 → AreMade graph → AreMade (held whole graph scalar n).graph
  pub opened : (graph : Graph) (first : Flow) (n : ℕ) → n ≤ 65535 → AreMade graph → AreMade (opened whole graph first n).graph
  pub previous : (graph : Graph) (merge n : ℕ) → n ≤ 65535 → AreMade graph → AreMade (previous whole graph merge n).graph
  pub last : (graph : Graph) (all n : ℕ) → n ≤ 65535 → AreMade graph → AreMade (last whole graph all n).graph
  pub begun : (first : Flow) (n : ℕ) (graph : Graph) → n ≤ 65535 → AreMade graph → AreMade (loop_begun whole first n graph).graph
  pub closed : (graph : Graph) (merge : ℕ) (next : Flow) → AreMade graph → AreMade (closed graph merge next)
  pub ended : (op : Op) (merge gate n : ℕ) (body : Grown) → n ≤ 65535 → AreMade body.graph → AreMade (loop_ended whole op merge gate n body).graph

-- ---- zones; a loop that is not closed yet is none

pub record LoopsAreOrderly : Type 0 where
  pub held : (graph : Graph) (scalar n : ℕ) → 2 ≤ n → scalar < length graph → IsOrderly graph → IsOrderly (held whole graph scalar n).graph
  pub opened : (graph : Graph) (first : Flow) (n : ℕ) → FlowBelow (length graph) first → IsOrderly graph → IsOrderly (opened whole graph first n).graph
  pub previous : (graph : Graph) (merge n : ℕ) → merge < length graph → IsOrderly graph → IsOrderly (previous whole graph merge n).graph
  pub last : (graph : Graph) (all n : ℕ) → all < length graph → IsOrderly graph → IsOrderly (last whole graph all n).graph

-- ---- zones of loops that are closed

-- an open loop of n turns, whose MERGE has the zone z
pub record IsOpen (graph : Graph) (zones : List ℕ) (z n merge : ℕ) : Type 0 where
  pub there : merge < length graph
  pub merges : (node_at graph merge).kind ≡ kind.Merge
  pub zone : zone_at zones merge ≡ z
  pub controls : controls_in graph merge ≡ run_values (pattern ((1, true) ∷ (n, false) ∷ []))

pub record OpensInZone (old : Graph) (zones : List ℕ) (z n : ℕ) (s : Stood) : Type 0 where
  pub more : List ℕ
  pub orderly : Orderly more s.graph
  pub kept : KeepsCells old zones s.graph more
  pub cell : s.cell ≡ length old
  pub opens : IsOpen s.graph more z n s.cell

-- the gate may be taken by cells of the loop that come after the MERGE
pub record BeginsInZone (old : Graph) (zones : List ℕ) (z n : ℕ) (l : Loop) : Type 0 where
  pub more : List ℕ
  pub orderly : Orderly more l.graph
  pub kept : KeepsCells old zones l.graph more
  pub merge : l.merge ≡ length old
  pub opens : IsOpen l.graph more z n l.merge
  pub gate : Suits l.graph more z (l.merge + 1) l.gate

pub record EndsAboveZone (old : Graph) (zones : List ℕ) (s : Stood) : Type 0 where
  pub more : List ℕ
  pub orderly : Orderly more s.graph
  pub kept : KeepsCells old zones s.graph more
  pub there : s.cell < length s.graph
  pub steady : IsSteady (node_at s.graph s.cell).kind

pub record LoopsStayInZone : Type 0 where
  pub open_more : (g h : Graph) (x y : List ℕ) (z n merge : ℕ) → KeepsCells g x h y → IsOpen g x z n merge → IsOpen h y z n merge
  pub held : (graph : Graph) (scalar n : ℕ) (zones : List ℕ) (z first : ℕ) → Orderly zones graph → first ≤ length graph → 2 ≤ n
      → scalar < length graph → zone_at zones scalar < z → StandsInZone graph zones z first (held whole graph scalar n)
  pub opened : (graph : Graph) (first : Flow) (n : ℕ) (zones : List ℕ) (z : ℕ) → Orderly zones graph → 0 < z → FlowUnder graph zones z first
      → OpensInZone graph zones z n (opened whole graph first n)
  pub previous : (graph : Graph) (merge n : ℕ) (zones : List ℕ) (z first : ℕ) → Orderly zones graph → 0 < z → first ≤ length graph
      → IsOpen graph zones z n merge → StandsInZone graph zones z first (previous whole graph merge n)
  -- the body comes from below, or from a cell of the zone behind the MERGE
  pub closed : (graph : Graph) (merge : ℕ) (next : Flow) (zones : List ℕ) (z n : ℕ) → Orderly zones graph → IsOpen graph zones z n merge
      → FlowSuits graph zones z (merge + 1) next
      → Orderly zones (closed graph merge next) × KeepsCells graph zones (closed graph merge next) zones
  pub begun : (first : Flow) (n : ℕ) (graph : Graph) (zones : List ℕ) (z : ℕ) → Orderly zones graph → 0 < z → FlowUnder graph zones z first
      → BeginsInZone graph zones z n (loop_begun whole first n graph)
  pub ended : (op : Op) (merge gate n : ℕ) (body : Grown) (zones : List ℕ) (z : ℕ) → Orderly zones body.graph → IsOpen body.graph zones z n merge
      → Suits body.graph zones z (merge + 1) gate → FlowSuits body.graph zones z (merge + 1) body.flow
      → EndsAboveZone body.graph zones (loop_ended whole op merge gate n body)
