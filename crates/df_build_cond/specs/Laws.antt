-- What is known of graphs with gates, MERGE cells and arms.
use Rattle.std.specs.Prelude.{◌≡◌, ◌≤◌, ◌<◌, ◌+◌, ℕ, ℤ, Bool, List, [], ◌∷◌, ◌++◌, map, length}
use Rattle.std.specs.List.{AllByRecursion}
use Rattle.df_values.specs.declared.values.Value.{Value}
use Rattle.df_values.specs.declared.values.Basic.{Basic}
use Rattle.df_values.specs.declared.kinds.Binary.{Binary}
use Rattle.df_values.specs.declared.kinds.Unary.{Unary}
use Rattle.df_cells.specs.declared.kinds.Kind.{Kind}
use Rattle.df_cells.specs.declared.kinds.Kind.TheVariants as kind
use Rattle.df_cells.specs.declared.kinds.Run.{Run}
use Rattle.df_cells.specs.Families.{kind_of, kind_of_one}
use Rattle.df_cells.specs.Kinds.{run_values, AreCanonical}
use Rattle.df_labels.specs.declared.graphs.Flow.{Flow}
use Rattle.df_labels.specs.declared.graphs.Flow.TheVariants.{Cell}
use Rattle.df_labels.specs.Graphs.{Graph, Node, HasArcs}
use Rattle.df_labels.specs.Patterns.{pattern, steady}
use Rattle.df_build_cond.specs.Growth.{node, whole, with_cell, pushed}
use Rattle.df_build_cond.specs.Gates.{gate_kind, ruled}
use Rattle.df_build_cond.specs.Arms.{Arm, pass, cross}
use Rattle.df_build_cond.specs.Counting.{over_stood, over_passed, over_crossed}
use Rattle.df_build_cond.specs.Within.{ArcsBelow, FlowBelow, ArmBelow, StandsAfter, PassesAfter, CrossesAfter}
use Rattle.df_build_cond.specs.Made.{AreOrdinary, IsMade, AreMade}
use Rattle.df_build_cond.specs.Orderly.{zone_at, Orderly, IsOrderly, ZonesExtend}
use Rattle.df_build_cond.specs.InZone.{IsSteady, Suits, FlowSuits, FlowUnder, ArmSuits, KeepsCells, StandsInZone, PassesInZone, CrossesInZone, StandsAtZone}

-- ---- where less is kept of nodes, the graph is the same but for nodes

pub record GatesCountTheSame : Type 0 where
  pub cell : (f keep : Node → Node) (graph : Graph) (it : Kind) (flows : List Flow)
      → with_cell (λ n. f (keep n)) (map f graph) it flows ≡ map f (with_cell keep graph it flows)
  pub pushed : (f keep : Node → Node) (graph : Graph) (it : Kind) (flows : List Flow)
      → pushed (λ n. f (keep n)) (map f graph) it flows ≡ over_stood f (pushed keep graph it flows)
  pub ruled : (f keep : Node → Node) (graph : Graph) (it : Kind) (flows : List Flow) (runs : List Run)
      → ruled (λ n. f (keep n)) (map f graph) it flows runs ≡ over_stood f (ruled keep graph it flows runs)
  pub pass : (f keep : Node → Node) (arm : Arm) (graph : Graph) (flow : Flow)
      → pass (λ n. f (keep n)) arm (map f graph) flow ≡ over_passed f (pass keep arm graph flow)
  pub cross : (f keep : Node → Node) (level : ℕ) (graph : Graph) (arms : List Arm) (flow : Flow)
      → cross (λ n. f (keep n)) level (map f graph) arms flow ≡ over_crossed f (cross keep level graph arms flow)

-- ---- arcs come from cells that are there

pub record GatesHaveArcs : Type 0 where
  -- what is among the first n cells is among the first m
  pub flow_more : (n m : ℕ) → n ≤ m → (flow : Flow) → FlowBelow n flow → FlowBelow m flow
  pub arcs_more : (n m : ℕ) → n ≤ m → (graph : Graph) → ArcsBelow n graph → ArcsBelow m graph
  pub arms_more : (n m : ℕ) → n ≤ m → (arms : List Arm) → AllByRecursion (ArmBelow n) arms → AllByRecursion (ArmBelow m) arms
  pub cell : (n : ℕ) (graph : Graph) (it : Kind) (flows : List Flow) → ArcsBelow n graph → AllByRecursion (FlowBelow n) flows
      → ArcsBelow n (with_cell whole graph it flows)
  pub pushed : (graph : Graph) (it : Kind) (flows : List Flow) → ArcsBelow (length graph) graph → AllByRecursion (FlowBelow (length graph)) flows
      → StandsAfter graph (pushed whole graph it flows)
  pub ruled : (graph : Graph) (it : Kind) (flows : List Flow) (runs : List Run) → ArcsBelow (length graph) graph
      → AllByRecursion (FlowBelow (length graph)) flows → StandsAfter graph (ruled whole graph it flows runs)
  pub pass : (arm : Arm) (graph : Graph) (flow : Flow) → ArcsBelow (length graph) graph → ArmBelow (length graph) arm
      → FlowBelow (length graph) flow → PassesAfter graph (pass whole arm graph flow)
  pub cross : (level : ℕ) (graph : Graph) (arms : List Arm) (flow : Flow) → ArcsBelow (length graph) graph
      → AllByRecursion (ArmBelow (length graph)) arms → FlowBelow (length graph) flow → CrossesAfter graph (cross whole level graph arms flow)
  pub there : (graph : Graph) → ArcsBelow (length graph) graph → HasArcs graph

-- ---- cells are made as their kinds ask

pub record NodesAreMade : Type 0 where
  pub gate : (side : Bool) (control operand : ℕ) → IsMade (node (gate_kind side) (Cell control ∷ Cell operand ∷ []))
  pub merge : (control : ℕ) (x y : Flow) → IsMade (node kind.Merge (Cell control ∷ x ∷ y ∷ []))
  pub joined_left : (how : Binary) (left : ℕ) (right : Flow) → IsMade (node (kind_of how) (Cell left ∷ right ∷ []))
  pub joined_right : (how : Binary) (left : Flow) (right : ℕ) → IsMade (node (kind_of how) (left ∷ Cell right ∷ []))
  pub changed : (how : Unary) (of : ℕ) → IsMade (node (kind_of_one how) (Cell of ∷ []))
  pub control : (runs : List Run) → AreCanonical runs → length (run_values runs) ≤ 65536 → IsMade (node (kind.Ctl runs) [])
  pub two_parts : (m n : ℕ) (s t : Bool) → m + n ≤ 65536 → IsMade (node (kind.Ctl (pattern ((m, s) ∷ (n, t) ∷ []))) [])
  pub three_parts : (m n k : ℕ) (s t r : Bool) → m + (n + k) ≤ 65536
      → IsMade (node (kind.Ctl (pattern ((m, s) ∷ (n, t) ∷ (k, r) ∷ []))) [])
  pub steady : (n : ℕ) (v : Value) → n ≤ 65536 → IsMade (node (kind.Ctl (steady n v)) [])
  pub index : (lo : ℤ) (n : ℕ) → n ≤ 65536 → AreOrdinary lo n → IsMade (node (kind.Idx lo n) [])
  pub input : (name : List ℕ) (basic : Basic) (n : ℕ) → n ≤ 65536 → IsMade (node (kind.In name basic n) [])
  pub output : (k n from : ℕ) → n ≤ 65536 → IsMade (node (kind.Out k n) (Cell from ∷ []))

pub record GatesAreMade : Type 0 where
  pub nodes : NodesAreMade
  pub cell : (graph : Graph) (it : Kind) (flows : List Flow) → AreMade graph → IsMade (node it flows) → AreMade (with_cell whole graph it flows)
  pub ruled : (graph : Graph) (it : Kind) (flows : List Flow) (runs : List Run) → AreMade graph
      → IsMade (node it (Cell (length graph + 1) ∷ flows)) → IsMade (node (kind.Ctl runs) []) → AreMade (ruled whole graph it flows runs).graph
  pub pass : (arm : Arm) (graph : Graph) (flow : Flow) → AreMade graph → AreMade (pass whole arm graph flow).graph
  pub cross : (level : ℕ) (graph : Graph) (arms : List Arm) (flow : Flow) → AreMade graph → AreMade (cross whole level graph arms flow).graph

-- ---- zones

pub record GatesAreOrderly : Type 0 where
  pub extended : ZonesExtend
  -- there is a zone above all
  pub above : (zones : List ℕ) → (z : ℕ) × ((c : ℕ) → zone_at zones c < z)
  pub cell : (graph : Graph) (it : Kind) (flows : List Flow) → AllByRecursion (FlowBelow (length graph)) flows
      → IsOrderly graph → IsOrderly (with_cell whole graph it flows)
  pub ruled : (graph : Graph) (it : Kind) (flows : List Flow) (runs : List Run) → AllByRecursion (FlowBelow (length graph)) flows
      → IsOrderly graph → IsOrderly (ruled whole graph it flows runs).graph
  pub pass : (arm : Arm) (graph : Graph) (flow : Flow) → ArmBelow (length graph) arm → FlowBelow (length graph) flow
      → IsOrderly graph → IsOrderly (pass whole arm graph flow).graph
  pub cross : (level : ℕ) (graph : Graph) (arms : List Arm) (flow : Flow) → ArcsBelow (length graph) graph
      → AllByRecursion (ArmBelow (length graph)) arms → FlowBelow (length graph) flow
      → IsOrderly graph → IsOrderly (cross whole level graph arms flow).graph

pub record GatesStayInZone : Type 0 where
  -- operators, and a CTL of one value
  pub joined : (how : Binary) → IsSteady (kind_of how)
  pub changed : (how : Unary) → IsSteady (kind_of_one how)
  pub listed : (n : ℕ) (v : Value) → IsSteady (kind.Ctl (steady n v))
  -- what suited still suits where no cell is lost
  pub kept_refl : (graph : Graph) (zones : List ℕ) → KeepsCells graph zones graph zones
  pub kept_trans : (g h k : Graph) (x y z : List ℕ) → KeepsCells g x h y → KeepsCells h y k z → KeepsCells g x k z
  pub suits_more : (g h : Graph) (x y : List ℕ) (z first c : ℕ) → KeepsCells g x h y → Suits g x z first c → Suits h y z first c
  pub flow_more : (g h : Graph) (x y : List ℕ) (z first : ℕ) (flow : Flow) → KeepsCells g x h y
      → FlowSuits g x z first flow → FlowSuits h y z first flow
  pub arms_more : (g h : Graph) (x y : List ℕ) (z first : ℕ) (arms : List Arm) → KeepsCells g x h y
      → AllByRecursion (ArmSuits g x z first) arms → AllByRecursion (ArmSuits h y z first) arms
  pub appended : (graph new : Graph) (zones more : List ℕ) → Orderly zones graph → KeepsCells graph zones (graph ++ new) (zones ++ more)
  -- a cell of the zone
  pub pushed : (graph : Graph) (it : Kind) (flows : List Flow) (zones : List ℕ) (z first : ℕ) → Orderly zones graph → first ≤ length graph
      → AllByRecursion (FlowSuits graph zones z first) flows → IsSteady it → StandsInZone graph zones z first (pushed whole graph it flows)
  -- a cell with a CTL of its own, above all that feeds it
  pub ruled : (graph : Graph) (it : Kind) (flows : List Flow) (runs : List Run) (zones : List ℕ) (z : ℕ) → Orderly zones graph → 0 < z
      → AllByRecursion (FlowUnder graph zones z) flows → StandsAtZone graph zones it runs z (ruled whole graph it flows runs)
  pub pass : (arm : Arm) (graph : Graph) (flow : Flow) (zones : List ℕ) (z first : ℕ) → Orderly zones graph → first ≤ length graph
      → ArmSuits graph zones z first arm → FlowSuits graph zones z first flow → PassesInZone graph zones z first (pass whole arm graph flow)
  pub cross : (level : ℕ) (graph : Graph) (arms : List Arm) (flow : Flow) (zones : List ℕ) (z first : ℕ) → Orderly zones graph
      → first ≤ length graph → AllByRecursion (ArmSuits graph zones z first) arms → FlowSuits graph zones z first flow
      → CrossesInZone graph zones z first (cross whole level graph arms flow)
