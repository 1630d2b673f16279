-- What is said of cells is said of cells that are there.
use Rattle.std.specs.Prelude.{◌≡◌, ◌≤◌, ◌<◌, ℕ, length, Some}
use Rattle.std.specs.List.{AllByRecursion}
use Rattle.df_labels.specs.declared.graphs.Flow.{Flow}
use Rattle.df_labels.specs.declared.graphs.Flow.TheVariants.{Constant, Cell}
use Rattle.df_labels.specs.Graphs.{Graph, Node, ComesFrom}
use Rattle.df_build_cond.specs.Growth.{Stood, Grown}
use Rattle.df_build_cond.specs.Arms.{Arm, Passed, Crossed}

abbrev pub NodeBelow : ℕ → Node → Type 0
NodeBelow n node = AllByRecursion (ComesFrom n) node.ports

-- each arc comes from one of the first n cells
abbrev pub ArcsBelow : ℕ → Graph → Type 0
ArcsBelow n graph = AllByRecursion (NodeBelow n) graph

-- a value is a constant, or comes from one of the first n cells
abbrev pub FlowBelow : ℕ → Flow → Type 0
FlowBelow n (Constant v) = Unit {0}
FlowBelow n (Cell c) = c < n

-- the control of an arm and the gates that were met in it are among the first n cells
pub record ArmBelow (n : ℕ) (arm : Arm) : Type 0 where
  pub control : arm.control < n
  pub gates : (u d : ℕ) → arm.gates u ≡ Some d → d < n

-- ---- after an older graph: no cell is lost, and arcs and what was made come from cells that are there

pub record StandsAfter (old : Graph) (s : Stood) : Type 0 where
  pub more : length old ≤ length s.graph
  pub arcs : ArcsBelow (length s.graph) s.graph
  pub cell : s.cell < length s.graph

pub record GrowsAfter (old : Graph) (w : Grown) : Type 0 where
  pub more : length old ≤ length w.graph
  pub arcs : ArcsBelow (length w.graph) w.graph
  pub flow : FlowBelow (length w.graph) w.flow

pub record PassesAfter (old : Graph) (p : Passed) : Type 0 where
  pub more : length old ≤ length p.graph
  pub arcs : ArcsBelow (length p.graph) p.graph
  pub arm : ArmBelow (length p.graph) p.arm
  pub flow : FlowBelow (length p.graph) p.flow

pub record CrossesAfter (old : Graph) (c : Crossed) : Type 0 where
  pub more : length old ≤ length c.graph
  pub arcs : ArcsBelow (length c.graph) c.graph
  pub arms : AllByRecursion (ArmBelow (length c.graph)) c.arms
  pub flow : FlowBelow (length c.graph) c.flow
