-- Zones along a block. While the element of a block is built, its cells have one zone, but for those that have to lie below:
-- CTL cells, and gates that pass their first value late.
use Rattle.std.specs.Prelude.{◌≡◌, ◌≤◌, ◌<◌, ◌⊎◌, ℕ, Bool, List, length, Some}
use Rattle.std.specs.List.{AllByRecursion}
use Rattle.df_cells.specs.declared.kinds.Kind.{Kind}
use Rattle.df_cells.specs.declared.kinds.Run.{Run}
use Rattle.df_cells.specs.Kinds.{run_values}
use Rattle.df_cells.specs.Shifts.{control_values, first_truth}
use Rattle.df_labels.specs.declared.graphs.Flow.{Flow}
use Rattle.df_labels.specs.declared.graphs.Flow.TheVariants.{Constant, Cell}
use Rattle.df_labels.specs.Graphs.{Graph, node_at}
use Rattle.df_build_cond.specs.Growth.{Stood, Grown}
use Rattle.df_build_cond.specs.Arms.{Arm, Passed, Crossed}
use Rattle.df_build_cond.specs.Orderly.{zone_at, controls_in, gate_in, Orderly}

-- no CTL, or one whose truth values are all alike: under such a control a gate passes its first value or none, and a MERGE takes
-- the first values of its sides at once
abbrev pub IsSteady : Kind → Type 0
IsSteady it = (side : Bool) → first_truth side (control_values it) ≡ 0

-- what the cell c gives may be taken by a new cell of the zone z, whose cells have numbers from `first` on
pub record Suits (graph : Graph) (zones : List ℕ) (z first c : ℕ) : Type 0 where
  pub there : c < length graph
  pub steady : IsSteady (node_at graph c).kind
  pub zone : (zone_at zones c < z) ⊎ ((zone_at zones c ≡ z) × (gate_in graph c ≡ 0) × (first ≤ c))

abbrev pub FlowSuits : Graph → List ℕ → ℕ → ℕ → Flow → Type 0
FlowSuits graph zones z first (Constant v) = Unit {0}
FlowSuits graph zones z first (Cell c) = Suits graph zones z first c

-- a value whose cell lies below the zone
abbrev pub FlowUnder : Graph → List ℕ → ℕ → Flow → Type 0
FlowUnder graph zones z (Constant v) = Unit {0}
FlowUnder graph zones z (Cell c) = (c < length graph) × (zone_at zones c < z)

pub record ArmSuits (graph : Graph) (zones : List ℕ) (z first : ℕ) (arm : Arm) : Type 0 where
  pub control : Suits graph zones z first arm.control
  pub gates : (u d : ℕ) → arm.gates u ≡ Some d → Suits graph zones z first d

-- no cell of the old graph is lost, and each has its zone, its kind and its controls
pub record KeepsCells (old : Graph) (zones : List ℕ) (new : Graph) (more : List ℕ) : Type 0 where
  pub longer : length old ≤ length new
  pub zone : (c : ℕ) → c < length old → zone_at more c ≡ zone_at zones c
  pub kind : (c : ℕ) → c < length old → (node_at new c).kind ≡ (node_at old c).kind
  pub controls : (c : ℕ) → c < length old → controls_in new c ≡ controls_in old c

-- ---- after an older graph with zones: zones for all cells, and what was made suits the zone

pub record StandsInZone (old : Graph) (zones : List ℕ) (z first : ℕ) (s : Stood) : Type 0 where
  pub more : List ℕ
  pub orderly : Orderly more s.graph
  pub kept : KeepsCells old zones s.graph more
  pub cell : Suits s.graph more z first s.cell

pub record GrowsInZone (old : Graph) (zones : List ℕ) (z first : ℕ) (w : Grown) : Type 0 where
  pub more : List ℕ
  pub orderly : Orderly more w.graph
  pub kept : KeepsCells old zones w.graph more
  pub flow : FlowSuits w.graph more z first w.flow

pub record PassesInZone (old : Graph) (zones : List ℕ) (z first : ℕ) (p : Passed) : Type 0 where
  pub more : List ℕ
  pub orderly : Orderly more p.graph
  pub kept : KeepsCells old zones p.graph more
  pub arm : ArmSuits p.graph more z first p.arm
  pub flow : FlowSuits p.graph more z first p.flow

pub record CrossesInZone (old : Graph) (zones : List ℕ) (z first : ℕ) (c : Crossed) : Type 0 where
  pub more : List ℕ
  pub orderly : Orderly more c.graph
  pub kept : KeepsCells old zones c.graph more
  pub arms : AllByRecursion (ArmSuits c.graph more z first) c.arms
  pub flow : FlowSuits c.graph more z first c.flow

-- a cell of this kind with a CTL of its own, of a zone that is given
pub record StandsAtZone (old : Graph) (zones : List ℕ) (it : Kind) (runs : List Run) (z : ℕ) (s : Stood) : Type 0 where
  pub more : List ℕ
  pub orderly : Orderly more s.graph
  pub kept : KeepsCells old zones s.graph more
  pub cell : s.cell ≡ length old
  pub there : s.cell < length s.graph
  pub zone : zone_at more s.cell ≡ z
  pub kind : (node_at s.graph s.cell).kind ≡ it
  pub controls : controls_in s.graph s.cell ≡ run_values runs
