-- Zones along a block: while the element of a block is built, all that may be taken suits the zone of the block.
use Rattle.std.specs.Prelude.{◌≡◌, ◌≤◌, ◌<◌, ℕ, ℤ, List, length, Some}
use Rattle.std.specs.List.{AllByRecursion}
use Rattle.df_labels.specs.Graphs.{Graph, node_at}
use Rattle.df_labels.specs.declared.graphs.Flow.{Flow}
use Rattle.df_labels.specs.declared.graphs.Flow.TheVariants.{Constant, Cell}
use Rattle.df_core.specs.declared.terms.Term.{Term}
use Rattle.df_build_cond.specs.Growth.{whole}
use Rattle.df_build_cond.specs.InZone.{IsSteady, Suits, FlowSuits, ArmSuits, KeepsCells}
use Rattle.df_build_cond.specs.Orderly.{zone_at, Orderly}
use Rattle.df_build_access.specs.Laws.{ArraySuits}
use Rattle.df_build_loops.specs.Laws.{IsOpen}
use Rattle.df_build_terms.specs.Building.{Building, Built, Make, Met}
use Rattle.df_build_terms.specs.Built.{built}
use Rattle.df_build_terms.specs.Outer.{flow_at, array_at}
use Rattle.df_build_terms.specs.declared.building.Local.{Local}
use Rattle.df_build_terms.specs.declared.building.Outside.{Outside}
use Rattle.df_build_terms.specs.declared.building.Turns.{Turns}

-- what was met suits the zone
pub record MetSuits (graph : Graph) (zones : List ℕ) (z first : ℕ) (met : Met) : Type 0 where
  pub index : (c : ℕ) → met.index ≡ Some c → Suits graph zones z first c
  pub previous : (c : ℕ) → met.previous ≡ Some c → Suits graph zones z first c
  pub holds : (number c : ℕ) → met.holds number ≡ Some c → Suits graph zones z first c
  pub accesses : (number : ℕ) (offset : ℤ) (flow : Flow) → met.accesses number offset ≡ Some flow
      → FlowSuits graph zones z first flow

-- a building whose graph has these zones, where all that may be taken suits the zone z, whose cells come from `first` on
pub record IsInZone (z first : ℕ) (zones : List ℕ) (b : Building) : Type 0 where
  pub orderly : Orderly zones b.graph
  pub begins : first ≤ length b.graph
  pub met : MetSuits b.graph zones z first b.met
  pub arms : AllByRecursion (ArmSuits b.graph zones z first) b.arms

-- a scalar from below the zone, which may be the control of an arm
abbrev pub ScalarSuits : Graph → List ℕ → ℕ → Flow → Type 0
ScalarSuits graph zones z (Constant v) = Unit {0}
ScalarSuits graph zones z (Cell c) = (c < length graph) × IsSteady (node_at graph c).kind × (zone_at zones c < z)

-- what stands outside lies below the zone, and the MERGE of the recurrence is open in it
pub record OutsideSuits (graph : Graph) (zones : List ℕ) (z : ℕ) (turns : Turns) (outer : List Outside) : Type 0 where
  pub above : 0 < z
  pub own : (m : ℕ) → turns.own ≡ Some m → IsOpen graph zones z turns.n m
  pub flows : (number : ℕ) → ScalarSuits graph zones z (flow_at outer number)
  pub arrays : (number : ℕ) → ArraySuits graph zones z (array_at outer number)

abbrev pub LocalSuits : Graph → List ℕ → ℕ → ℕ → Local → Type 0
LocalSuits graph zones z first l = FlowSuits graph zones z first l.flow

-- after an older building, one with more zones, and a value that suits
pub record BuildsInZone (z first : ℕ) (old : Building) (zones : List ℕ) (x : Built) : Type 0 where
  pub more : List ℕ
  pub kept : KeepsCells old.graph zones x.state.graph more
  pub sound : IsInZone z first more x.state
  pub flow : FlowSuits x.state.graph more z first x.flow

abbrev pub KeepsInZone : ℕ → ℕ → Turns → List Outside → Make → Type 0
KeepsInZone z first turns outer make = (locals : List Local) (b : Building) (zones : List ℕ)
    → AllByRecursion (LocalSuits b.graph zones z first) locals → OutsideSuits b.graph zones z turns outer
    → IsInZone z first zones b → BuildsInZone z first b zones (make locals b)

-- what a term is built to stays in the zone of its block
abbrev pub TermsStayInZone : Type 0
TermsStayInZone = (z first : ℕ) (turns : Turns) (outer : List Outside) (x : Term)
    → KeepsInZone z first turns outer (built whole turns outer x)
