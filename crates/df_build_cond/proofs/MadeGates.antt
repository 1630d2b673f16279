-- Graphs whose cells are made as their kinds ask.
use Rattle.std.proofs.Common.{◌+◌, ℕ, true, false, List, [], ◌∷◌, length, Option, Some, None}
use Rattle.std.specs.Prelude.{if◌then◌else◌, nat_lt}
use Rattle.df_cells.specs.declared.kinds.Run.{Run}
use Rattle.df_cells.specs.declared.kinds.Kind.{Kind}
use Rattle.df_cells.specs.declared.kinds.Kind.TheVariants as kind
use Rattle.df_labels.specs.declared.graphs.Flow.{Flow}
use Rattle.df_labels.specs.declared.graphs.Flow.TheVariants.{Constant, Cell}
use Rattle.df_labels.specs.Graphs.{Graph}
use Rattle.df_labels.specs.Patterns.{PatternsSpell, PatternsAreCanonical, SteadySpells, SteadyIsCanonical}
use Rattle.df_build_cond.specs.Growth as grow
use Rattle.df_build_cond.specs.Growth.{node, whole}
use Rattle.df_build_cond.specs.Gates as gates
use Rattle.df_build_cond.specs.Gates.{gate_kind}
use Rattle.df_build_cond.specs.Arms as arms
use Rattle.df_build_cond.specs.Arms.{Arm}
use Rattle.df_build_cond.specs.Made.{IsMade, AreMade}
use Rattle.df_build_cond.specs.Laws.{NodesAreMade, GatesAreMade}
use Rattle.df_build_cond.proofs.Lists.{all_push}
use Rattle.df_build_cond.proofs.Arcs.{next}
use Rattle.df_build_cond.proofs.MadeNodes.{nodes_are_made}

cell_made : (g : Graph) (it : Kind) (flows : List Flow) → AreMade g → IsMade (node it flows) → AreMade (grow.with_cell whole g it flows)
cell_made g it flows all new = all_push IsMade g (node it flows) all new

-- a cell and its CTL
ruled_made : (g : Graph) (it : Kind) (flows : List Flow) (runs : List Run) → AreMade g → IsMade (node it (Cell (length g + 1) ∷ flows)) → IsMade (node (kind.Ctl runs) [])
    → AreMade (gates.ruled whole g it flows runs).graph
unfolding gates.ruled
ruled_made g it flows runs all cell control = cell_made _ (kind.Ctl runs) [] (cell_made g it (Cell (length g + 1) ∷ flows) all cell) control

module _ (nodes : NodesAreMade) where
  passed_made : (arm : Arm) (g : Graph) (u : ℕ) (met : Option ℕ) → AreMade g → AreMade (arms.passed whole arm g u met).graph
  passed_made arm g u (Some d) all = all
  passed_made arm g u None all = cell_made g (gate_kind arm.side) (Cell arm.control ∷ Cell u ∷ []) all (nodes.gate arm.side arm.control u)

  pass_made : (arm : Arm) (g : Graph) (flow : Flow) → AreMade g → AreMade (arms.pass whole arm g flow).graph
  pass_made arm g (Constant v) all = all
  pass_made arm g (Cell u) all = passed_made arm g u (arm.gates u) all

  cross_made : (level : ℕ) (g : Graph) (open_arms : List Arm) (flow : Flow) → AreMade g → AreMade (arms.cross whole level g open_arms flow).graph
  cross_made level g [] flow all = all
  cross_made level g (arm ∷ rest) flow all =
      let outer = arms.cross whole level g rest flow in
      elim (nat_lt (length rest) level) as (λ t. AreMade (if t then record { graph = g; arms = arm ∷ rest; flow = flow } else next arm outer).graph) [
        | true ↦ all
        | false ↦ pass_made arm outer.graph outer.flow (cross_made level g rest flow all)
      ]

pub gates_are_made : PatternsSpell → PatternsAreCanonical → SteadySpells → SteadyIsCanonical → GatesAreMade
gates_are_made spell canonical spell_steady canonical_steady =
    let nodes = nodes_are_made spell canonical spell_steady canonical_steady in
    record { nodes = nodes; cell = cell_made; ruled = ruled_made; pass = pass_made nodes; cross = cross_made nodes }
