-- The cells of a flat program: its skeleton, and how many cells that has.
use Rattle.std.specs.Prelude.{ℕ, ◌+◌, List, [], ◌∷◌, ◌++◌, length, map, fold, slice_get, Option, Some, None}
use Rattle.df_values.specs.Inputs.{input_length}
use Rattle.df_values.specs.declared.inputs.Extent.{Extent}
use Rattle.df_values.specs.declared.inputs.Input.{Input}
use Rattle.df_cells.specs.declared.cells.InputDecl.{InputDecl}
use Rattle.df_cells.specs.declared.kinds.Kind.TheVariants as kind
use Rattle.df_labels.specs.Graphs.{Graph, Node}
use Rattle.df_labels.specs.declared.graphs.Flow.TheVariants.{Cell}
use Rattle.df_core.specs.declared.flat.Block.{Block}
use Rattle.df_core.specs.declared.flat.Flat.{Flat}
use Rattle.df_build_cond.specs.Growth.{whole, with_cell, pushed}
use Rattle.df_build_terms.specs.declared.building.Outside.{Outside}
use Rattle.df_build_terms.specs.declared.building.Outside.TheVariants.{Single, Many}
use Rattle.df_build_elem.specs.Blocks.{placed, shown, listed}

-- a graph, and what parameters and blocks are in it by their numbers
pub record Laid : Type 0 where
  pub graph : Graph
  pub outer : List Outside

-- a graph with so many results
pub record Shown : Type 0 where
  pub graph : Graph
  pub count : ℕ

abbrev pub input_at : ℕ → Option Extent → Outside
input_at c (Some extent) = Many (record { cell = c; lo = extent.lo; n = extent.n })
input_at c None = Single (Cell c)

module _ (keep : Node → Node) where
  -- a parameter more: its IN
  abbrev pub laid_input : Laid → Input → Laid
  laid_input l i =
      let s = pushed keep l.graph (kind.In i.name i.basic (input_length i.extent)) [] in
      record { graph = s.graph; outer = l.outer ++ input_at s.cell i.extent ∷ [] }

  -- a block more
  abbrev pub laid_block : Laid → Block → Laid
  laid_block l b =
      let p = placed keep l.outer b.body l.graph in
      let q = shown keep b.is_result p.graph p.outside in
      record { graph = q.graph; outer = l.outer ++ q.outside ∷ [] }

  -- parameters and then blocks, each behind the graph so far
  abbrev pub laid : Flat → Graph → Laid
  laid flat graph = fold laid_block (fold laid_input (record { graph = graph; outer = [] }) flat.parameters) flat.blocks

  -- the OUT of result number k, from 0; before it the CTL of a constant, and of a number of nothing
  unfoldable pub result_of : ℕ → Graph → Option Outside → Graph
  result_of k graph (Some (Single flow)) =
      let s = listed keep 1 graph flow in with_cell keep s.graph (kind.Out (k + 1) 1) (Cell s.cell ∷ [])
  result_of k graph (Some (Many array)) = with_cell keep graph (kind.Out (k + 1) array.n) (Cell array.cell ∷ [])
  result_of k graph None =
      let s = pushed keep graph (kind.Ctl []) [] in with_cell keep s.graph (kind.Out (k + 1) 0) (Cell s.cell ∷ [])

  abbrev pub result_more : List Outside → Shown → ℕ → Shown
  result_more outer s number =
      record { graph = result_of s.count s.graph (slice_get outer number); count = s.count + 1 }

  -- a whole program, behind a graph
  unfoldable pub program_on : Flat → Graph → Graph
  program_on flat graph =
      let l = laid flat graph in
      (fold (result_more l.outer) (record { graph = l.graph; count = 0 }) flat.results).graph

-- what the inputs of a flat program declare
abbrev pub declared_input : Input → InputDecl
declared_input i = record { name = i.name; basic = i.basic; length = input_length i.extent }

abbrev pub declared_inputs : Flat → List InputDecl
declared_inputs flat = map declared_input flat.parameters

-- the skeleton of a flat program
abbrev pub program_graph : Flat → Graph
program_graph flat = program_on whole flat []

-- how many cells it has
abbrev pub census : Flat → ℕ
census flat = length (program_graph flat)
