-- Graphs with cells more. `keep` is what is kept of a node: all of it, or nothing where cells are only counted.
use Rattle.std.specs.Prelude.{ℕ, List, [], ◌∷◌, ◌++◌, map, length}
use Rattle.df_cells.specs.declared.kinds.Kind.{Kind}
use Rattle.df_labels.specs.declared.graphs.Flow.{Flow}
use Rattle.df_labels.specs.Flows.{feed_of}
use Rattle.df_labels.specs.Graphs.{Graph, Node}

-- a graph, and a cell that was made in it or was there
pub record Stood : Type 0 where
  pub graph : Graph
  pub cell : ℕ

-- a graph, and a value that was made in it or was there
pub record Grown : Type 0 where
  pub graph : Graph
  pub flow : Flow

-- a cell of this kind whose ports are fed by these values
abbrev pub node : Kind → List Flow → Node
node it flows = record { kind = it; ports = map feed_of flows }

-- all of a node is kept
abbrev pub whole : Node → Node
whole node = node

module _ (keep : Node → Node) where
  -- one cell more at the end
  abbrev pub with_cell : Graph → Kind → List Flow → Graph
  with_cell graph it flows = graph ++ keep (node it flows) ∷ []

  -- the same, with its number
  abbrev pub pushed : Graph → Kind → List Flow → Stood
  pushed graph it flows = record { graph = with_cell graph it flows; cell = length graph }
