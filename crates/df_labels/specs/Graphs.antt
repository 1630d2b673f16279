-- Graphs: the cells that a builder was given, and what feeds their ports.
use Rattle.std.specs.Prelude.{◌≡◌, ◌<◌, ℕ, List, [], map, get_or, set, length, slice_get, Some}
use Rattle.df_values.specs.declared.values.Value.TheVariants.{Error}
use Rattle.df_values.specs.declared.values.ErrorValue.TheVariants.{Undef}
use Rattle.df_cells.specs.declared.cells.CellId.{CellId}
use Rattle.df_cells.specs.declared.cells.Cell.{Cell}
use Rattle.df_cells.specs.declared.cells.Dest.{Dest}
use Rattle.df_cells.specs.declared.cells.Feed.{Feed}
use Rattle.df_cells.specs.declared.cells.Feed.TheVariants.{Constant}
use Rattle.df_cells.specs.declared.kinds.Kind.{Kind}
use Rattle.df_cells.specs.declared.kinds.Kind.TheVariants as kind
use Rattle.df_cells.specs.Cells.{from_cell, cell_from}

-- what a cell does, and what feeds each of its ports
pub record Node : Type 0 where
  pub kind : Kind
  pub ports : List Feed

-- the cells of a graph, in the order of their numbers
abbrev pub Graph : Type 0
Graph = List Node

abbrev pub no_node : Node
no_node = record { kind = kind.Buf; ports = [] }

abbrev pub node_at : Graph → ℕ → Node
node_at graph c = get_or graph c no_node

-- the graph in which the port d is fed by something else
abbrev pub with_fed : Graph → Dest → Feed → Graph
with_fed graph d feed = let node = node_at graph d.cell.0 in set graph d.cell.0 (record node { ports = set node.ports d.port.0 feed })

-- what feeds a port; the constant undef where there is no such port
abbrev pub no_feed : Feed
no_feed = Constant (Error Undef)

abbrev pub feed_in : Graph → Dest → Feed
feed_in graph d = get_or (node_at graph d.cell.0).ports d.port.0 no_feed

-- there is such a port
abbrev pub HasPort : Graph → Dest → Type 0
HasPort graph d = (d.cell.0 < length graph) × (d.port.0 < length (node_at graph d.cell.0).ports)

-- where the feed is an arc, it comes from one of the first n cells
abbrev pub ComesFrom : ℕ → Feed → Type 0
ComesFrom n feed = (u : CellId) → from_cell feed ≡ Some u → u.0 < n

-- each arc comes from a cell of the graph
abbrev pub HasArcs : Graph → Type 0
HasArcs graph = (c p : ℕ) (u : CellId) → cell_from (slice_get (node_at graph c).ports p) ≡ Some u → u.0 < length graph

-- the graph that cells are of
abbrev pub node_of : Cell → Node
node_of cell = record { kind = cell.kind; ports = cell.ports }

abbrev pub graph_of : List Cell → Graph
graph_of cells = map node_of cells
