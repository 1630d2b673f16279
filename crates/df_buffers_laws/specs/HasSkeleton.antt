-- Cells that are a graph with BUF cells on its arcs.
use Rattle.std.specs.Prelude.{◌≡◌, ℕ, zero, suc, ◌-◌, ◌<◌, cond, false, List, [], ◌∷◌, ◌++◌, length, map, take, Option, Some, None}
use Rattle.std.specs.List.{flat_map, range_with_len}
use Rattle.df_cells.specs.declared.cells.CellId.{CellId}
use Rattle.df_cells.specs.declared.cells.Cell.{Cell}
use Rattle.df_cells.specs.declared.cells.Dest.{Dest}
use Rattle.df_cells.specs.Cells.{is_buf, producer_of, skeleton_arcs}
use Rattle.df_cells.specs.Shifts.{back}
use Rattle.df_labels.specs.Graphs.{Graph, Node}
use Rattle.df_buffers_laws.specs.Buffered.{over_buffers}

-- the BUF cells that are met in so many steps back, in the order in which values pass them
abbrev pub met_over : List Cell → ℕ → ℕ → List ℕ
met_over cells zero c = []
met_over cells (suc n) c = cond (is_buf cells c) (met_over cells n (back cells c) ++ c ∷ []) []

abbrev pub met_from : List Cell → Option CellId → List ℕ
met_from cells None = []
met_from cells (Some u) = met_over cells (length cells) u.0

-- the BUF cells on the arc to a port
abbrev pub buffers_on : List Cell → Dest → List ℕ
buffers_on cells d = met_from cells (producer_of cells d)

-- a cell as it stands in the graph
abbrev pub node_over : List Cell → Cell → Node
node_over cells cell = record { kind = cell.kind; ports = map (over_buffers cells) cell.ports }

-- The first cells are those of the graph, over BUF cells, and all others are BUF cells. Along an arc their numbers
-- rise, and over all arcs they follow the order of cell and port.
pub record HasSkeleton (cells : List Cell) (graph : Graph) : Type 0 where
  pub plain : (c : ℕ) → c < length graph → is_buf cells c ≡ false
  pub first : map (node_over cells) (take (length graph) cells) ≡ graph
  pub order : flat_map (buffers_on cells) (skeleton_arcs cells)
      ≡ range_with_len (length graph) (length cells - length graph)
