-- The nodes of cells, counted from cell to cell.
use Rattle.std.specs.Prelude.{◌≡◌, ℕ, ◌+◌, ◌<◌, ◌≤◌, true, cond, List, get_or, length}
use Rattle.df_cells.specs.declared.cells.Cell.{Cell}
use Rattle.df_stages.specs.Nodes.{node_of, is_node}
use Rattle.df_stages.specs.Skeletons.{nodes, count_below, node_place}

pub record HasCountedNodes (cells : List Cell) : Type 0 where
  -- a node is named by the least of its cells
  pub least : (c : ℕ) → c < length cells → node_of cells c ≤ c
  pub named : (c : ℕ) → c < length cells → node_of cells (node_of cells c) ≡ node_of cells c
  -- there is one more behind each cell that names a node, and that node is one of all
  pub next : (c : ℕ) → count_below cells (c + 1) ≡ count_below cells c + cond (is_node cells c) 1 0
  pub few : (c : ℕ) → count_below cells c ≤ c
  pub room : (c : ℕ) → c < length cells → is_node cells c ≡ true → count_below cells c < length (nodes cells)
  -- the node at a place has this place
  pub placed : (i : ℕ) → i < length (nodes cells) → node_place cells (get_or (nodes cells) i 0) ≡ i
  pub within : (i : ℕ) → i < length (nodes cells) → get_or (nodes cells) i 0 < length cells
