-- The least cells of nodes.
use Rattle.std.proofs.Common.{◌≡◌, ℕ, ◌<◌, List, length, map, get_or, ap, ◌∙◌}
use Rattle.std.proofs.lemmas.List.{get_or-map}
use Rattle.df_cells.specs.declared.cells.CellId.{CellId}
use Rattle.df_cells.specs.declared.cells.Cell.{Cell}
use Rattle.df_stages.specs.Nodes.{node_of}
use Rattle.df_stages.specs.Skeletons.{nodes, cell_id, no_cell_id, least_of, least_cells}
use Rattle.df_stages.proofs.Places.{entry, entries}

-- the cell that names a node
pub named_cell : (cells : List Cell) (names : List CellId) (place : ℕ) → names ≡ map cell_id (nodes cells) → place < length (nodes cells) → (get_or names place no_cell_id).0 ≡ get_or (nodes cells) place 0
named_cell cells names place is within =
    ap (λ (l : List CellId). (get_or l place no_cell_id).0) is ∙ ap (λ (c : CellId). c.0) (get_or-map cell_id (nodes cells) place 0 no_cell_id within)

pub least_is : (cells : List Cell) (least : List CellId) (c : ℕ) → least ≡ least_cells cells → c < length cells → (get_or least c no_cell_id).0 ≡ node_of cells c
least_is cells least c is within = ap (λ (k : CellId). k.0) (entry (least_of cells) (length cells) c least no_cell_id is within)

pub least_long : (cells : List Cell) (least : List CellId) → least ≡ least_cells cells → length least ≡ length cells
least_long cells least is = entries (least_of cells) (length cells) least is
