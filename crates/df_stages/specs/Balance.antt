-- Balanced cells, least buffers, and the certificate that shows both.
use Rattle.std.specs.Prelude.{◌≡◌, ℕ, ◌+◌, ◌*◌, ◌<◌, ℤ, pos, ◌-ℤ◌, ◌≤ℤ◌, cond, true, List, length, get_or, Some}
use Rattle.df_cells.specs.declared.cells.CellId.{CellId}
use Rattle.df_cells.specs.declared.cells.Cell.{Cell}
use Rattle.df_cells.specs.Cells.{cell_at, port_of, producer_of}
use Rattle.df_cells.specs.Cells.{is_buf}
use Rattle.df_cells.specs.Shifts.{origin, gate_part}
use Rattle.df_stages.specs.declared.skeleton.SkeletonArc.{SkeletonArc}
use Rattle.df_stages.specs.Nodes.{node_of}
use Rattle.df_stages.specs.Skeletons.{nodes, arcs, buffers}
use Rattle.df_stages.specs.Flows.{AreBalancedArcs, Respects, total_excess, IsDualFlow, flow_value}

abbrev pub stage_of : List Cell → ℕ → ℕ
stage_of cells c = (cell_at cells c).stage

-- the stage of a cell; behind a gate, a BUF cell counts twice what the gate leaves out
abbrev pub height : List Cell → ℕ → ℕ
height cells c = stage_of cells c + cond (is_buf cells c) (2 * gate_part cells (origin cells c)) 0

-- the stages of the nodes, by their places: that of a node is that of its least cell
abbrev pub node_stages : List Cell → ℕ → ℤ
node_stages cells place = pos (stage_of cells (get_or (nodes cells) place 0))

-- the stages of the cells between which an arc leads: that of its port, and the one at which it begins, over its BUF cells
abbrev pub rise_of : List Cell → SkeletonArc → CellId → ℤ
rise_of cells arc u = pos (stage_of cells arc.name.cell.0) -ℤ pos (stage_of cells (origin cells u.0))

-- On each arc between nodes the stage rises by the weight and the BUF cells, from the cell that feeds a BUF cell to it by one,
-- and within a node not at all.
pub record IsBalanced (cells : List Cell) : Type 0 where
  pub arcs : AreBalancedArcs (node_stages cells) (arcs cells)
  pub buffers : (b : ℕ) (u : CellId) → is_buf cells b ≡ true → producer_of cells (port_of b 0) ≡ Some u → stage_of cells b ≡ stage_of cells u.0 + 1
  pub nodes : (c : ℕ) → c < length cells → stage_of cells c ≡ stage_of cells (node_of cells c)

-- for no numbering of the nodes that respects the weights is the sum of the excesses below the number of BUF cells
abbrev pub IsLeast : List Cell → Type 0
IsLeast cells = (numbers : ℕ → ℤ) → Respects numbers (arcs cells) → pos (buffers cells) ≤ℤ total_excess numbers (arcs cells)

-- a dual flow of the skeleton whose value is the number of BUF cells
pub record IsCertificate (cells : List Cell) (flow : List ℕ) : Type 0 where
  pub dual : IsDualFlow (length (nodes cells)) (arcs cells) flow
  pub value : flow_value (arcs cells) flow ≡ pos (buffers cells)
