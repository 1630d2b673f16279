-- What the checker of least buffers tells.
use Rattle.std.specs.Prelude.{◌≡◌, ◌≢◌, ℕ, ◌+◌, ◌<◌, ◌⊎◌, pos, true, List, length, All, Some, slice_index_or}
use Rattle.df_cells.specs.declared.cells.CellId.{CellId}
use Rattle.df_cells.specs.declared.cells.Dest.{Dest}
use Rattle.df_cells.specs.declared.cells.Cell.{Cell}
use Rattle.df_cells.specs.Cells.{port_of, producer_of, is_buf}
use Rattle.df_cells.specs.Shifts.{back, back_over}
use Rattle.df_stages.specs.declared.skeleton.SkeletonArc.{SkeletonArc}
use Rattle.df_stages.specs.SkeletonLists.{SkeletonLists}
use Rattle.df_stages.specs.Nodes.{node_of}
use Rattle.df_stages.specs.Skeletons.{nodes, arcs, arc_at, buffers, skeleton_of, no_cell_id}
use Rattle.df_stages.specs.Carried.{Carries}
use Rattle.df_stages.specs.Flows.{arc_length, IsConservedAt, IsDualFlow, flow_value}
use Rattle.df_stages.specs.Balance.{stage_of, rise_of, IsBalanced, IsCertificate}
use Rattle.df_dual_check.specs.declared.answer.DualAnswer.{DualAnswer}
use Rattle.df_dual_check.specs.declared.answer.DualAnswer.TheVariants.{NotBalanced, BadFlow, NotEqual}

-- ---- arcs

-- a BUF cell is one stage above the cell that feeds it
abbrev pub Rises : List Cell → ℕ → Type 0
Rises cells b = stage_of cells b ≡ stage_of cells (back cells b) + 1

-- each BUF cell that is met on the way back from a cell rises
abbrev pub AllRise : List Cell → ℕ → Type 0
AllRise cells c = (n : ℕ) → is_buf cells (back_over cells n c) ≡ true → Rises cells (back_over cells n c)

-- each BUF cell on the arc into a port is one stage above the cell that feeds it
abbrev pub BuffersRise : List Cell → Dest → Type 0
BuffersRise cells d = (b : ℕ) → Carries cells d b → Rises cells b

-- From the cell at which an arc begins to the cell at which it ends the stage rises by its weight and its BUF cells, and they rise on it.
pub record IsBalancedAt (cells : List Cell) (arc : SkeletonArc) : Type 0 where
  pub long : (u : CellId) → producer_of cells arc.name ≡ Some u → rise_of cells arc u ≡ arc_length arc
  pub buffers : BuffersRise cells arc.name

-- the port that names the first arc on which they don't
abbrev pub IsFirstUnbalanced : List Cell → Dest → Type 0
IsFirstUnbalanced cells d = (i : ℕ) × (i < length (arcs cells)) × ((arc_at (arcs cells) i).name ≡ d)
    × (¬ IsBalancedAt cells (arc_at (arcs cells) i)) × ((j : ℕ) → j < i → IsBalancedAt cells (arc_at (arcs cells) j))

-- ---- cells in nodes

abbrev pub IsLevelAt : List Cell → ℕ → Type 0
IsLevelAt cells c = stage_of cells c ≡ stage_of cells (node_of cells c)

-- each cell has the stage of its node's least cell
abbrev pub IsLevel : List Cell → Type 0
IsLevel cells = (c : ℕ) → c < length cells → IsLevelAt cells c

-- the least cell that hasn't
abbrev pub IsFirstOff : List Cell → CellId → Type 0
IsFirstOff cells c = (c.0 < length cells) × (¬ IsLevelAt cells c.0) × ((d : ℕ) → d < c.0 → IsLevelAt cells d)

-- ---- flows

abbrev pub IsConserved : SkeletonLists → List ℕ → Type 0
IsConserved s flow = (node : ℕ) → node < length s.nodes → IsConservedAt s.arcs flow node

-- the least cell of the first node at which the flow isn't conserved
abbrev pub IsFirstUnconserved : SkeletonLists → List ℕ → CellId → Type 0
IsFirstUnconserved s flow c = (node : ℕ) × (node < length s.nodes) × (slice_index_or s.nodes node no_cell_id ≡ c)
    × (¬ IsConservedAt s.arcs flow node) × ((k : ℕ) → k < node → IsConservedAt s.arcs flow k)

-- ---- answers

-- the cells are balanced, and the flow certifies that their BUF cells are least
pub record IsCertified (cells : List Cell) (flow : List ℕ) : Type 0 where
  pub balanced : IsBalanced cells
  pub certificate : IsCertificate cells flow

-- each answer comes exactly for the first equation that fails
abbrev pub ShownWrong : List Cell → List ℕ → DualAnswer → Type 0
ShownWrong cells flow (NotBalanced d) = IsFirstUnbalanced cells d
    ⊎ (All (IsBalancedAt cells) (arcs cells) × (c : CellId) × IsFirstOff cells c × (d ≡ port_of c.0 0))
ShownWrong cells flow (BadFlow c) = IsBalanced cells × IsFirstUnconserved (skeleton_of cells) flow c
ShownWrong cells flow (NotEqual value count) = IsBalanced cells × IsDualFlow (length (nodes cells)) (arcs cells) flow
    × (value ≡ flow_value (arcs cells) flow) × (count ≡ buffers cells) × (value ≢ pos count)
