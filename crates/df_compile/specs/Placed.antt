-- What is made of the cells of a skeleton by a balance, and why nothing is.
use Rattle.std.specs.Prelude.{◌≡◌, ℕ, ℤ, pos, ◌+ℤ◌, ◌<ℤ◌, List, length}
use Rattle.df_cells.specs.declared.cells.Cell.{Cell}
use Rattle.df_cells.specs.Cells.{inputs_of}
use Rattle.df_cells.specs.WellFormed.{WellFormed}
use Rattle.df_stages.specs.Balance.{IsBalanced, IsLeast, IsCertificate}
use Rattle.df_stages.specs.Flows.{Respects, total_excess}
use Rattle.df_stages.specs.Skeletons.{arcs}
use Rattle.df_labels.specs.Graphs.{graph_of}
use Rattle.df_labels.specs.ForAll.{MeaningForAll, RealizesForAll}
use Rattle.df_buffers_laws.specs.HasSkeleton.{HasSkeleton}
use Rattle.df_buffers_laws.specs.Staged.{HasLowestStage}

-- the most cells with all BUF cells
abbrev pub most_cells : ℕ
most_cells = 65_536

-- The new cells are the old ones with BUF cells: balanced, with least buffers, from stage 0 on; the flow certifies them; and they
-- realize what the old ones do.
pub record IsFilled (old new : List Cell) (flow : List ℕ) : Type 0 where
  pub skeleton : HasSkeleton new (graph_of old)
  pub well_formed : WellFormed new
  pub inputs : inputs_of new ≡ inputs_of old
  pub balanced : IsBalanced new
  pub least : IsLeast new
  pub lowest : HasLowestStage new
  pub certificate : IsCertificate new flow
  pub realized : (meaning : MeaningForAll) → RealizesForAll old meaning → RealizesForAll new meaning

-- however the nodes are numbered, the cells and the BUF cells that this wants are too many
abbrev pub IsOver : List Cell → Type 0
IsOver cells = (numbers : ℕ → ℤ) → Respects numbers (arcs cells) → pos most_cells <ℤ (pos (length cells) +ℤ total_excess numbers (arcs cells))
