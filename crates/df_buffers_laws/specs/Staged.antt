-- The stages of cells with BUF cells on their arcs.
use Rattle.std.specs.Prelude.{◌≡◌, ◌+◌, ℕ, ◌<◌, ◌≤◌, ℤ, pos, List, length, Some}
use Rattle.df_cells.specs.declared.cells.CellId.{CellId}
use Rattle.df_cells.specs.declared.cells.Cell.{Cell}
use Rattle.df_cells.specs.Cells.{port_of, producer_of}
use Rattle.df_stages.specs.Skeletons.{node_place}
use Rattle.df_stages.specs.Balance.{stage_of}

-- an old cell has the number of its node, and a BUF cell a stage above that of what feeds it
pub record HasStages (old new : List Cell) (numbers : ℕ → ℤ) : Type 0 where
  pub cells : (c : ℕ) → c < length old → pos (stage_of new c) ≡ numbers (node_place old c)
  pub buffers : (b : ℕ) (u : CellId) → length old ≤ b → b < length new → producer_of new (port_of b 0) ≡ Some u
      → stage_of new b ≡ stage_of new u.0 + 1

-- the least stage is 0 if there is a cell
abbrev pub HasLowestStage : List Cell → Type 0
HasLowestStage cells = 0 < length cells → (c : ℕ) × (c < length cells) × (stage_of cells c ≡ 0)
