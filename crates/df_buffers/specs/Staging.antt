-- Tables of the stages of cells, and cells that are given them.
use Rattle.std.specs.Prelude.{◌≡◌, ◌+◌, ℕ, ◌<◌, ◌≤◌, ℤ, pos, ◌≤ℤ◌, List, get_or, length, Some}
use Rattle.df_cells.specs.declared.cells.CellId.{CellId}
use Rattle.df_cells.specs.declared.cells.Cell.{Cell}
use Rattle.df_cells.specs.Cells.{cell_at, port_of, producer_of}
use Rattle.df_stages.specs.Skeletons.{node_place}

-- a number that a cell may have as its stage, where BUF cells are still to come
abbrev pub IsStage : ℤ → Type 0
IsStage z = (pos 0 ≤ℤ z) × (z ≤ℤ pos 4000000000)

-- a table of the stages of the first c cells of a skeleton: each has the number of its node
pub record AreNodeStages (old : List Cell) (numbers : ℕ → ℤ) (c : ℕ) (table : List ℕ) : Type 0 where
  pub count : length table ≡ c
  pub each : (j : ℕ) → j < c → pos (get_or table j 0) ≡ numbers (node_place old j)
  pub small : (j : ℕ) → j < c → get_or table j 0 ≤ 4000000000

-- a cell is fed by an earlier one
abbrev pub IsBehind : List Cell → ℕ → Type 0
IsBehind cells b = (u : CellId) × (producer_of cells (port_of b 0) ≡ Some u) × (u.0 < b)

-- the first stages stay, and behind them come those of BUF cells, up to the cell c: one more than what feeds them
pub record AreBufferStages (cells : List Cell) (first : List ℕ) (c : ℕ) (table : List ℕ) : Type 0 where
  pub count : length table ≡ c
  pub begins : (j : ℕ) → j < length first → get_or table j 0 ≡ get_or first j 0
  pub each : (b : ℕ) (u : CellId) → length first ≤ b → b < c → producer_of cells (port_of b 0) ≡ Some u
      → get_or table b 0 ≡ get_or table u.0 0 + 1
  pub small : (j : ℕ) → j < c → get_or table j 0 ≤ 4000000000 + j

-- the same cells but for the stages of the first n, which are these
pub record StagedSoFar (old : List Cell) (stages : List ℕ) (n : ℕ) (new : List Cell) : Type 0 where
  pub count : length new ≡ length old
  pub staged : (c : ℕ) → c < n → cell_at new c ≡ record (cell_at old c) { stage = get_or stages c 0 }
  pub others : (c : ℕ) → n ≤ c → cell_at new c ≡ cell_at old c
