-- Cells, and the same cells with BUF cells on their arcs.
use Rattle.std.specs.Prelude.{◌≡◌, ℕ, ◌<◌, ◌≤◌, List, [], ◌∷◌, length, map, Some}
use Rattle.df_cells.specs.declared.cells.CellId.{CellId}
use Rattle.df_cells.specs.declared.cells.Cell.{Cell}
use Rattle.df_cells.specs.declared.cells.Dest.{Dest}
use Rattle.df_cells.specs.declared.cells.Feed.{Feed}
use Rattle.df_cells.specs.declared.cells.Feed.TheVariants.{Arc, Constant, Loaded}
use Rattle.df_cells.specs.declared.kinds.Kind.TheVariants as kind
use Rattle.df_cells.specs.Cells.{cell_at, producer_of}
use Rattle.df_cells.specs.Shifts.{origin, buffers_from}
use Rattle.df_labels.specs.Finishing.{ArcsWithin, HasNoBuffers}

-- a feed, with the cell from which it comes over BUF cells
abbrev pub over_buffers : List Cell → Feed → Feed
over_buffers cells (Arc u) = Arc (record { 0 = origin cells u.0 })
over_buffers cells (Constant v) = Constant v
over_buffers cells (Loaded u v) = Loaded (record { 0 = origin cells u.0 }) v

-- a cell feeds one port
pub record FeedsOne (cells : List Cell) (b : ℕ) : Type 0 where
  pub port : Dest
  pub fed : producer_of cells port ≡ Some (record { 0 = b })
  pub alone : (e : Dest) → producer_of cells e ≡ Some (record { 0 = b }) → e ≡ port

-- `new` are the cells `old`, which have no BUF cells, and behind them BUF cells on their arcs: `count` of each port.
pub record IsBuffered (old new : List Cell) (count : Dest → ℕ) : Type 0 where
  pub few : length old ≤ length new
  pub plain : HasNoBuffers old
  pub kinds : (c : ℕ) → c < length old → (cell_at new c).kind ≡ (cell_at old c).kind
  -- the same feeds, over BUF cells
  pub feeds : (c : ℕ) → c < length old → map (over_buffers new) (cell_at new c).ports ≡ (cell_at old c).ports
  pub counts : (d : Dest) (u : CellId) → d.cell.0 < length old → producer_of new d ≡ Some u
      → buffers_from new u.0 ≡ count d
  -- all others are BUF cells, each behind what feeds it, and none has a loaded value
  pub others : (b : ℕ) → length old ≤ b → b < length new → (cell_at new b).kind ≡ kind.Buf
  pub chains : (b : ℕ) → length old ≤ b → b < length new
      → (u : CellId) × ((cell_at new b).ports ≡ Arc u ∷ []) × (u.0 < b)
  pub within : ArcsWithin new
  -- each feeds one port, and stands on the arc to an old one
  pub ends : (b : ℕ) → length old ≤ b → b < length new → FeedsOne new b
  pub stands : (b : ℕ) → length old ≤ b → b < length new
      → (d : Dest) × (producer_of old d ≡ Some (record { 0 = origin new b }))
