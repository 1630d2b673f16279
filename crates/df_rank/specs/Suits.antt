-- How the arcs of loops lie to places, where only shifts are known.
use Rattle.std.specs.Prelude.{◌≡◌, ◌≢◌, ◌⊎◌, ℕ, ◌<◌, List, Some}
use Rattle.df_cells.specs.Shifts.{gate_part, merge_part}
use Rattle.df_cells.specs.declared.cells.CellId.{CellId}
use Rattle.df_cells.specs.declared.cells.Cell.{Cell}
use Rattle.df_cells.specs.declared.cells.Dest.{Dest}
use Rattle.df_cells.specs.Cells.{producer_of}
use Rattle.df_cells.specs.Paths.{mark_of}
use Rattle.df_labels.specs.Labels.{Labels, Pairs}

-- No gate on a loop leaves out a first value, and over the arc the turn
-- stays and the place rises, or the MERGE shifts it by one and the place falls, or no value passes at all.
abbrev pub SuitsShifts : List Cell → Labels → (ℕ → ℕ) → Type 0
SuitsShifts cells labels place = (d : Dest) (u : CellId) → producer_of cells d ≡ Some u → mark_of cells u.0 ≢ 0 → mark_of cells u.0 ≡ mark_of cells d.cell.0
    → ((gate_part cells u.0 ≡ 0) × (merge_part cells d ≡ 0) × (place u.0 < place d.cell.0))
    ⊎ (((gate_part cells u.0 ≡ 0) × (merge_part cells d ≡ 1) × (place d.cell.0 < place u.0))
    ⊎ ((i j : ℕ) → Pairs cells labels d u.0 i j → ⊥))
