-- The places of the cells of a loop.
use Rattle.std.specs.Prelude.{◌≡◌, ◌≢◌, ◌⊎◌, ℕ, ◌+◌, ◌<◌, ◌==◌, cond, List, Some}
use Rattle.std.specs.List.{count_by}
use Rattle.df_cells.specs.declared.cells.CellId.{CellId}
use Rattle.df_cells.specs.declared.cells.Cell.{Cell}
use Rattle.df_cells.specs.declared.cells.Dest.{Dest}
use Rattle.df_cells.specs.Cells.{producer_of}
use Rattle.df_cells.specs.Paths.{mark_of}
use Rattle.df_labels.specs.Labels.{Labels, Pairs, block_turn, turn_at}

-- a value passes from firing i of u to firing j of v: turns are equal and the place rises, or the turn rises by one and the place falls
abbrev pub Proceeds : Labels → (ℕ → ℕ) → ℕ → ℕ → ℕ → ℕ → Type 0
Proceeds labels place u v i j =
    ((block_turn (turn_at labels v j) ≡ block_turn (turn_at labels u i)) × (place u < place v))
    ⊎ ((block_turn (turn_at labels v j) ≡ block_turn (turn_at labels u i) + 1) × (place v < place u))

-- how many cells are on the loop of a mark; a cell on no loop counts as one of its own
abbrev pub loop_size : List Cell → ℕ → ℕ
loop_size cells mark = cond (mark == 0) 1 (count_by (λ cell. cell.mark == mark) cells)

-- The cells of each loop have places in it.
pub record HasPlaces (cells : List Cell) (labels : Labels) : Type 0 where
  pub place : ℕ → ℕ
  -- each is below the size of the loop, and so 0 outside loops
  pub within : (c : ℕ) → place c < loop_size cells (mark_of cells c)
  -- on each arc of a loop over which values pass
  pub passing : (d : Dest) (u : CellId) (i j : ℕ) → producer_of cells d ≡ Some u → mark_of cells u.0 ≢ 0 → mark_of cells u.0 ≡ mark_of cells d.cell.0
      → Pairs cells labels d u.0 i j → Proceeds labels place u.0 d.cell.0 i j
