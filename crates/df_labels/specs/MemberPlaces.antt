-- The places of the cells of a loop, by labels of members.
use Rattle.std.specs.Prelude.{◌≡◌, ◌≢◌, ℕ, ◌+◌, ◌<◌, ◌⊎◌, List, length, Some, None}
use Rattle.std.specs.List.{AllByRecursion}
use Rattle.df_cells.specs.declared.cells.CellId.{CellId}
use Rattle.df_cells.specs.declared.cells.Cell.{Cell}
use Rattle.df_cells.specs.declared.cells.Dest.{Dest}
use Rattle.df_cells.specs.Cells.{producer_of, loaded_at}
use Rattle.df_cells.specs.Paths.{mark_of}
use Rattle.df_labels.specs.Labels.{block_turn}
use Rattle.df_labels.specs.Members.{Labels, Pairs, turn_at}

-- a member passes from firing i of u to firing j of v: turns are equal and the place rises, or the turn rises by one
-- and the place falls
abbrev pub Proceeds : Labels → (ℕ → ℕ) → ℕ → ℕ → ℕ → ℕ → Type 0
Proceeds labels place u v i j =
    ((block_turn (turn_at labels v j) ≡ block_turn (turn_at labels u i)) × (place u < place v))
    ⊎ ((block_turn (turn_at labels v j) ≡ block_turn (turn_at labels u i) + 1) × (place v < place u))

-- The cells of each loop have places in it.
pub record HasPlaces (cells : List Cell) (labels : Labels) : Type 0 where
  pub place : ℕ → ℕ
  -- a turn is one number
  pub single : (c : ℕ) → AllByRecursion (λ f. length f.turn ≡ 1) (labels c)
  -- on each arc of a loop over which members pass
  pub passing : (d : Dest) (u : CellId) (i j : ℕ) → producer_of cells d ≡ Some u → mark_of cells u.0 ≢ 0
      → mark_of cells u.0 ≡ mark_of cells d.cell.0
      → Pairs cells labels d u.0 i j → Proceeds labels place u.0 d.cell.0 i j
  -- no value is loaded
  pub unloaded : (d : Dest) → loaded_at cells d ≡ None
