-- Ranks of the firings of labels of members: lists of numbers, compared at the first difference.
use Rattle.std.specs.Prelude.{◌≡◌, ◌<◌, ◌+◌, ◌*◌, ◌==◌, ◌&&◌, ◌||◌, ℕ, nat_lt, Bool, true, false, List, [], ◌∷◌}
use Rattle.std.specs.Prelude.{length, Some}
use Rattle.df_cells.specs.declared.cells.CellId.{CellId}
use Rattle.df_cells.specs.declared.cells.Dest.{Dest}
use Rattle.df_cells.specs.declared.cells.Cell.{Cell}
use Rattle.df_cells.specs.Cells.{producer_of}
use Rattle.df_labels.specs.Labels.{block_turn}
use Rattle.df_labels.specs.Members.{Labels, Pairs, TakesLoaded, turn_at}
use Rattle.df_stages.specs.Balance.{height}

-- the first difference tells which rank is lower; a rank that goes on is above one that it begins with
abbrev pub is_lower : List ℕ → List ℕ → Bool
is_lower [] [] = false
is_lower [] (b ∷ s) = true
is_lower (a ∷ r) [] = false
is_lower (a ∷ r) (b ∷ s) = nat_lt a b || ((a == b) && is_lower r s)

abbrev pub IsLower : List ℕ → List ℕ → Type 0
IsLower r s = is_lower r s ≡ true

-- Ranks of firings: what a firing waits for has a lower rank.
pub record HasRanks (cells : List Cell) (labels : Labels) (rank : ℕ → ℕ → List ℕ) : Type 0 where
  -- an earlier firing of the same cell
  pub rising : (c i j : ℕ) → i < j → j < length (labels c) → IsLower (rank c i) (rank c j)
  -- the firing that answers an operand
  pub operands : (d : Dest) (u : CellId) (i j : ℕ) → producer_of cells d ≡ Some u → Pairs cells labels d u.0 i j
      → IsLower (rank u.0 i) (rank d.cell.0 j)
  -- the firing that takes an answer of an earlier firing, and acknowledges it
  pub acknowledgements : (d : Dest) (u : CellId) (i j k : ℕ) → producer_of cells d ≡ Some u
      → Pairs cells labels d u.0 i j
      → i < k → k < length (labels u.0) → IsLower (rank d.cell.0 j) (rank u.0 k)
  -- the firing that takes what was loaded, and acknowledges that
  pub loads : (d : Dest) (u : CellId) (j k : ℕ) → producer_of cells d ≡ Some u → TakesLoaded cells labels d j
      → k < length (labels u.0)
      → IsLower (rank d.cell.0 j) (rank u.0 k)

-- the level of a firing, by the height of its cell and the turn of its block
abbrev pub level : List Cell → Labels → ℕ → ℕ → ℕ
level cells labels c i = height cells c + 2 * block_turn (turn_at labels c i)

-- and then the place of the cell in its loop
abbrev pub rank_of : List Cell → Labels → (ℕ → ℕ) → ℕ → ℕ → List ℕ
rank_of cells labels place c i = level cells labels c i ∷ place c ∷ []
