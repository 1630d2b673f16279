-- Numbers less the least of them.
use Rattle.std.specs.Prelude.{◌≡◌, ℕ, ◌<◌, ℤ, ◌-ℤ◌, ◌≤ℤ◌, List, length}
use Rattle.df_cancel.specs.Rows.{at_row}

-- all numbers less one of them that is least
pub record IsLowered (numbers stages : List ℤ) : Type 0 where
  pub len : length stages ≡ length numbers
  pub least : ℤ
  pub lower : (k : ℕ) → k < length numbers → at_row stages k ≡ at_row numbers k -ℤ least
  pub below : (k : ℕ) → k < length numbers → least ≤ℤ at_row numbers k
  pub reached : 0 < length numbers → (k : ℕ) × (k < length numbers) × (at_row numbers k ≡ least)
