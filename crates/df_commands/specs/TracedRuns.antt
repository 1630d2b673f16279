-- What is known of a run that is to be traced.
use Rattle.std.specs.Prelude.{ℕ, List}
use Rattle.df_values.specs.declared.values.Value.{Value}
use Rattle.df_cells.specs.declared.cells.Cell.{Cell}

-- the cells, their inputs, and the choices of the run
pub record Traced : Type 0 where
  pub cells : List Cell
  pub inputs : List (List Value)
  pub choices : List ℕ
