-- Cycles of steps, and tables of rows.
use Rattle.std.specs.Prelude.{◌≡◌, ℕ, ◌+◌, ◌*◌, ◌<◌, ◌≤◌, ℤ, pos, ◌<ℤ◌, List, [], length, slice_index_or, Contains, map, Vec}
use Rattle.std.specs.declared.alloc.Global.{Global}
use Rattle.df_stages.specs.Sums.{int_sum_by}
use Rattle.df_cancel.specs.Rows.{step_at, StepsWithin, RowWithin, IsNextRow}
use Rattle.df_cancel.specs.declared.step.Step.{Step}

-- steps in reverse order, each beginning where the next one ends, that come back to their end, pass no node twice, and have a positive count
pub record IsPositiveCycle (nodes : ℕ) (steps cycle : List Step) : Type 0 where
  pub some : 0 < length cycle
  pub short : length cycle ≤ nodes
  pub taken : (k : ℕ) → k < length cycle → Contains steps (step_at cycle k)
  pub linked : (k : ℕ) → k + 1 < length cycle → (step_at cycle (k + 1)).to ≡ (step_at cycle k).from
  pub closed : (k : ℕ) → k + 1 ≡ length cycle → (step_at cycle k).from ≡ (step_at cycle 0).to
  pub apart : (j k : ℕ) → j < length cycle → k < length cycle → (step_at cycle j).to ≡ (step_at cycle k).to → j ≡ k
  pub positive : pos 0 <ℤ int_sum_by (λ s. s.count) cycle

-- a row of a table
abbrev pub row_at : List (Vec ℤ Global) → ℕ → List ℤ
row_at rows level = slice_index_or (map (λ row. row.items) rows) level []

-- each row but the first has the greatest counts of one more step than the row before
pub record IsTable (steps : List Step) (nodes : ℕ) (rows : List (Vec ℤ Global)) : Type 0 where
  pub len : (level : ℕ) → level < length rows → length (row_at rows level) ≡ nodes
  pub within : (m : ℕ) → StepsWithin nodes m steps → (level : ℕ) → level < length rows → RowWithin (level * m) (row_at rows level)
  pub next : (level : ℕ) → level + 1 < length rows → IsNextRow steps (row_at rows level) (row_at rows (level + 1))
