-- What the search for numbers or a cycle finds.
use Rattle.std.specs.Prelude.{◌≡◌, ℕ, ◌*◌, ◌<◌, ℤ, ◌+ℤ◌, ◌≤ℤ◌, List, length}
use Rattle.df_cancel.specs.Rows.{at_row, step_at, StepsWithin, RowWithin}
use Rattle.df_cancel.specs.Cycles.{IsPositiveCycle}
use Rattle.df_cancel.specs.declared.step.Step.{Step}
use Rattle.df_cancel.specs.declared.trace.Found.{Found}
use Rattle.df_cancel.specs.declared.trace.Found.TheVariants.{Numbers, Cycle}

-- no step leads past the number of its end
abbrev pub Settles : List Step → List ℤ → Type 0
Settles steps numbers = (k : ℕ) → k < length steps → (at_row numbers (step_at steps k).from +ℤ (step_at steps k).count) ≤ℤ at_row numbers (step_at steps k).to

abbrev pub IsFound : ℕ → List Step → Found → Type 0
IsFound nodes steps (Numbers numbers) = (length numbers.items ≡ nodes) × Settles steps numbers.items × ((m : ℕ) → StepsWithin nodes m steps → RowWithin (nodes * m) numbers.items)
IsFound nodes steps (Cycle cycle) = IsPositiveCycle nodes steps cycle.items
