-- Rows of counts, and what one more step makes of them.
use Rattle.std.specs.Prelude.{◌≡◌, ℕ, ◌<◌, ℤ, pos, neg_ℤ, ◌+ℤ◌, ◌≤ℤ◌, ◌<ℤ◌, List, length, slice_index_or, All, ◌⊎◌, Option, Some, None, false}
use Rattle.df_cancel.specs.declared.step.Step.{Step}

-- what a row has at a node
abbrev pub at_row : List ℤ → ℕ → ℤ
at_row row node = slice_index_or row node (pos 0)

abbrev pub no_step : Step
no_step = record { from = 0; to = 0; count = pos 0; arc = 0; forward = false }

abbrev pub step_at : List Step → ℕ → Step
step_at steps k = slice_index_or steps k no_step

-- each step is between nodes below n, and its count is from -m to m
abbrev pub StepsWithin : ℕ → ℕ → List Step → Type 0
StepsWithin n m steps = All (λ s. (s.from < n) × (s.to < n) × (neg_ℤ (pos m) ≤ℤ s.count) × (s.count ≤ℤ pos m)) steps

-- each count is from 0 to m
abbrev pub RowWithin : ℕ → List ℤ → Type 0
RowWithin m row = (node : ℕ) → (pos 0 ≤ℤ at_row row node) × (at_row row node ≤ℤ pos m)

-- a step leads from the count of its beginning to this count at its end
abbrev pub Leads : List ℤ → ℕ → ℤ → Step → Type 0
Leads row node count s = (s.to ≡ node) × (at_row row s.from +ℤ s.count ≡ count)

-- the greatest counts of walks of one more step at most
pub record IsNextRow (steps : List Step) (row next : List ℤ) : Type 0 where
  pub len : length next ≡ length row
  pub kept : (node : ℕ) → at_row row node ≤ℤ at_row next node
  pub passed : (k : ℕ) → k < length steps → (at_row row (step_at steps k).from +ℤ (step_at steps k).count) ≤ℤ at_row next (step_at steps k).to
  pub reached : (node : ℕ) → (at_row next node ≡ at_row row node) ⊎ ((k : ℕ) × (k < length steps) × Leads row node (at_row next node) (step_at steps k))

-- the rows are equal, or this node's count is greater
abbrev pub IsChanged : List ℤ → List ℤ → Option ℕ → Type 0
IsChanged row next None = next ≡ row
IsChanged row next (Some node) = (node < length row) × (at_row row node <ℤ at_row next node)
