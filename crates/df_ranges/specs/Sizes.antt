-- The sizes of whole numbers.
use Rattle.std.specs.Prelude.{ℕ, ℤ, ◌≤◌, Option, Some, None}
use borrow.Author.Differences.{up, down}

-- a whole number, if there is one, with at most so great an absolute value
abbrev pub Within : ℕ → Option ℤ → Type 0
Within n (Some a) = (up a ≤ n) × (down a ≤ n)
Within n None = Unit {0}
