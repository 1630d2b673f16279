use Rattle.std.proofs.Common.{ℕ, ◌<◌, pos, ◌≤ℤ◌}
use Rattle.df_cancel.specs.Rows.{at_row}
use Rattle.df_paths.proofs.checked.are_within.Given as goal

abbrev pub invariant-loop-i : goal.invariant-loop-i
invariant-loop-i l = (k : ℕ) → k < l.i → (pos 0 ≤ℤ at_row l.stages k) × (at_row l.stages k ≤ℤ pos l.top)
