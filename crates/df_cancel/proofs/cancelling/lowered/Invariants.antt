use Rattle.std.proofs.Common.{◌≡◌, ℕ, ◌<◌, ◌≤ℤ◌, ◌-ℤ◌, length}
use Rattle.df_cancel.specs.Rows.{at_row}
use Rattle.df_cancel.proofs.cancelling.lowered.Given as goal

abbrev pub invariant-loop-i : goal.invariant-loop-i
invariant-loop-i l = record {
  below : (k : ℕ) → k < l.i → l.least ≤ℤ at_row l.numbers k;
  reached : (k : ℕ) × (k < length l.numbers) × (at_row l.numbers k ≡ l.least);
}

abbrev pub invariant-loop-j : goal.invariant-loop-j
invariant-loop-j l = record {
  len : length l.stages.items ≡ l.j;
  lower : (k : ℕ) → k < l.j → at_row l.stages.items k ≡ at_row l.numbers k -ℤ l.least;
}
