use Rattle.std.proofs.Common.{◌≡◌, ℕ, ◌+◌, ◌<◌, ◌<ℤ◌, length}
use Rattle.df_cancel.specs.Rows.{at_row}
use Rattle.df_cancel.specs.Cycles.{row_at, IsTable}
use Rattle.df_cancel.proofs.trace.search.Given as goal

abbrev pub invariant-loop-level : goal.invariant-loop-level
invariant-loop-level l = record {
  len : length l.rows.items ≡ l.level + 1;
  table : IsTable l.steps l.nodes l.rows.items;
  node : l.node < l.nodes;
  raised : (k : ℕ) → k + 1 ≡ l.level → at_row (row_at l.rows.items k) l.node <ℤ at_row (row_at l.rows.items l.level) l.node;
}
