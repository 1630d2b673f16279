use Rattle.std.proofs.Common.{◌≡◌, ◌*◌, ◌^◌, pos, neg_ℤ, ◌≤ℤ◌, take}
use Rattle.df_cancel.specs.Balances.{numbered}
use Rattle.df_stages.specs.Flows.{total_excess}
use Rattle.df_buffers.proofs.excesses.total_excess.Given as goal

abbrev pub invariant-loop-arc : goal.invariant-loop-arc
invariant-loop-arc l = record {
  sum : l.sum ≡ total_excess (numbered l.stages) (take l.arc-index l.arcs);
  low : neg_ℤ (pos (2 ^ 66 * l.arc-index)) ≤ℤ l.sum;
  high : l.sum ≤ℤ pos (2 ^ 66 * l.arc-index);
}
