use Rattle.std.proofs.Common.{◌≡◌, ◌*◌, ◌^◌, pos, neg_ℤ, ◌*ℤ◌, ◌≤ℤ◌, take, zip}
use Rattle.df_stages.specs.Sums.{int_sum_by}
use Rattle.df_dual_check.proofs.flows.value_of.Given as goal

abbrev pub invariant-loop-i : goal.invariant-loop-i
invariant-loop-i l = record {
  carried : l.carried ≡ int_sum_by (λ p. p.0.weight *ℤ pos p.1) (take l.i (zip l.arcs l.flow));
  weights : l.weights ≡ int_sum_by (λ arc. arc.weight) (take l.i l.arcs);
  carried_low : neg_ℤ (pos (2 ^ 95 * l.i)) ≤ℤ l.carried;
  carried_high : l.carried ≤ℤ pos (2 ^ 95 * l.i);
  weights_low : neg_ℤ (pos (2 ^ 63 * l.i)) ≤ℤ l.weights;
  weights_high : l.weights ≤ℤ pos (2 ^ 63 * l.i);
}
