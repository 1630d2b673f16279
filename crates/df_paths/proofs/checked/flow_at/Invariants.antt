use Rattle.std.proofs.Common.{◌≡◌, ◌*◌, ◌^◌, ◌≤◌, take, sum_by, get_or}
use Rattle.df_paths.proofs.checked.flow_at.Given as goal

abbrev pub invariant-loop-i : goal.invariant-loop-i
invariant-loop-i l = record {
  sum : l.sum ≡ sum_by (λ i. get_or l.flow i 0) (take l.i-index l.places);
  small : l.sum ≤ 2 ^ 32 * l.i-index;
}
