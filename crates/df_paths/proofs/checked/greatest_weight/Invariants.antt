use Rattle.std.proofs.Common.{ℕ, ◌≤◌}
use Rattle.df_stages.specs.Skeletons.{WeightsWithin}
use Rattle.df_paths.proofs.checked.greatest_weight.Given as goal

abbrev pub invariant-loop-i : goal.invariant-loop-i
invariant-loop-i l = record {
  bound : l.greatest ≤ 131071;
  least : (m : ℕ) → WeightsWithin m l.arcs → l.greatest ≤ m;
}
