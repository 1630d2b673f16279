use Rattle.std.proofs.Common.{ℕ, ◌<◌}
use Rattle.df_dual_check.specs.Checked.{IsLevelAt}
use Rattle.df_dual_check.proofs.staged.first_off.Given as goal

abbrev pub invariant-loop-c : goal.invariant-loop-c
invariant-loop-c l = (d : ℕ) → d < l.c → IsLevelAt l.cells d
