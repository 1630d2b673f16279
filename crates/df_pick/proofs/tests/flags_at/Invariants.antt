use Rattle.std.proofs.Common.{◌≡◌, length}
use Rattle.df_pick.proofs.tests.flags_at.Given as goal

abbrev pub invariant-loop-place : goal.invariant-loop-place
invariant-loop-place l = length l.picks ≡ l.flags
