use Rattle.std.proofs.Common.{ℕ, ◌<◌}
use Rattle.df_cells.specs.WellFormed.{LoadsLoops}
use Rattle.df_wellformed.proofs.loads.load_failure.Given as goal

abbrev pub invariant-loop-c : goal.invariant-loop-c
invariant-loop-c l = (b : ℕ) → b < l.c → LoadsLoops l.cells b
