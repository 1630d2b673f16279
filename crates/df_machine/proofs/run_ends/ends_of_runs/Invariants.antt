use Rattle.std.proofs.Common.{◌≡◌, ◌+◌, ◌++◌, drop, length}
use Rattle.df_cells.specs.Kinds.{run_values}
use Rattle.df_machine.specs.RunEnds.{ends_from}
use Rattle.df_machine.proofs.run_ends.ends_of_runs.Given as goal

abbrev pub invariant-loop-run : goal.invariant-loop-run
invariant-loop-run l =
    (l.ends.items ++ ends_from l.end (drop l.run-index l.all) ≡ ends_from 0 l.all)
    × (l.end + length (run_values (drop l.run-index l.all)) ≡ length (run_values l.all))
