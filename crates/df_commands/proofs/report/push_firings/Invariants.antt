use Rattle.std.proofs.Common.{◌≡◌, ◌++◌, take}
use Rattle.df_commands.specs.Reports.{spaced_counts}
use Rattle.df_commands.proofs.report.push_firings.Given as goal

abbrev pub invariant-loop-cell : goal.invariant-loop-cell
invariant-loop-cell l = l.text ≡ l.fn.text ++ spaced_counts (take l.cell l.machine.state.fired)
