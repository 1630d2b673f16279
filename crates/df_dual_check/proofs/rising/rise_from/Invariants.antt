use Rattle.std.proofs.Common.{◌≡◌, ◌<◌, length}
use Rattle.df_cells.specs.Shifts.{back_over}
use Rattle.df_dual_check.proofs.Risen.{RisesBelow}
use Rattle.df_dual_check.proofs.rising.rise_from.Given as goal

abbrev pub invariant-loop : goal.invariant-loop
invariant-loop l = record {
  within : l.here.0 < length l.cells;
  at : l.here.0 ≡ back_over l.cells l.counter l.fn.from.0;
  so_far : RisesBelow l.cells l.counter l.fn.from.0;
}
