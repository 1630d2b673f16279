use Rattle.std.proofs.Common.{◌≡◌, take}
use Rattle.std.specs.List.{sum_by}
use Rattle.df_machine.specs.Flights.{cell_room}
use Rattle.df_machine.proofs.store.packets_at_most.Given as goal

abbrev pub invariant-loop-c : goal.invariant-loop-c
invariant-loop-c l = l.room ≡ sum_by cell_room (take l.c l.cells)
