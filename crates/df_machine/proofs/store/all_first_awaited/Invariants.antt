use Rattle.std.proofs.Common.{◌≡◌, map, take}
use Rattle.df_machine.specs.States.{first_awaited}
use Rattle.df_machine.proofs.store.all_first_awaited.Given as goal

abbrev pub invariant-loop-c : goal.invariant-loop-c
invariant-loop-c l = l.awaited.items ≡ map (first_awaited l.cells) (take l.c l.cells)
