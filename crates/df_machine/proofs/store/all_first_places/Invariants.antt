use Rattle.std.proofs.Common.{◌≡◌, map, take}
use Rattle.df_machine.specs.States.{first_places}
use Rattle.df_machine.proofs.store.all_first_places.Given as goal

abbrev pub invariant-loop-c : goal.invariant-loop-c
invariant-loop-c l = l.places.items ≡ map first_places (take l.c l.cells)
