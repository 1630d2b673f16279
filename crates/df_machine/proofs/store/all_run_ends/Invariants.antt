use Rattle.std.proofs.Common.{◌≡◌, map, take}
use Rattle.df_cells.specs.declared.cells.Cell.{Cell}
use Rattle.df_machine.specs.RunEnds.{ends_of}
use Rattle.df_machine.proofs.store.all_run_ends.Given as goal

abbrev pub invariant-loop-c : goal.invariant-loop-c
invariant-loop-c l = l.ends.items ≡ map (λ (cell : Cell). ends_of cell.kind) (take l.c l.cells)
