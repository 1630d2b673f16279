use Rattle.std.proofs.Common.{◌≡◌, take}
use Rattle.std.specs.Prelude.{is_some}
use Rattle.std.specs.List.{count_by}
use Rattle.df_cells.specs.Cells.{loaded_at}
use Rattle.df_machine.proofs.store.first_awaited.Given as goal

abbrev pub invariant-loop-to : goal.invariant-loop-to
invariant-loop-to l = l.count ≡ count_by (λ d. is_some (loaded_at l.cells d)) (take l.to-index l.cell.dests)
