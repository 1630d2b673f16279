use Rattle.std.proofs.Common.{◌<◌, length, sym, subst}
use Rattle.std.specs.List.{AllByRecursion}
use Rattle.df_cells.specs.declared.cells.Cell.{Cell}
use Rattle.df_machine.proofs.Starts.{dests_within}
use Rattle.df_machine.proofs.store.all_first_awaited.Goals as goal

pub first_awaited-requires : goal.first_awaited-requires
first_awaited-requires c =
    subst (λ (x : Cell). AllByRecursion (λ d. d.cell.0 < length c.args.cells.now) x.dests) (sym c.get.ensures.cell) (dests_within c.args.cells.now c.loop-c.c c.requires)
