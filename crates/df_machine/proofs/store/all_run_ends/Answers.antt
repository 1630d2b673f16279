use Rattle.std.proofs.Common.{ap, ◌∙◌, sym}
use Rattle.df_cells.specs.declared.cells.Cell.{Cell}
use Rattle.df_cells.specs.Kinds.{limit}
use Rattle.df_machine.proofs.store.all_run_ends.Goals as goal

pub of-requires : goal.of-requires
of-requires c = λ m is. c.requires.short c.loop-c.c m (sym (ap (λ (x : Cell). limit x.kind) c.get.ensures.cell) ∙ is)
