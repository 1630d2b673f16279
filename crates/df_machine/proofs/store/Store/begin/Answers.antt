use Rattle.std.proofs.Common.{◌+◌, [], ap, ◌∙◌, arith}
use Rattle.df_cells.specs.declared.cells.Cell.{Cell}
use Rattle.df_cells.specs.Cells.{cell_at}
use Rattle.df_machine.specs.States.{told_count}
use Rattle.df_machine.specs.Events.{left, taken}
use Rattle.df_machine.specs.Seen.{state_of}
use Rattle.df_machine.proofs.Told.{read_at, fire_parts}
use Rattle.df_machine.proofs.store.Store.begin.Goals as goal

pub returns-clause-state : goal.returns-clause-state
returns-clause-state c =
    let row = read_at c.args.self.now.places.items c.args.cell c.index.result.now [] (omega arith) c.index.ensures in
    let count = read_at c.args.self.now.fired.items c.args.cell c.index-2.result.now 0 (omega arith) c.index-2.ensures in
    fire_parts c.args.cells.now (state_of c.args.self.now) c.args.cell c.left.result c.taken.result c.saturating_add.result _ c.requires.told
    (c.left.ensures ∙ ap (λ (x : Cell). left x c.index.result.now) c.get-it.ensures.cell ∙ ap (left (cell_at c.args.cells.now c.args.cell)) row)
    (c.taken.ensures ∙ ap (λ (x : Cell). taken x c.index.result.now) c.get-it.ensures.cell ∙ ap (taken (cell_at c.args.cells.now c.args.cell)) row)
    (c.saturating_add.ensures ∙ ap (λ n. told_count (n + 1)) count)
    c.push.ensures.packets
