use Rattle.std.proofs.Common.{sym}
use Rattle.df_build_cond.proofs.RisingRows.{seen_replaced, seen_misses}
use Rattle.df_build_cond.proofs.rows.Rows.set.Goals as goal

pub returns-in-Ok-clause-there : goal.returns-in-Ok-clause-there
returns-in-Ok-clause-there c =
    seen_replaced c.args.self.now c.self.inside.numbers.items c.self.inside.cells.items c.deref.result.now c.args.number c.in-Ok.place c.args.cell c.self.invariant (sym c.self.view_is)
    c.deref.ensures.value c.in-Ok.ensures.position

pub returns-in-Err-clause-away : goal.returns-in-Err-clause-away
returns-in-Err-clause-away c =
    seen_misses c.args.self.now c.self.inside.numbers.items c.self.inside.cells.items c.deref.result.now c.args.number c.in-Err.field-0 c.self.invariant (sym c.self.view_is)
    c.deref.ensures.value c.in-Err.ensures.position
