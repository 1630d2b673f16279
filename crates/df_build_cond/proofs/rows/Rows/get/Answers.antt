use Rattle.std.proofs.Common.{sym}
use Rattle.df_build_cond.proofs.RisingRows.{seen_finds, seen_misses}
use Rattle.df_build_cond.proofs.rows.Rows.get.Goals as goal

pub returns-in-Ok : goal.returns-in-Ok
returns-in-Ok c =
    seen_finds c.args.self.now c.self.inside.numbers.items c.self.inside.cells.items c.deref.result.now c.args.number c.in-Ok.place c.index.result.now c.self.invariant (sym c.self.view_is)
    c.deref.ensures.value c.in-Ok.ensures.position c.index.ensures

pub returns-in-Err : goal.returns-in-Err
returns-in-Err c = sym
    (seen_misses c.args.self.now c.self.inside.numbers.items c.self.inside.cells.items c.deref.result.now c.args.number c.in-Err.field-0 c.self.invariant (sym c.self.view_is)
    c.deref.ensures.value c.in-Err.ensures.position)
