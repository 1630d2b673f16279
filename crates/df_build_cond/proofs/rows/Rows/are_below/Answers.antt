use Rattle.std.proofs.Common.{sym, ap, ◌∙◌}
use Rattle.std.specs.Option.{option_copied}
use Rattle.df_build_cond.proofs.RisingRows.{seen_above}
use Rattle.df_build_cond.proofs.rows.Rows.are_below.Goals as goal

pub returns-in-Some : goal.returns-in-Some
returns-in-Some c =
    seen_above c.args.self.now c.self.inside.numbers.items c.self.inside.cells.items c.deref.result.now c.args.number c.in-Some.last.now c.self.invariant (sym c.self.view_is)
    c.deref.ensures.value (sym c.last.ensures.value ∙ ap option_copied c.in-Some.is)
