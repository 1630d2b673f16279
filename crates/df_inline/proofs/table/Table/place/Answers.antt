use Rattle.std.proofs.Common.{sym, ◌∙◌, ap}
use Rattle.df_inline.specs.Tables.{entry_place}
use Rattle.df_inline.proofs.table.Table.place.Goals as goal

pub returns-in-Some : goal.returns-in-Some
returns-in-Some c = ap entry_place (sym c.in-Some.is ∙ c.get.ensures)

pub returns-in-None : goal.returns-in-None
returns-in-None c = ap entry_place (sym c.in-None.is ∙ c.get.ensures)
