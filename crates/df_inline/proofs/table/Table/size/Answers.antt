use Rattle.std.proofs.Common.{sym, ◌∙◌, ap}
use Rattle.df_inline.specs.Tables.{entry_size}
use Rattle.df_inline.proofs.Saturated.{nothing_saturated}
use Rattle.df_inline.proofs.table.Table.size.Goals as goal

pub returns-in-Some : goal.returns-in-Some
returns-in-Some c = ap entry_size (sym c.in-Some.is ∙ c.get.ensures)

pub returns-in-None : goal.returns-in-None
returns-in-None c = c.nothing.ensures ∙ (nothing_saturated ∙ ap entry_size (sym c.in-None.is ∙ c.get.ensures))
