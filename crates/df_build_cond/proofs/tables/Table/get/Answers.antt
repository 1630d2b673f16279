use Rattle.std.proofs.Common.{sym, ◌∙◌}
use Rattle.df_build_cond.proofs.Standing.{read_rows, read_others}
use Rattle.df_build_cond.proofs.tables.Table.get.Goals as goal

pub returns-in-Some : goal.returns-in-Some
returns-in-Some c = read_rows c.args.self.now c.args.number c.in-Some.cell (sym c.in-Some.is ∙ c.get.ensures)

pub returns-in-None : goal.returns-in-None
returns-in-None c = read_others c.args.self.now c.args.number c.copied.result (sym c.in-None.is ∙ c.get.ensures) (c.copied.ensures ∙ c.get-in-None.ensures.value)
