use Rattle.df_inline.specs.Tables.{entry_in}
use Rattle.df_inline.proofs.table.Table.get.Goals as goal

pub returns : goal.returns
unfolding entry_in
returns c = c.get.ensures
