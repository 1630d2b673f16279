use Rattle.df_build_cond.proofs.Standing.{no_entries}
use Rattle.df_build_cond.proofs.tables.Table.new.Goals as goal

pub returns : goal.returns
returns c = no_entries c.new.result c.new-2.result c.new.ensures c.new-2.ensures.empty
