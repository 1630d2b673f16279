use Rattle.df_inline.proofs.TableReads.{no_entries}
use Rattle.df_inline.proofs.table.Table.new.Goals as goal

pub returns : goal.returns
returns c = λ name. no_entries c.new.result name c.new.ensures
