use Rattle.df_inline.proofs.TableReads.{with_entry}
use Rattle.df_inline.proofs.table.Table.set.Goals as goal

pub returns : goal.returns
returns c = with_entry c.args.self.now.entries c.bind.new.self c.args.name c.args.entry c.in_ok-bind.ensures.ok
