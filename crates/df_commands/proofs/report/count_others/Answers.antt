use Rattle.df_commands.proofs.Buffers.{others_left}
use Rattle.df_commands.proofs.report.count_others.Goals as goal

pub returns : goal.returns
returns c = others_left c.args.cells.now c.len.result c.count_buffers.result c.len.ensures.count c.count_buffers.ensures
