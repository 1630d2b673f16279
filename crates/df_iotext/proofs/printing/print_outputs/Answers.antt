use Rattle.std.proofs.Common.{◌+◌, arith, rules}
use Rattle.df_iotext.proofs.PrintLemmas.{lines_more}
use Rattle.df_iotext.proofs.printing.print_outputs.Goals as goal

pub loop-k-preserved : goal.loop-k-preserved
loop-k-preserved c =
    lines_more c.args.outputs.now.lists c.loop-k.k (c.from.result + 1) c.stream.result.now c.loop-k.text c.push_result.new.text (omega arith) (omega arith) c.stream.ensures c.loop-k.invariant (search rules)
