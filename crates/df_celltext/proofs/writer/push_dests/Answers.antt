use Rattle.std.proofs.Common.{arith}
use Rattle.std.proofs.lemmas.List.Elements.{All-more}
use Rattle.df_celltext.specs.CellText.{dest_word}
use Rattle.df_celltext.specs.Writable.{IsWritableDest}
use Rattle.df_celltext.proofs.MoreWords.{one_more_word}
use Rattle.df_celltext.proofs.writer.push_dests.Goals as goal

pub loop-dest-preserved : goal.loop-dest-preserved
loop-dest-preserved c = (
  one_more_word dest_word c.args.text.now c.loop-dest.text c.push_dest.new.text c.args.dests.now c.loop-dest.dest-index _ (omega arith) c.loop-dest.invariant.0
      c.in_ok-push_dest.ensures.text,
  All-more IsWritableDest c.args.dests.now c.loop-dest.dest-index _ (omega arith) c.loop-dest.invariant.1 c.in_ok-push_dest.ensures.writable,
)
