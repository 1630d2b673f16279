use Rattle.std.proofs.Common.{arith}
use Rattle.std.proofs.lemmas.List.Elements.{All-more}
use Rattle.df_celltext.specs.CellText.{port_word}
use Rattle.df_celltext.specs.Writable.{IsWritableFeed}
use Rattle.df_celltext.proofs.MoreWords.{one_more_word}
use Rattle.df_celltext.proofs.writer.push_feeds.Goals as goal

pub loop-feed-preserved : goal.loop-feed-preserved
loop-feed-preserved c = (
  one_more_word port_word c.args.text.now c.loop-feed.text c.push_feed.new.text c.args.feeds.now c.loop-feed.feed-index _ (omega arith) c.loop-feed.invariant.0
      c.in_ok-push_feed.ensures.text,
  All-more IsWritableFeed c.args.feeds.now c.loop-feed.feed-index _ (omega arith) c.loop-feed.invariant.1 c.in_ok-push_feed.ensures.writable,
)
