use Rattle.std.proofs.Common.{◌≡◌, ◌++◌, All, map, take}
use Rattle.df_celltext.specs.CellText.{spaced, port_word}
use Rattle.df_celltext.specs.Writable.{IsWritableFeed}
use Rattle.df_celltext.proofs.writer.push_feeds.Given as goal

abbrev pub invariant-loop-feed : goal.invariant-loop-feed
invariant-loop-feed l = (l.text ≡ l.fn.text ++ spaced (map port_word (take l.feed-index l.feeds))) × All IsWritableFeed (take l.feed-index l.feeds)
