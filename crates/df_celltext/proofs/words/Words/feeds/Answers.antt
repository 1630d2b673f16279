-- One port after the other.
use Rattle.std.proofs.Common.{◌+◌, ◌-◌, sym, ap, ◌∙◌, arith}
use Rattle.df_celltext.specs.Reading.{with_front, feeds_at}
use Rattle.df_celltext.proofs.LoopLemmas.{feeds_more, feeds_wrong, feeds_missing, feeds_end}
use Rattle.df_celltext.proofs.words.Words.feeds.Goals as goal

pub returns-in_default : goal.returns-in_default
returns-in_default c =
    feeds_missing c.args.count c.loop-port._port c.loop-port.self c.loop-port.ports (feeds_at c.args.count c.args.self.now) (omega arith) c.loop-port.invariant c.in_default.ensures.0

pub returns-in_default-feed : goal.returns-in_default-feed
returns-in_default-feed c =
    feeds_wrong c.args.count c.loop-port._port c.loop-port.self c.next.new.self c.in-Some.word.now c.loop-port.ports (feeds_at c.args.count c.args.self.now) (omega arith) c.loop-port.invariant c.in-Some.ensures (sym c.in_default-feed.ensures)

pub loop-port-preserved : goal.loop-port-preserved
loop-port-preserved c =
    ap (λ front. with_front front (feeds_at (c.args.count - (c.loop-port._port + 1)) c.next.new.self)) c.in_ok-push.ensures.ok
    ∙ feeds_more c.args.count c.loop-port._port c.loop-port.self c.next.new.self c.in-Some.word.now c.in-Some-feed.feed c.loop-port.ports (feeds_at c.args.count c.args.self.now) (omega arith) c.loop-port.invariant c.in-Some.ensures (sym c.in-Some-feed.ensures)

pub returns : goal.returns
returns c = feeds_end c.args.count c.loop-port._port c.loop-port.self c.loop-port.ports (feeds_at c.args.count c.args.self.now) (omega arith) c.loop-port.invariant
