-- One destination after the other.
use Rattle.std.proofs.Common.{sym, ap, ◌∙◌}
use Rattle.df_celltext.specs.Reading.{with_front, dests_at}
use Rattle.df_celltext.proofs.LoopLemmas.{dests_more, dests_wrong, dests_end}
use Rattle.df_celltext.proofs.words.Words.dests.Goals as goal

pub returns-in_default-dest : goal.returns-in_default-dest
returns-in_default-dest c =
    dests_wrong c.loop-word.self c.next.new.self c.in-Some.word.now c.loop-word.dests (dests_at c.args.self.now) c.loop-word.invariant c.in-Some.ensures (sym c.in_default-dest.ensures)

pub loop-word-preserved : goal.loop-word-preserved
loop-word-preserved c =
    ap (λ front. with_front front (dests_at c.next.new.self)) c.in_ok-push.ensures.ok
    ∙ dests_more c.loop-word.self c.next.new.self c.in-Some.word.now c.in-Some-dest.dest c.loop-word.dests (dests_at c.args.self.now) c.loop-word.invariant c.in-Some.ensures (sym c.in-Some-dest.ensures)

pub returns : goal.returns
returns c = dests_end c.loop-word.self c.next.new.self c.loop-word.dests (dests_at c.args.self.now) c.loop-word.invariant c.in_default.ensures.0 c.in_default.ensures.1
