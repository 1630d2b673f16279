-- One run after the other.
use Rattle.std.proofs.Common.{[], sym, ap, ◌∙◌}
use Rattle.df_celltext.specs.Reading.{with_front, runs_at}
use Rattle.df_celltext.proofs.LoopLemmas.{runs_more, runs_wrong, runs_done, runs_end}
use Rattle.df_celltext.proofs.words.Words.runs.Goals as goal

pub returns-then-is : goal.returns-then-is
returns-then-is c =
    runs_done c.loop-word.last.now c.loop-word.self c.next.new.self c.in-Some.word.now c.loop-word.runs (runs_at [] c.args.self.now) c.loop-word.invariant c.in-Some.ensures (sym c.if-is.ensures)

pub returns-in_default-run : goal.returns-in_default-run
returns-in_default-run c =
    runs_wrong c.loop-word.last.now c.loop-word.self c.next.new.self c.in-Some.word.now c.loop-word.runs (runs_at [] c.args.self.now) c.loop-word.invariant c.in-Some.ensures (sym c.if-is.ensures) c.in_default-run.ensures

pub loop-word-preserved : goal.loop-word-preserved
loop-word-preserved c =
    ap (λ front. with_front front (runs_at c.in-Some-run.spelling.now c.next.new.self)) c.in_ok-push.ensures.ok
    ∙ runs_more c.loop-word.last.now c.loop-word.self c.next.new.self c.in-Some.word.now c.in-Some-run.spelling.now c.in-Some-run.run' c.loop-word.runs (runs_at [] c.args.self.now) c.loop-word.invariant c.in-Some.ensures (sym c.if-is.ensures) c.in-Some-run.ensures

pub returns : goal.returns
returns c = runs_end c.loop-word.last.now c.loop-word.self c.loop-word.runs (runs_at [] c.args.self.now) c.loop-word.invariant c.in_default.ensures.0
