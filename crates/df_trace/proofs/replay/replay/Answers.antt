use Rattle.std.proofs.Common.{arith}
use Rattle.df_trace.specs.Traces.{lines_of}
use Rattle.df_trace.proofs.Replays.{one_line_more}
use Rattle.df_trace.proofs.replay.replay.Goals as goal

pub loop-line-preserved : goal.loop-line-preserved
loop-line-preserved c =
    let w = c.loop-line.invariant in (
      one_line_more c.args.t.now c.loop-line.t c.step-event.new.self (lines_of c.args.text.now) (lines_of c.loop-line.rest.now) (lines_of c.in-Some.behind.now) c.loop-line.events c.in-Some-choice_of.choice
          c.in-Some.line.now w.0 c.in-Some.ensures.line c.in-Some-choice_of.ensures.led c.step-event.ensures.state c.step-event.ensures.reached,
      omega (arith, w.1, c.in-Some.ensures.shorter),
    )
