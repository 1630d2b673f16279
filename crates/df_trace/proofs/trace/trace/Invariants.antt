use Rattle.std.proofs.Common.{List, ℕ, IsTrue, length}
use Rattle.df_io.specs.Faults.{HasSinkCause}
use Rattle.df_trace.specs.Tracing.{IsMoved}
use Rattle.df_trace.proofs.Traced.{IsTraced}
use Rattle.df_trace.proofs.trace.trace.Given as goal

abbrev pub invariant-loop-event : goal.invariant-loop-event
invariant-loop-event g l =
    ((text : List ℕ) × IsTraced l.fn.t l.t (g.C.Chooser.left l.fn.chooser) (g.C.Chooser.left l.chooser) text
    × (IsTrue g.K.Sink.tells → IsMoved text l.waiting (g.K.Sink.written l.fn.out) (g.K.Sink.written l.out)))
    × HasSinkCause ⊥ (g.K.Sink.faults l.fn.out) (g.K.Sink.faults l.out)

abbrev pub decreases-loop-event : goal.decreases-loop-event
decreases-loop-event g l = length (g.C.Chooser.left l.chooser)
