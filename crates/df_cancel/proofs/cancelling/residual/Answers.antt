use Rattle.std.proofs.Common.{length}
use Rattle.df_cancel.proofs.Residues.{more_forward, more_backward, skip_backward}
use Rattle.df_cancel.proofs.cancelling.residual.Goals as goal
use Rattle.df_cancel.proofs.cancelling.residual.Goals.{then-flow-back-gt0+in_ok-push-2, else-flow-back-gt0}

pub loop-ahead-preserved : goal.loop-ahead-preserved
loop-ahead-preserved c =
    rw (c.in_ok-push.ensures.items, c.step_forward.ensures) (more_forward c.args.arcs.now c.args.flow.now c.loop-ahead.ahead 0 c.loop-ahead.steps.items c.loop-ahead.invariant c.loop-ahead-test.true)

pub loop-back-preserved : goal.loop-back-preserved
loop-back-preserved c =
    elim c.if-flow-back-gt0.branch [
      | then-flow-back-gt0+in_ok-push-2 w ↦
          rw (w.steps-is, w.in_ok-push-2.ensures.items, w.step_backward.ensures) (more_backward c.args.arcs.now c.args.flow.now (length c.args.arcs.now) c.loop-back.back c.loop-back.steps.items c.loop-back.invariant c.loop-back-test.true w.if-flow-back-gt0.true)
      | else-flow-back-gt0 w ↦
          rw w.steps-is (skip_backward c.args.arcs.now c.args.flow.now (length c.args.arcs.now) c.loop-back.back c.loop-back.steps.items c.loop-back.invariant w.if-flow-back-gt0.false)
    ]
