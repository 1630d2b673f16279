use Rattle.df_cancel.proofs.Ranks.{units_push}
use Rattle.df_cancel.proofs.cancelling.unit_steps.Goals as goal

pub loop-i-preserved : goal.loop-i-preserved
loop-i-preserved c = rw (c.in_ok-push.ensures.items, c.unit_along.ensures) (units_push c.args.arcs.now c.loop-i.i c.loop-i.steps.items c.loop-i.invariant)
