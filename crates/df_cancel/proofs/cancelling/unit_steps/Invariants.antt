use Rattle.df_cancel.specs.Residuals.{AreUnitSteps}
use Rattle.df_cancel.proofs.cancelling.unit_steps.Given as goal

abbrev pub invariant-loop-i : goal.invariant-loop-i
invariant-loop-i l = AreUnitSteps l.arcs l.i l.steps.items
