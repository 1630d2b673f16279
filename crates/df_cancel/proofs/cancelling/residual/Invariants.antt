use Rattle.std.proofs.Common.{length}
use Rattle.df_cancel.specs.Residuals.{IsResidual}
use Rattle.df_cancel.proofs.cancelling.residual.Given as goal

abbrev pub invariant-loop-ahead : goal.invariant-loop-ahead
invariant-loop-ahead l = IsResidual l.arcs l.flow l.ahead 0 l.steps.items

abbrev pub invariant-loop-back : goal.invariant-loop-back
invariant-loop-back l = IsResidual l.arcs l.flow (length l.arcs) l.back l.steps.items
