use Rattle.std.proofs.Common.{ℕ, ◌<◌}
use Rattle.df_cancel.specs.Rows.{Leads, step_at}
use Rattle.df_cancel.proofs.trace.step_into.Given as goal

abbrev pub invariant-loop-step : goal.invariant-loop-step
invariant-loop-step l = (k : ℕ) → k < l.step-index → Leads l.row l.node l.count (step_at l.steps k) → ⊥
