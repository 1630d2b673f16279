use Rattle.std.proofs.Common.{◌≤◌, ◌*◌, ◌-◌}
use Rattle.df_lockstep.proofs.Locked.{LockedTo}
use Rattle.df_lockstep.proofs.phases.lockstep.Given as goal

abbrev pub invariant-loop-phases : goal.invariant-loop-phases
invariant-loop-phases l = LockedTo l.fn.t l.t l.phases l.events × (l.phases ≤ l.limit) × (l.events ≤ l.phases * 12884901885)

abbrev pub decreases-loop-phases : goal.decreases-loop-phases
decreases-loop-phases l = l.limit - l.phases
