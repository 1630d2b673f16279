use Rattle.std.proofs.Common.{◌+◌, ◌≤◌, length}
use Rattle.df_trace.specs.Traces.{lines_of}
use Rattle.df_trace.proofs.Replays.{IsUnderWay}
use Rattle.df_trace.proofs.replay.replay.Given as goal

abbrev pub invariant-loop-line : goal.invariant-loop-line
invariant-loop-line l = IsUnderWay l.fn.t l.t (lines_of l.text) (lines_of l.rest) l.events × (l.events + length l.rest ≤ 4294967295)

abbrev pub decreases-loop-line : goal.decreases-loop-line
decreases-loop-line l = length l.rest
