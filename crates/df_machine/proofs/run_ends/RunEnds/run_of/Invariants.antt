use Rattle.std.proofs.Common.{◌-◌, ◌<◌, ◌≤◌, get_or, length}
use Rattle.df_machine.proofs.run_ends.RunEnds.run_of.Given as goal

abbrev pub invariant-loop-low : goal.invariant-loop-low
invariant-loop-low l =
    (l.low ≤ l.high)
    × (l.high ≤ length l.self)
    × (0 < l.low → get_or l.self (l.low - 1) 0 ≤ l.turn)
    × (l.high < length l.self → l.turn < get_or l.self l.high 0)

abbrev pub decreases-loop-low : goal.decreases-loop-low
decreases-loop-low l = l.high - l.low
