use Rattle.std.proofs.Common.{◌≡◌, ◌++◌, replicate}
use Rattle.df_buffers_laws.specs.Insertions.{natural}
use Rattle.df_buffers.proofs.excesses.push_copies.Given as goal

abbrev pub invariant-loop-left : goal.invariant-loop-left
invariant-loop-left l =
    l.ports.items ++ replicate (natural l.left) l.port ≡ l.fn.ports.items ++ replicate (natural l.count) l.port

abbrev pub decreases-loop-left : goal.decreases-loop-left
decreases-loop-left l = natural l.left
