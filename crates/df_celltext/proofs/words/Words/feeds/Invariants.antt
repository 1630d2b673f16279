use Rattle.std.proofs.Common.{◌≡◌, ◌-◌}
use Rattle.df_celltext.specs.Reading.{with_front, feeds_at}
use Rattle.df_celltext.proofs.words.Words.feeds.Given as goal

-- the feeds so far, before those that are left, are all
abbrev pub invariant-loop-port : goal.invariant-loop-port
invariant-loop-port l = with_front l.ports (feeds_at (l.count - l._port) l.self) ≡ feeds_at l.count l.fn.self
