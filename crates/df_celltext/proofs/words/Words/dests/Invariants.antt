use Rattle.std.proofs.Common.{◌≡◌, length}
use Rattle.df_celltext.specs.Reading.{with_front, dests_at}
use Rattle.df_celltext.proofs.words.Words.dests.Given as goal

-- the destinations so far, before those that are left, are all
abbrev pub invariant-loop-word : goal.invariant-loop-word
invariant-loop-word l = with_front l.dests (dests_at l.self) ≡ dests_at l.fn.self

abbrev pub decreases-loop-word : goal.decreases-loop-word
decreases-loop-word l = length l.self
