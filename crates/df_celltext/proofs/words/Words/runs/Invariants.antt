use Rattle.std.proofs.Common.{◌≡◌, [], length}
use Rattle.df_celltext.specs.Reading.{with_front, runs_at}
use Rattle.df_celltext.proofs.words.Words.runs.Given as goal

-- the runs so far, before those that are left, are all
abbrev pub invariant-loop-word : goal.invariant-loop-word
invariant-loop-word l = with_front l.runs (runs_at l.last l.self) ≡ runs_at [] l.fn.self

abbrev pub decreases-loop-word : goal.decreases-loop-word
decreases-loop-word l = length l.self
