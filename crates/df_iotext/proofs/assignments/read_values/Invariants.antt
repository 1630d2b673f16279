-- The words so far spell the values so far.
use Rattle.std.proofs.Common.{length}
use Rattle.df_iotext.proofs.AssignmentLemmas.{ValuesRead}
use Rattle.df_iotext.proofs.assignments.read_values.Given as goal

abbrev pub invariant-loop-word : goal.invariant-loop-word
invariant-loop-word l = ValuesRead l.text l.rest l.values.items

abbrev pub decreases-loop-word : goal.decreases-loop-word
decreases-loop-word l = length l.rest
