-- The words so far are those of the choices so far, and each word takes some of the text.
use Rattle.std.proofs.Common.{length}
use Rattle.df_iotext.proofs.ScheduleLemmas.{HasRead}
use Rattle.df_iotext.proofs.schedules.read_schedule.Given as goal

abbrev pub invariant-loop-word : goal.invariant-loop-word
invariant-loop-word l = HasRead l.text l.rest l.choices

abbrev pub decreases-loop-word : goal.decreases-loop-word
decreases-loop-word l = length l.rest
