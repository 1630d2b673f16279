-- The lines so far were taken, and each takes some of the text.
use Rattle.std.proofs.Common.{length}
use Rattle.df_iotext.proofs.ReaderLemmas.{LinesRead}
use Rattle.df_iotext.proofs.inputs.read_inputs.Given as goal

abbrev pub invariant-loop-line : goal.invariant-loop-line
invariant-loop-line l = LinesRead l.decls.items l.text l.rest l.number l.reader.open l.reader.inputs

abbrev pub decreases-loop-line : goal.decreases-loop-line
decreases-loop-line l = length l.rest
