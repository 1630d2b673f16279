-- The first place of a byte is where the text is cut.
use Rattle.std.proofs.Common.{sym}
use Rattle.df_celltext.proofs.CutLemmas.{cut_at_place, cut_nowhere_placed}
use Rattle.df_celltext.proofs.words.cut.Goals as goal

pub returns-in-Some : goal.returns-in-Some
returns-in-Some c = cut_at_place c.args.mark c.args.text.now c.in-Some.at (sym c.in-Some.ensures)

pub returns-in-None : goal.returns-in-None
returns-in-None c = cut_nowhere_placed c.args.mark c.args.text.now (sym c.in-None.ensures)
