use Rattle.df_core.proofs.Rows.{cut_row}
use Rattle.df_core.proofs.laws.loops_are_cut_at_their_turns.Goals as goal

pub returns : goal.returns
returns c = cut_row
