use Rattle.df_rank.proofs.Ranked.{balanced_cells_have_ranks}
use Rattle.df_rank.proofs.laws.balanced_cells_have_ranks.Goals as goal

pub returns : goal.returns
returns c = balanced_cells_have_ranks c.heights_rise.ensures c.heights_stay.ensures
