use Rattle.df_ends.proofs.Lower.{waits_for_lower_rank}
use Rattle.df_ends.proofs.laws.waits_for_lower_rank.Goals as goal

pub returns : goal.returns
returns c = waits_for_lower_rank c.follows_members.ensures c.disabled_cells_wait.ensures
