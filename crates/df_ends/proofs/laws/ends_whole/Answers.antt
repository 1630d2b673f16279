use Rattle.df_ends.proofs.Ends.{ends_whole}
use Rattle.df_ends.proofs.laws.ends_whole.Goals as goal

pub returns : goal.returns
returns c = ends_whole c.waits_for_lower_rank.ensures c.follows_members.ensures c.nothing_is_possible.ensures
