use Rattle.df_ends.proofs.Good.{realizing_for_all_is_faithful}
use Rattle.df_ends.proofs.laws.realizing_for_all_is_faithful.Goals as goal

pub returns : goal.returns
returns c = realizing_for_all_is_faithful
    c.never_clashes.ensures c.follows_members.ensures c.has_all_results.ensures c.results_have_outputs.ensures
