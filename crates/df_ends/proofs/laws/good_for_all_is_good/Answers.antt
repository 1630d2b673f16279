use Rattle.df_ends.proofs.Realized.{good_for_all_is_good}
use Rattle.df_ends.proofs.laws.good_for_all_is_good.Goals as goal

pub returns : goal.returns
returns c = good_for_all_is_good
