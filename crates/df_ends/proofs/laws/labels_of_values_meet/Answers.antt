use Rattle.df_ends.proofs.OfValues.{labels_of_values_meet}
use Rattle.df_ends.proofs.laws.labels_of_values_meet.Goals as goal

pub returns : goal.returns
returns c = labels_of_values_meet c.labels_give_histories.ensures c.first_firings_agree.ensures
