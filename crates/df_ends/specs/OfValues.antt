-- Labels of values, taken as labels of members of which none is nothing.
use Rattle.std.specs.Prelude.{map}
use Rattle.df_labels.specs.Labels as plain
use Rattle.df_labels.specs.Members.{Firing, Labels, lift, as_member}

abbrev pub firing_of : plain.Firing → Firing
firing_of f = record { turn = f.turn; taken = lift f.taken; answer = as_member f.answer }

abbrev pub of_values : plain.Labels → Labels
of_values labels c = map firing_of (labels c)
