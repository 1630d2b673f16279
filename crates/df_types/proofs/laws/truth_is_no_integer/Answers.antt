use Rattle.std.proofs.Common.{refl, true, [], ◌∷◌}
use Rattle.df_types.specs.Rows.{source, truth}
use Rattle.df_names.specs.Maps.{bind}
use Rattle.df_types.specs.Sources.{demands}
use Rattle.df_types.proofs.Looks.{truth as truth_is}
use Rattle.df_types.proofs.laws.truth_is_no_integer.Goals as goal

pub returns : goal.returns
unfolding demands bind
returns c = rw (truth_is (source [] (truth ∷ [])).functions truth true refl) refl
