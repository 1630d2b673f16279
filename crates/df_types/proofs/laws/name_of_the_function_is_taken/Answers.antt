use Rattle.std.proofs.Common.{refl}
use Rattle.df_names.specs.Maps.{bind}
use Rattle.df_types.specs.Sources.{demands}
use Rattle.df_types.proofs.laws.name_of_the_function_is_taken.Goals as goal

pub returns : goal.returns
unfolding demands bind
returns c = refl
