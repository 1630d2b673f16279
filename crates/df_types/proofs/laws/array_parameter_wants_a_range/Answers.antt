use Rattle.std.proofs.Common.{refl}
use Rattle.df_names.specs.Maps.{bind}
use Rattle.df_types.specs.Sources.{demands}
use Rattle.df_types.proofs.laws.array_parameter_wants_a_range.Goals as goal

pub returns : goal.returns
unfolding demands bind
returns c = refl
