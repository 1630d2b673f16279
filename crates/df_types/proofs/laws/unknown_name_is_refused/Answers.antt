use Rattle.std.proofs.Common.{refl, [], ◌∷◌}
use Rattle.df_types.specs.Rows.{x, source, x_at}
use Rattle.df_names.specs.Maps.{bind}
use Rattle.df_types.specs.Sources.{demands}
use Rattle.df_types.proofs.Looks.{named}
use Rattle.df_types.proofs.laws.unknown_name_is_refused.Goals as goal

pub returns : goal.returns
unfolding demands bind
returns c = rw (named (source [] (x_at 7 ∷ [])).functions (x_at 7) x refl) refl
