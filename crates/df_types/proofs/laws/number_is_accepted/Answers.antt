use Rattle.std.proofs.Common.{refl, pos, [], ◌∷◌}
use Rattle.df_syntax.specs.Examples.{number_at}
use Rattle.df_types.specs.Rows.{source}
use Rattle.df_names.specs.Maps.{bind}
use Rattle.df_types.specs.Sources.{demands}
use Rattle.df_types.proofs.Looks.{number}
use Rattle.df_types.proofs.laws.number_is_accepted.Goals as goal

pub returns : goal.returns
unfolding demands bind
returns c = rw (number (source [] (number_at 7 1 ∷ [])).functions (number_at 7 1) (pos 1) refl) refl
