use Rattle.std.proofs.Common.{refl, pos, [], ◌∷◌}
use Rattle.df_syntax.specs.Grammar.{definition_of}
use Rattle.df_syntax.specs.Examples.{number_at}
use Rattle.df_types.specs.Rows.{x, named_at, integer, source, x_at, self_defined}
use Rattle.df_names.specs.Maps.{bind}
use Rattle.df_types.specs.Sources.{demands}
use Rattle.df_types.proofs.Looks.{number, named, let_whole}
use Rattle.df_types.proofs.laws.definition_is_not_in_its_own_scope.Goals as goal

pub returns : goal.returns
unfolding demands bind
returns c = rw (let_whole (source [] (self_defined ∷ [])).functions self_defined (definition_of (named_at x 8) integer (x_at 12) ∷ []) (number_at 14 1 ∷ []) refl, number (source [] (self_defined ∷ [])).functions (number_at 14 1) (pos 1) refl, named (source [] (self_defined ∷ [])).functions (x_at 12) x refl) refl
