use Rattle.std.proofs.Common.{◌≡◌, drop}
use Rattle.df_names.specs.Found.{names_of}
use Rattle.df_names.specs.Maps.{nothing}
use Rattle.df_types.specs.Scopes.{bound}
use Rattle.df_types.specs.Sources.{arrays}
use Rattle.df_types.proofs.passes.array_parameters.Given as goal

abbrev pub invariant-loop-parameter : goal.invariant-loop-parameter
invariant-loop-parameter l = bound (arrays l.all) nothing ≡ bound (arrays (drop l.parameter-index l.all)) (names_of l.scope)
