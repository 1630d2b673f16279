use Rattle.std.proofs.Common.{◌≡◌, drop}
use Rattle.df_names.specs.Found.{names_of}
use Rattle.df_names.specs.Maps.{nothing}
use Rattle.df_types.specs.Scopes.{bound}
use Rattle.df_types.specs.Types.{locals}
use Rattle.df_types.proofs.names.loop_names.Given as goal

abbrev pub invariant-loop-definition : goal.invariant-loop-definition
invariant-loop-definition l = bound (locals l.definitions) nothing ≡ bound (locals (drop l.definition-index l.definitions)) (names_of l.scope)
