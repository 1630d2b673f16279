use Rattle.std.proofs.Common.{◌≡◌, take, None}
use Rattle.df_flattened.specs.Flattened.{parameters_scope}
use Rattle.df_inline.specs.Bindings.{scope_of}
use Rattle.df_inline.proofs.copier.Copier.function.Given as goal

abbrev pub invariant-loop-parameter : goal.invariant-loop-parameter
invariant-loop-parameter g l = scope_of l.names l.locals None ≡ parameters_scope l.fn.depth (take l.parameter-index l.parameters)
