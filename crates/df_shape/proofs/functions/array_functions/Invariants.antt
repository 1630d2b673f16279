use Rattle.std.proofs.Common.{drop}
use Rattle.df_shape.specs.Functions.{Holds}
use Rattle.df_shape.proofs.functions.array_functions.Given as goal

abbrev pub invariant-loop-function : goal.invariant-loop-function
invariant-loop-function l = Holds l.map (drop l.function-index l.functions) l.functions
