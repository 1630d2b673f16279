use Rattle.std.proofs.Common.{◌≡◌, map, take}
use Rattle.df_names.specs.Found.{names_of}
use Rattle.df_shape.specs.Renamed.{function_renamed}
use Rattle.df_shape.proofs.building.functions_renamed.Given as goal

abbrev pub invariant-loop-function : goal.invariant-loop-function
invariant-loop-function l = l.copies ≡ map (function_renamed (names_of l.names)) (take l.function-index l.functions)
