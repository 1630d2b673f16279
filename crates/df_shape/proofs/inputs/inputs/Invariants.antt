use Rattle.std.proofs.Common.{◌≡◌, map, take}
use Rattle.df_names.specs.Found.{names_of}
use Rattle.df_shape.specs.Entries.{input_found}
use Rattle.df_shape.proofs.inputs.inputs.Given as goal

abbrev pub invariant-loop-parameter : goal.invariant-loop-parameter
invariant-loop-parameter l = l.inputs ≡ map (input_found (names_of l.extents)) (take l.parameter-index l.parameters)
