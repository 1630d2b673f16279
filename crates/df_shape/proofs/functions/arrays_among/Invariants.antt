use Rattle.std.proofs.Common.{◌≡◌, drop, fold}
use Rattle.df_syntax.specs.declared.tree.Parameter.{Parameter}
use Rattle.df_shape.specs.Demands.{or_array}
use Rattle.df_shape.specs.Sources.{array_parameters}
use Rattle.df_shape.specs.Functions.{is_in}
use Rattle.df_shape.proofs.functions.arrays_among.Given as goal

abbrev pub invariant-loop-parameter : goal.invariant-loop-parameter
invariant-loop-parameter l =
    array_parameters l.parameters ≡ fold (λ arrays (p : Parameter). or_array arrays p.name.name p.sort) (is_in l.map) (drop l.parameter-index l.parameters)
