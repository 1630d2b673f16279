use Rattle.std.proofs.Common.{◌≡◌, drop}
use Rattle.df_names.specs.Found.{names_of}
use Rattle.df_shape.specs.Shaped.{with_parameters}
use Rattle.df_shape.proofs.entries.add_parameters.Given as goal

abbrev pub invariant-loop-place : goal.invariant-loop-place
invariant-loop-place l = with_parameters l.place (drop l.place l.parameters) (names_of l.names) ≡ with_parameters 0 l.parameters (names_of l.fn.names)
