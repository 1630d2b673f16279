use Rattle.std.proofs.Common.{◌≡◌, ◌≤◌, length, drop}
use Rattle.df_names.specs.Found.{names_of}
use Rattle.df_types.specs.Scopes.{unbound}
use Rattle.df_types.specs.Sources.{parameters}
use Rattle.df_types.proofs.bodies.forget_parameters.Given as goal

abbrev pub invariant-loop-left : goal.invariant-loop-left
invariant-loop-left l = record {
  forgot : names_of l.scope ≡ unbound (parameters (drop l.left l.all)) (names_of l.initial.scope);
  within : l.left ≤ length l.all;
}

abbrev pub decreases-loop-left : goal.decreases-loop-left
decreases-loop-left l = l.left
