use Rattle.std.proofs.Common.{◌≡◌, drop}
use Rattle.df_names.specs.Found.{names_of}
use Rattle.df_syntax.specs.Demands.{first_refusal}
use Rattle.df_types.specs.Scopes.{bound}
use Rattle.df_types.specs.Sources.{fresh_demands, parameters}
use Rattle.df_types.proofs.bodies.bind_parameters.Given as goal

abbrev pub invariant-loop-parameter : goal.invariant-loop-parameter
invariant-loop-parameter l = record {
  left : first_refusal (fresh_demands (parameters l.all) (names_of l.initial.scope)) ≡ first_refusal (fresh_demands (parameters (drop l.parameter-index l.all)) (names_of l.scope));
  inner : bound (parameters l.all) (names_of l.initial.scope) ≡ bound (parameters (drop l.parameter-index l.all)) (names_of l.scope);
}
