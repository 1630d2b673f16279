use Rattle.std.proofs.Common.{◌≡◌, drop}
use Rattle.df_names.specs.Found.{names_of}
use Rattle.df_syntax.specs.Demands.{first_refusal}
use Rattle.df_types.specs.Scopes.{bound}
use Rattle.df_types.specs.Sources.{constant_demands, constants}
use Rattle.df_types.proofs.passes.check_constants.Given as goal

abbrev pub invariant-loop-constant : goal.invariant-loop-constant
invariant-loop-constant l = record {
  left : first_refusal (constant_demands l.all (names_of l.initial.scope)) ≡ first_refusal (constant_demands (drop l.constant-index l.all) (names_of l.scope));
  inner : bound (constants l.all) (names_of l.initial.scope) ≡ bound (constants (drop l.constant-index l.all)) (names_of l.scope);
}
