use Rattle.std.proofs.Common.{◌≡◌, drop}
use Rattle.df_names.specs.Found.{names_of}
use Rattle.df_syntax.specs.Demands.{first_refusal}
use Rattle.df_types.specs.Scopes.{bound}
use Rattle.df_types.specs.Sources.{fresh_demands, later}
use Rattle.df_types.proofs.passes.declare_constants.Given as goal

abbrev pub invariant-loop-constant : goal.invariant-loop-constant
invariant-loop-constant l = record {
  left : first_refusal (fresh_demands (later l.all) (names_of l.initial.scope)) ≡ first_refusal (fresh_demands (later (drop l.constant-index l.all)) (names_of l.scope));
  inner : bound (later l.all) (names_of l.initial.scope) ≡ bound (later (drop l.constant-index l.all)) (names_of l.scope);
}
