use Rattle.std.proofs.Common.{◌≡◌, drop}
use Rattle.df_names.specs.Found.{names_of}
use Rattle.df_syntax.specs.Demands.{first_refusal}
use Rattle.df_types.specs.Scopes.{bound}
use Rattle.df_types.specs.Sources.{fresh_demands, numbered}
use Rattle.df_types.proofs.passes.declare_functions.Given as goal

abbrev pub invariant-loop-i : goal.invariant-loop-i
invariant-loop-i l = record {
  left : first_refusal (fresh_demands (numbered 0 l.all) (names_of l.initial.scope)) ≡ first_refusal (fresh_demands (numbered l.i (drop l.i l.all)) (names_of l.scope));
  inner : bound (numbered 0 l.all) (names_of l.initial.scope) ≡ bound (numbered l.i (drop l.i l.all)) (names_of l.scope);
}
