use Rattle.std.proofs.Common.{◌≡◌, drop}
use Rattle.df_names.specs.Found.{names_of}
use Rattle.df_syntax.specs.Demands.{first_refusal}
use Rattle.df_types.specs.Sources.{functions_demands}
use Rattle.df_types.proofs.walk.Walk.check_functions.Given as goal

abbrev pub invariant-loop-i : goal.invariant-loop-i
invariant-loop-i l = record {
  left : first_refusal (functions_demands l.self.functions.now l.self.functions.now (names_of l.initial.scope)) ≡ first_refusal (functions_demands l.self.functions.now (drop l.i l.self.functions.now) (names_of l.initial.scope));
  kept : names_of l.scope ≡ names_of l.initial.scope;
}
