use Rattle.std.proofs.Common.{◌≡◌, take, drop, []}
use Rattle.df_syntax.specs.Demands.{first_refusal}
use Rattle.df_names.specs.Found.{names_of}
use Rattle.df_shape.specs.Sources.{functions_demands, callable_among}
use Rattle.df_shape.specs.Functions.{is_in}
use Rattle.df_shape.proofs.functions.ask_functions.Given as goal

abbrev pub invariant-loop-i : goal.invariant-loop-i
invariant-loop-i l = record {
  left : first_refusal (functions_demands (names_of l.numbers) l.functions [] l.functions)
      ≡ first_refusal (functions_demands (names_of l.numbers) l.functions (take l.i l.functions) (drop l.i l.functions));
  called : is_in l.callable ≡ callable_among (take l.i l.functions);
}
