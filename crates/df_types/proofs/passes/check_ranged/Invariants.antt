use Rattle.std.proofs.Common.{◌≡◌, drop}
use Rattle.df_names.specs.Found.{names_of}
use Rattle.df_syntax.specs.Demands.{first_refusal}
use Rattle.df_types.specs.Sources.{ranged_demands, arrays}
use Rattle.df_types.proofs.passes.check_ranged.Given as goal

abbrev pub invariant-loop-parameter : goal.invariant-loop-parameter
invariant-loop-parameter l = first_refusal (ranged_demands (arrays l.all) (names_of l.without)) ≡ first_refusal (ranged_demands (arrays (drop l.parameter-index l.all)) (names_of l.without))
