use Rattle.std.proofs.Common.{◌≡◌, drop, fold, None}
use Rattle.df_syntax.specs.Demands.{first_refusal}
use Rattle.df_syntax.specs.SourceForms.{with_number}
use Rattle.df_names.specs.Found.{names_of}
use Rattle.df_shape.specs.Sources.{constants_demands}
use Rattle.df_shape.proofs.constants.constants.Given as goal

abbrev pub invariant-loop-constant : goal.invariant-loop-constant
invariant-loop-constant l = record {
  left : first_refusal (constants_demands (λ name. None) l.constants) ≡ first_refusal (constants_demands (names_of l.numbers) (drop l.constant-index l.constants));
  table : fold with_number (λ name. None) l.constants ≡ fold with_number (names_of l.numbers) (drop l.constant-index l.constants);
}
