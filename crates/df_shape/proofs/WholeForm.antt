-- The demands on a whole source in three passes.
use Rattle.std.proofs.Common.{◌≡◌, refl, sym, ◌∙◌, ap, [], ◌++◌, Some, None}
use Rattle.std.specs.Prelude.{flat_map}
use Rattle.df_syntax.specs.declared.program.Program.{Program}
use Rattle.df_syntax.specs.Demands.{first_refusal}
use Rattle.df_syntax.specs.SourceForms.{Numbers, numbers_of}
use Rattle.df_syntax.proofs.FirstRefusals.{first_append, first_stays}
use Rattle.df_shape.specs.declared.answers.ShapeAnswer.{ShapeAnswer}
use Rattle.df_shape.specs.Demands.{Demands}
use Rattle.df_shape.specs.Sources.{constants_demands, one_range_demands, functions_demands, demands}

abbrev pub of_constants : Program → Demands
of_constants p = constants_demands (λ name. None) p.constants

abbrev pub of_ranges : Numbers → Program → Demands
of_ranges numbers p = flat_map (one_range_demands numbers) p.ranges

abbrev pub of_functions : Numbers → Program → Demands
of_functions numbers p = functions_demands numbers p.functions [] p.functions

in_passes : (p : Program) (numbers : Numbers) → numbers ≡ numbers_of p → demands p ≡ of_constants p ++ (of_ranges numbers p ++ of_functions numbers p)
unfolding demands
in_passes p numbers is = ap (λ (n : Numbers). of_constants p ++ (of_ranges n p ++ of_functions n p)) (sym is)

module _ (p : Program) where
  pub constants_refused : (x : ShapeAnswer) → first_refusal (of_constants p) ≡ Some x → first_refusal (demands p) ≡ Some x
  constants_refused x h =
      ap first_refusal (in_passes p (numbers_of p) refl) ∙ first_stays (of_constants p) (of_ranges (numbers_of p) p ++ of_functions (numbers_of p) p) x h

  module _ (numbers : Numbers) (is : numbers ≡ numbers_of p) (held : first_refusal (of_constants p) ≡ None) where
    pub ranges_refused : (x : ShapeAnswer) → first_refusal (of_ranges numbers p) ≡ Some x → first_refusal (demands p) ≡ Some x
    ranges_refused x h =
        ap first_refusal (in_passes p numbers is)
        ∙ (first_append (of_constants p) (of_ranges numbers p ++ of_functions numbers p) held ∙ first_stays (of_ranges numbers p) (of_functions numbers p) x h)

    pub functions_refused : (x : ShapeAnswer) → first_refusal (of_ranges numbers p) ≡ None → first_refusal (of_functions numbers p) ≡ Some x → first_refusal (demands p) ≡ Some x
    functions_refused x k h =
        ap first_refusal (in_passes p numbers is)
        ∙ (first_append (of_constants p) (of_ranges numbers p ++ of_functions numbers p) held ∙ (first_append (of_ranges numbers p) (of_functions numbers p) k ∙ h))

    pub all_held : first_refusal (of_ranges numbers p) ≡ None → first_refusal (of_functions numbers p) ≡ None → first_refusal (demands p) ≡ None
    all_held k h =
        ap first_refusal (in_passes p numbers is)
        ∙ (first_append (of_constants p) (of_ranges numbers p ++ of_functions numbers p) held ∙ (first_append (of_ranges numbers p) (of_functions numbers p) k ∙ h))
