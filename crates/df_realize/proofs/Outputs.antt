-- There are as many outputs as results, and inputs are valid for the cells where they are for the parameters.
use Rattle.std.proofs.Common.{◌≡◌, List, [], ◌∷◌, length, map, refl, sym, ◌∙◌, ap}
use Rattle.std.proofs.lemmas.List.{length-map}
use Rattle.df_values.specs.declared.inputs.Input.{Input}
use Rattle.df_values.specs.declared.values.Value.{Value}
use Rattle.df_values.specs.Inputs.{declared}
use Rattle.df_cells.specs.declared.cells.Cell.{Cell}
use Rattle.df_cells.specs.Cells.{declaration_of, declarations, inputs_of, outputs}
use Rattle.df_core.specs.declared.flat.Flat.{Flat}
use Rattle.df_core.specs.Meaning.{all_made, flat_mean, result_of}
use Rattle.df_build_elem.specs.Program.{declared_input, declared_inputs}

-- what the parameters declare is what their INs declare
declared_same : (parameters : List Input) → map declaration_of (map declared_input parameters) ≡ declared parameters
declared_same [] = refl
declared_same (p ∷ parameters) = ap (λ l. declaration_of (declared_input p) ∷ l) (declared_same parameters)

pub declarations_are : (flat : Flat) (cells : List Cell) → inputs_of cells ≡ declared_inputs flat
    → declarations cells ≡ declared flat.parameters
declarations_are flat cells same = ap (map declaration_of) same ∙ declared_same flat.parameters

pub outputs_are : (flat : Flat) (cells : List Cell) (inputs : List (List Value)) → outputs cells ≡ length flat.results
    → outputs cells ≡ length (flat_mean flat inputs)
unfolding flat_mean
outputs_are flat cells inputs count = count ∙ sym (length-map flat.results (result_of (all_made flat inputs)))
