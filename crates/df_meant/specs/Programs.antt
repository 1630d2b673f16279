-- That labels tell what flat programs mean.
use Rattle.std.specs.Prelude.{◌≡◌, ℕ, ◌+◌, slice_get, List, [], ◌∷◌, length, Some}
use Rattle.df_values.specs.declared.values.Value.{Value}
use Rattle.df_values.specs.declared.inputs.Input.{Input}
use Rattle.df_values.specs.Inputs.{input_length, declared, AreValid}
use Rattle.df_cells.specs.declared.cells.Cell.{Cell}
use Rattle.df_cells.specs.declared.kinds.Kind.TheVariants as kind
use Rattle.df_cells.specs.Cells.{cell_at}
use Rattle.df_labels.specs.Graphs.{graph_of}
use Rattle.df_labels.specs.Labels.{Labels, LabelsMeet}
use Rattle.df_core.specs.declared.flat.Flat.{Flat}
use Rattle.df_core.specs.Meaning.{flat_mean}
use Rattle.df_build_elem.specs.Program.{program_graph}
use Rattle.df_meant.specs.SameGraph.{AreReceived}

-- one list for each parameter, of its length
abbrev pub HaveLengths : List Input → List (List Value) → Type 0
HaveLengths [] [] = Unit {0}
HaveLengths (p ∷ parameters) (values ∷ inputs) = (length values ≡ input_length p.extent) × HaveLengths parameters inputs
HaveLengths [] (values ∷ inputs) = ⊥
HaveLengths (p ∷ parameters) [] = ⊥

-- valid inputs of the parameters have these lengths
abbrev pub ValidInputsHaveLengths : Type 0
ValidInputsHaveLengths = (parameters : List Input) (inputs : List (List Value)) → AreValid (declared parameters) inputs → HaveLengths parameters inputs

-- labels that meet cells and inputs, and by which each OUT receives its result
pub record Told (cells : List Cell) (inputs results : List (List Value)) : Type 0 where
  pub labels : Labels
  pub meet : LabelsMeet cells inputs labels
  pub whole : AreReceived cells results labels
  -- each result has its OUT, the first the number 1
  pub shown : (k : ℕ) (values : List Value) → slice_get results k ≡ Some values → (c : ℕ) × (n : ℕ) × ((cell_at cells c).kind ≡ kind.Out (k + 1) n)

-- For every flat program, all cells with its skeleton, and all inputs of the lengths of its parameters: labels meet the cells, and
-- each OUT receives its result.
abbrev pub SkeletonsTell : Type 0
SkeletonsTell = (flat : Flat) (cells : List Cell) (inputs : List (List Value)) → HaveLengths flat.parameters inputs → graph_of cells ≡ program_graph flat → Told cells inputs (flat_mean flat inputs)
