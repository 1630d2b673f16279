-- Cells that realize a meaning: for all valid inputs there are labels that tell the results.
use Rattle.std.specs.Prelude.{◌≡◌, ℕ, ◌-◌, List, [], get_or, length}
use Rattle.df_values.specs.declared.values.Value.{Value}
use Rattle.df_values.specs.Inputs.{AreValid}
use Rattle.df_cells.specs.declared.cells.Cell.{Cell}
use Rattle.df_cells.specs.declared.kinds.Kind.TheVariants as kind
use Rattle.df_cells.specs.Cells.{cell_at, declarations, outputs}
use Rattle.df_labels.specs.Histories.{IsPrefix}
use Rattle.df_labels.specs.Labels.{Labels, LabelsMeet, received, stream_values}
use Rattle.df_labels.specs.Places.{HasPlaces}

-- ---- meanings

-- what comes out: a list of values for each result
abbrev pub Outcome : Type 0
Outcome = List (List Value)

abbrev pub count_of : Outcome → ℕ
count_of outcome = length outcome

-- values are a beginning of result k, counted from 0; or all of it
abbrev pub Begins : List Value → Outcome → ℕ → Type 0
Begins values outcome k = IsPrefix values (get_or outcome k [])

abbrev pub IsAll : List Value → Outcome → ℕ → Type 0
IsAll values outcome k = values ≡ get_or outcome k []

-- what comes out for each input
abbrev pub Meaning : Type 0
Meaning = List (List Value) → Outcome

-- ---- labels that tell it

pub record Tells (cells : List Cell) (inputs : List (List Value)) (outcome : Outcome) : Type 0 where
  pub labels : Labels
  pub meet : LabelsMeet cells inputs labels
  -- each OUT takes the whole of its result
  pub whole : (c k n : ℕ) → (cell_at cells c).kind ≡ kind.Out k n → IsAll (stream_values (received 0 (labels c))) outcome (k - 1)
  pub placed : HasPlaces cells labels

pub record Realizes (cells : List Cell) (meaning : Meaning) : Type 0 where
  pub outputs : (inputs : List (List Value)) → AreValid (declarations cells) inputs → outputs cells ≡ count_of (meaning inputs)
  pub tells : (inputs : List (List Value)) → AreValid (declarations cells) inputs → Tells cells inputs (meaning inputs)
