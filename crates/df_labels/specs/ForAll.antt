-- Cells that realize a meaning for every number of firings: for all valid inputs there are labels that tell the results.
use Rattle.std.specs.Prelude.{◌≡◌, ◌-◌, ℕ, List, [], get_or, length, map}
use Rattle.df_values.specs.declared.values.Value.{Value}
use Rattle.df_values.specs.Inputs.{AreValid}
use Rattle.df_cells.specs.declared.cells.Cell.{Cell}
use Rattle.df_cells.specs.declared.kinds.Kind.TheVariants as kind
use Rattle.df_cells.specs.Cells.{cell_at, declarations, outputs}
use Rattle.df_labels.specs.Histories.{IsPrefix}
use Rattle.df_labels.specs.Members.{Member, Labels, LabelsMeet, AreLate, sure, received, members}
use Rattle.df_labels.specs.MemberPlaces.{HasPlaces}
use Rattle.df_labels.specs.Realizes.{Meaning}

-- ---- meanings

-- what comes out: for each result a list of members, in which nothing stands for a value that never comes
abbrev pub MemberOutcome : Type 0
MemberOutcome = List (List Member)

-- what comes out for each input, where loops that are not over after so many turns are given out
abbrev pub MeaningForAll : Type 0
MeaningForAll = List (List Value) → ℕ → MemberOutcome

-- values are a beginning of result k, counted from 0; or all of it, and it has no nothing
abbrev pub BeginsMembers : List Value → MemberOutcome → ℕ → Type 0
BeginsMembers values outcome k = IsPrefix (sure values) (get_or outcome k [])

abbrev pub IsAllMembers : List Value → MemberOutcome → ℕ → Type 0
IsAllMembers values outcome k = sure values ≡ get_or outcome k []

-- a meaning by values alone is the same for every number of turns
abbrev pub for_all : Meaning → MeaningForAll
for_all meaning inputs n = map sure (meaning inputs)

-- ---- labels that tell it

-- labels for n firings, in which each OUT takes the whole of its result, and in which loops have places
pub record TellsFor (cells : List Cell) (inputs : List (List Value)) (n : ℕ) (outcome : MemberOutcome) : Type 0 where
  pub labels : Labels
  pub meet : LabelsMeet cells inputs n labels
  pub whole : (c k m : ℕ) → (cell_at cells c).kind ≡ kind.Out k m
      → members (received 0 (labels c)) ≡ get_or outcome (k - 1) []
  pub placed : HasPlaces cells labels
  pub late : AreLate cells labels

pub record RealizesForAll (cells : List Cell) (meaning : MeaningForAll) : Type 0 where
  pub outputs : (inputs : List (List Value)) (n : ℕ) → AreValid (declarations cells) inputs
      → outputs cells ≡ length (meaning inputs n)
  pub tells : (inputs : List (List Value)) (n : ℕ) → AreValid (declarations cells) inputs
      → TellsFor cells inputs n (meaning inputs n)
