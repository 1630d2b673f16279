-- What cells promise of every run: no clash, and results that are beginnings of what is meant.
use Rattle.std.specs.Prelude.{◌≡◌, ℕ, List, [], get_or, length}
use Rattle.df_values.specs.declared.values.Value.{Value}
use Rattle.df_values.specs.Inputs.{AreValid}
use Rattle.df_cells.specs.declared.cells.Cell.{Cell}
use Rattle.df_cells.specs.Cells.{declarations}
use Rattle.df_labels.specs.Realizes.{Meaning, count_of, Begins}
use Rattle.df_machine.specs.Events.{chosen_event}
use Rattle.df_machine.specs.Runs.{after, IsClash}

-- For all valid inputs and every list of choices, of any length, no event on the way is a clash, and each result is a beginning of
-- the same result of the meaning.
pub record IsFaithful (cells : List Cell) (meaning : Meaning) : Type 0 where
  pub no_clash : (inputs : List (List Value)) (choices : List ℕ) (choice : ℕ) → AreValid (declarations cells) inputs
      → ¬ IsClash (after cells inputs choices) (chosen_event cells (after cells inputs choices) choice)
  pub results : (inputs : List (List Value)) (choices : List ℕ) → AreValid (declarations cells) inputs
      → length (after cells inputs choices).results ≡ count_of (meaning inputs)
  pub prefixes : (inputs : List (List Value)) (choices : List ℕ) (k : ℕ) → AreValid (declarations cells) inputs
      → Begins (get_or (after cells inputs choices).results k []) (meaning inputs) k
