-- What cells promise of all their runs, by a meaning for every number of firings.
use Rattle.std.specs.Prelude.{◌≡◌, ◌<◌, ◌-◌, ℕ, List, [], get_or, length}
use Rattle.df_values.specs.declared.values.Value.{Value}
use Rattle.df_values.specs.Inputs.{AreValid}
use Rattle.df_cells.specs.declared.cells.Cell.{Cell}
use Rattle.df_cells.specs.declared.kinds.Kind.TheVariants as kind
use Rattle.df_cells.specs.Cells.{cell_at, declarations}
use Rattle.df_machine.specs.Events.{possible, chosen_event}
use Rattle.df_machine.specs.Runs.{after, events, IsClash}
use Rattle.df_machine.specs.Seen.{Loaded}
use Rattle.df_machine.specs.States.{State}
use Rattle.df_stages.specs.Balance.{IsBalanced}
use Rattle.df_labels.specs.Members.{Labels, LabelsMeet, sure, received, members}
use Rattle.df_labels.specs.MemberPlaces.{HasPlaces}
use Rattle.df_labels.specs.ForAll.{MeaningForAll, BeginsMembers, IsAllMembers, RealizesForAll}
use Rattle.df_labels.specs.Realizes.{Meaning, IsAll}
use Rattle.df_histories.specs.Faithful.{IsFaithful}
use Rattle.df_histories.specs.Reached.{IsAfter}

-- For all valid inputs, every list of choices and every n above the number of its events: no event on the way is a
-- clash, and each result is a beginning of the same result of the meaning for n.
pub record IsFaithfulForAll (cells : List Cell) (meaning : MeaningForAll) : Type 0 where
  pub no_clash : (inputs : List (List Value)) (choices : List ℕ) (choice : ℕ) → AreValid (declarations cells) inputs
      → ¬ IsClash (after cells inputs choices) (chosen_event cells (after cells inputs choices) choice)
  pub results : (inputs : List (List Value)) (choices : List ℕ) (n : ℕ) → AreValid (declarations cells) inputs
      → length (after cells inputs choices).results ≡ length (meaning inputs n)
  pub prefixes : (inputs : List (List Value)) (choices : List ℕ) (n k : ℕ) → AreValid (declarations cells) inputs
      → events cells inputs choices < n
      → BeginsMembers (get_or (after cells inputs choices).results k []) (meaning inputs n) k

-- And whenever no event is possible, each result is all of it, and has as many values as its OUT declares.
pub record IsGoodForAll (cells : List Cell) (meaning : MeaningForAll) : Type 0 where
  pub faithful : IsFaithfulForAll cells meaning
  pub whole : (inputs : List (List Value)) (choices : List ℕ) (n k : ℕ) → AreValid (declarations cells) inputs
      → events cells inputs choices < n → possible cells (after cells inputs choices) ≡ 0
      → IsAllMembers (get_or (after cells inputs choices).results k []) (meaning inputs n) k
  pub full : (inputs : List (List Value)) (choices : List ℕ) (c k m : ℕ) → AreValid (declarations cells) inputs
      → possible cells (after cells inputs choices) ≡ 0 → (cell_at cells c).kind ≡ kind.Out k m
      → length (get_or (after cells inputs choices).results (k - 1) []) ≡ m

-- ---- by a meaning of values

-- Cells are faithful to a meaning, and whenever no event is possible, each result is all of it.
pub record IsGood (cells : List Cell) (meaning : Meaning) : Type 0 where
  pub faithful : IsFaithful cells meaning
  pub whole : (inputs : List (List Value)) (choices : List ℕ) (k : ℕ) → AreValid (declarations cells) inputs
      → possible cells (after cells inputs choices) ≡ 0
      → IsAll (get_or (after cells inputs choices).results k []) (meaning inputs) k

-- ---- of one machine

-- each result is all that its OUT takes in the label
abbrev pub HoldsAll : List Cell → Labels → State → Type 0
HoldsAll cells labels s = (c k m : ℕ) → (cell_at cells c).kind ≡ kind.Out k m
    → sure (get_or s.results (k - 1) []) ≡ members (received 0 (labels c))

-- Whatever choices led here: the results are those of all labels for more firings than the events so far, which meet
-- the cells and the inputs, where the cells are balanced and loops have places.
abbrev pub HasLabelResults : Loaded → Type 0
HasLabelResults t = (choices : List ℕ) → IsAfter t choices → (n : ℕ) (labels : Labels) → IsBalanced t.cells
    → LabelsMeet t.cells t.inputs n labels → HasPlaces t.cells labels → events t.cells t.inputs choices < n
    → HoldsAll t.cells labels t.state

-- and those of all meanings that the cells, which are balanced, realize
abbrev pub HasWholeResults : Loaded → Type 0
HasWholeResults t = (choices : List ℕ) → IsAfter t choices → (meaning : MeaningForAll) → IsBalanced t.cells
    → RealizesForAll t.cells meaning → (n k : ℕ) → events t.cells t.inputs choices < n
    → IsAllMembers (get_or t.state.results k []) (meaning t.inputs n) k
