-- The laws of the histories of every run of well-formed cells, for all inputs and under every list of choices.
use Rattle.std.specs.Prelude.{◌≡◌, ℕ, ◌-◌, ◌<◌, true, List, [], get_or, length, take, Some, None, is_some}
use Rattle.df_cells.specs.declared.cells.CellId.{CellId}
use Rattle.df_cells.specs.Firings.{wants, with_constants}
use Rattle.df_machine.specs.States.{row, firings}
use Rattle.df_values.specs.declared.values.Value.{Value}
use Rattle.df_cells.specs.declared.cells.Cell.{Cell}
use Rattle.df_cells.specs.declared.kinds.Kind.TheVariants as kind
use Rattle.df_values.specs.Inputs.{AreValid}
use Rattle.df_cells.specs.Cells.{cell_at, port_of, producer_of, declarations, outputs}
use Rattle.df_labels.specs.Labels.{no_firing, Labels, LabelsMeet, received, stream_values}
use Rattle.df_histories.specs.Reached.{AgreesWith}
use Rattle.df_cells.specs.WellFormed.{WellFormed}
use Rattle.df_labels.specs.Histories.{Histories, took, IsPrefix, Comparable, Consistent, Meets}
use Rattle.df_machine.specs.Events.{chosen_event}
use Rattle.df_machine.specs.Runs.{after, events, IsClash}
use Rattle.df_histories.specs.Traces.{Traced, histories}

-- no event is a clash
abbrev pub NeverClashes : Type 0
NeverClashes = (cells : List Cell) (inputs : List (List Value)) (choices : List ℕ) (choice : ℕ) → WellFormed cells
    → IsClash (after cells inputs choices) (chosen_event cells (after cells inputs choices) choice) → ⊥

-- of the values of each result under two lists of choices, one is a prefix of the other
abbrev pub IsDeterminate : Type 0
IsDeterminate = (cells : List Cell) (inputs : List (List Value)) (choices others : List ℕ) (k : ℕ) → WellFormed cells
    → Comparable (get_or (after cells inputs choices).results k []) (get_or (after cells inputs others).results k [])

-- equal states that two lists of choices lead to come after equally many events
abbrev pub CountsEvents : Type 0
CountsEvents = (cells : List Cell) (inputs : List (List Value)) (choices others : List ℕ) → WellFormed cells
    → after cells inputs choices ≡ after cells inputs others → events cells inputs choices ≡ events cells inputs others

-- what each cell takes in a run, and any histories that obey the equations of the arcs, agree
abbrev pub FollowsEquations : Type 0
FollowsEquations = (cells : List Cell) (inputs : List (List Value)) (h : Histories) (choices : List ℕ) → WellFormed cells → Consistent cells inputs h
    → (c : ℕ) → Comparable (histories cells inputs choices c) (h c)

-- on each arc, the values given so far are those taken so far and then what is on the way
abbrev pub AccountsForValues : Type 0
AccountsForValues = (cells : List Cell) (inputs : List (List Value)) (choices : List ℕ) → WellFormed cells
    → Traced cells inputs (after cells inputs choices) (histories cells inputs choices)

-- what each cell takes in a run is a prefix of its history, in histories that meet the cells and inputs
abbrev pub FollowsHistories : Type 0
FollowsHistories = (cells : List Cell) (inputs : List (List Value)) (h : Histories) (choices : List ℕ) → WellFormed cells → Meets cells inputs h
    → (c : ℕ) → IsPrefix (histories cells inputs choices c) (h c)

-- each result is a prefix of what its OUT takes in them
abbrev pub ResultsFollowHistories : Type 0
ResultsFollowHistories = (cells : List Cell) (inputs : List (List Value)) (h : Histories) (choices : List ℕ) → WellFormed cells → Meets cells inputs h
    → (c k m : ℕ) → (cell_at cells c).kind ≡ kind.Out k m
    → IsPrefix (get_or (after cells inputs choices).results (k - 1) []) (took 0 (h c))

-- a run agrees with all labels that meet the cells and inputs
abbrev pub FollowsLabels : Type 0
FollowsLabels = (cells : List Cell) (inputs : List (List Value)) (labels : Labels) (choices : List ℕ) → WellFormed cells → AreValid (declarations cells) inputs
    → LabelsMeet cells inputs labels → AgreesWith (record { cells = cells; inputs = inputs; state = after cells inputs choices }) labels

-- what a cell now wants at a port that an arc feeds, the next firing of its label takes there
abbrev pub WantedIsTaken : Type 0
WantedIsTaken = (cells : List Cell) (inputs : List (List Value)) (labels : Labels) (choices : List ℕ) → WellFormed cells → AreValid (declarations cells) inputs
    → LabelsMeet cells inputs labels → (c : ℕ) → firings (after cells inputs choices) c < length (labels c) → (p : ℕ) (u : CellId) → producer_of cells (port_of c p) ≡ Some u
    → wants (cell_at cells c).kind (with_constants (cell_at cells c) (row (after cells inputs choices) c)) p ≡ true
    → is_some (get_or (get_or (labels c) (firings (after cells inputs choices) c) no_firing).taken p None) ≡ true

-- each result, counted from 0, is that of an OUT
abbrev pub ResultsHaveOutputs : Type 0
ResultsHaveOutputs = (cells : List Cell) → WellFormed cells → (j : ℕ) → j < outputs cells
    → (c : ℕ) × (k : ℕ) × (m : ℕ) × ((cell_at cells c).kind ≡ kind.Out k m) × (k - 1 ≡ j)

-- where no packet is in flight, a result is what the firings of its OUT so far take in the label
abbrev pub ResultsAreReceived : Type 0
ResultsAreReceived = (cells : List Cell) (inputs : List (List Value)) (labels : Labels) (choices : List ℕ) → WellFormed cells → AreValid (declarations cells) inputs
    → LabelsMeet cells inputs labels → (after cells inputs choices).packets ≡ [] → (c k m : ℕ) → (cell_at cells c).kind ≡ kind.Out k m
    → get_or (after cells inputs choices).results (k - 1) [] ≡ stream_values (received 0 (take (firings (after cells inputs choices) c) (labels c)))
