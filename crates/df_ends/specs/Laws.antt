-- How runs end, by labels of members with ranks; and labels of values, which are such labels for every number of
-- firings.
use Rattle.std.specs.Prelude.{◌≡◌, ◌<◌, ◌-◌, ◌⊎◌, ℕ, true, List, [], get_or, length, None, Contains}
use Rattle.df_values.specs.declared.values.Value.{Value}
use Rattle.df_values.specs.Inputs.{AreValid}
use Rattle.df_cells.specs.declared.cells.Cell.{Cell}
use Rattle.df_cells.specs.declared.kinds.Kind.TheVariants as kind
use Rattle.df_cells.specs.Cells.{cell_at, declarations}
use Rattle.df_cells.specs.WellFormed.{WellFormed}
use Rattle.df_labels.specs.Labels as plain
use Rattle.df_labels.specs.Realizes.{Meaning, Realizes}
use Rattle.df_machine.specs.Events.{possible, is_enabled}
use Rattle.df_machine.specs.Runs.{after, events}
use Rattle.df_machine.specs.States.{firings}
use Rattle.df_labels.specs.Members.{Labels, LabelsMeet, sure, received, members}
use Rattle.df_stages.specs.Balance.{IsBalanced}
use Rattle.df_ends.specs.OfValues.{of_values}
use Rattle.df_labels.specs.Finishing.{HasNoBuffers}
use Rattle.df_rank.specs.Ranks.{HasRanks, IsLower}
use Rattle.df_rank.specs.Hold.{hold, held}
use Rattle.df_labels.specs.ForAll.{MeaningForAll, RealizesForAll, for_all}
use Rattle.df_ends.specs.Good.{IsFaithfulForAll, IsGoodForAll, IsGood}

-- ---- how runs end

-- Where no packet is in flight, a cell that has not had all firings of its label is enabled, or the next firing of
-- some cell has a lower rank.
abbrev pub WaitsForLowerRank : Type 0
WaitsForLowerRank = (cells : List Cell) (inputs : List (List Value)) (n : ℕ) (labels : Labels)
    (rank : ℕ → ℕ → List ℕ) (choices : List ℕ) → WellFormed cells → AreValid (declarations cells) inputs
    → LabelsMeet cells inputs n labels → HasRanks cells labels rank
    → events cells inputs choices < n → (after cells inputs choices).packets ≡ []
    → (c : ℕ) → c < length cells → firings (after cells inputs choices) c < length (labels c)
    → (is_enabled cells (after cells inputs choices) c ≡ true)
    ⊎ ((v : ℕ) × (v < length cells) × (firings (after cells inputs choices) v < length (labels v))
    × IsLower (rank v (firings (after cells inputs choices) v)) (rank c (firings (after cells inputs choices) c)))

-- Where labels for n firings have ranks, and no event is possible after fewer than n events: each cell has had all
-- firings of its label, and each result is all that its OUT takes, without a nothing and of the length that the OUT
-- declares.
abbrev pub EndsWhole : Type 0
EndsWhole = (cells : List Cell) (inputs : List (List Value)) (n : ℕ) (labels : Labels)
    (rank : ℕ → ℕ → List ℕ) (choices : List ℕ) → WellFormed cells → AreValid (declarations cells) inputs
    → LabelsMeet cells inputs n labels → HasRanks cells labels rank
    → events cells inputs choices < n → possible cells (after cells inputs choices) ≡ 0
    → ((c : ℕ) → c < length cells → firings (after cells inputs choices) c ≡ length (labels c))
    × ((c k m : ℕ) → (cell_at cells c).kind ≡ kind.Out k m
    → (sure (get_or (after cells inputs choices).results (k - 1) []) ≡ members (received 0 (labels c)))
    × (length (get_or (after cells inputs choices).results (k - 1) []) ≡ m))

-- Cells that realize a meaning for every number of firings are faithful to it, and balanced ones are good.
abbrev pub RealizingForAllIsFaithful : Type 0
RealizingForAllIsFaithful = (cells : List Cell) (meaning : MeaningForAll) → WellFormed cells
    → RealizesForAll cells meaning → IsFaithfulForAll cells meaning

abbrev pub RealizingForAllIsGood : Type 0
RealizingForAllIsGood = (cells : List Cell) (meaning : MeaningForAll) → WellFormed cells → IsBalanced cells
    → RealizesForAll cells meaning → IsGoodForAll cells meaning

-- Where a result has a nothing for every number of turns, some event is possible after every run: none ends.
abbrev pub EndlessRunsGoOn : Type 0
EndlessRunsGoOn = (cells : List Cell) (meaning : MeaningForAll) (inputs : List (List Value)) (k : ℕ)
    → IsGoodForAll cells meaning → AreValid (declarations cells) inputs
    → ((n : ℕ) → Contains (get_or (meaning inputs n) k []) None) → (choices : List ℕ)
    → ¬ (possible cells (after cells inputs choices) ≡ 0)

-- ---- labels of values

-- Labels of values that meet the cells and inputs, taken as members, meet them for every number of firings.
abbrev pub LabelsOfValuesMeet : Type 0
LabelsOfValuesMeet = (cells : List Cell) (inputs : List (List Value)) (labels : plain.Labels) → WellFormed cells
    → AreValid (declarations cells) inputs
    → plain.LabelsMeet cells inputs labels → (n : ℕ) → LabelsMeet cells inputs n (of_values labels)

-- so cells without BUF cells that realize a meaning by values realize it for every number of firings
abbrev pub RealizingCellsRealizeForAll : Type 0
RealizingCellsRealizeForAll = (cells : List Cell) (meaning : Meaning) → WellFormed cells → HasNoBuffers cells
    → Realizes cells meaning → RealizesForAll cells (for_all meaning)

-- and cells that are good for every number of firings are good
abbrev pub GoodForAllIsGood : Type 0
GoodForAllIsGood = (cells : List Cell) (meaning : Meaning) → IsGoodForAll cells (for_all meaning)
    → IsGood cells meaning

-- A held value, which is a loop, is such a case.
abbrev pub HoldIsGood : Type 0
HoldIsGood = IsGoodForAll hold (for_all held)
