-- The laws of runs in lock step.
use Rattle.std.specs.Prelude.{◌≡◌, ℕ, ◌+◌, ◌*◌, ◌<◌, false, List, [], get_or, length}
use Rattle.df_values.specs.declared.values.Value.{Value}
use Rattle.df_values.specs.Inputs.{AreValid}
use Rattle.df_cells.specs.declared.cells.Cell.{Cell}
use Rattle.df_cells.specs.Cells.{declarations, is_buf}
use Rattle.df_cells.specs.WellFormed.{WellFormed}
use Rattle.df_labels.specs.Labels.{block_turn}
use Rattle.df_labels.specs.Members.{Labels, LabelsMeet, turn_at}
use Rattle.df_labels.specs.MemberPlaces.{HasPlaces}
use Rattle.df_labels.specs.ForAll.{MeaningForAll, IsAllMembers, RealizesForAll}
use Rattle.df_machine.specs.Runs.{after}
use Rattle.df_machine.specs.States.{firings}
use Rattle.df_machine.specs.Events.{possible}
use Rattle.df_stages.specs.Balance.{stage_of, IsBalanced}
use Rattle.df_lockstep.specs.Phases.{after_phases, choices_of_phases}
use Rattle.df_lockstep.specs.Rates.{HasNumbers, KeepsRanks, HappensBy, HasNoLoops, phases_at_most, events_in_time}

-- a phase is a list of choices
abbrev pub PhasesAreRuns : Type 0
PhasesAreRuns = (cells : List Cell) (inputs : List (List Value)) (k : ℕ)
    → after_phases cells inputs k ≡ after cells inputs (choices_of_phases cells inputs k)

-- each phase begins with no packet in flight
abbrev pub PhasesAreQuiet : Type 0
PhasesAreQuiet = (cells : List Cell) (inputs : List (List Value)) (k : ℕ) → (after_phases cells inputs k).packets ≡ []

-- Each firing of labels for n firings happens in a phase of number at most its rank, as far as phases have fewer than
-- n events.
abbrev pub PhasesKeepRanks : Type 0
PhasesKeepRanks = (cells : List Cell) (inputs : List (List Value)) (n : ℕ) (labels : Labels) (rank : ℕ → ℕ → ℕ)
    → WellFormed cells → AreValid (declarations cells) inputs → LabelsMeet cells inputs n labels
    → HasNumbers cells labels rank → KeepsRanks cells inputs n labels rank

-- Labels of well-formed and balanced cells of which none is on a cycle, for more firings than the phases of a run have
-- events.
pub record Covers (cells : List Cell) (inputs : List (List Value)) (n : ℕ) (labels : Labels) : Type 0 where
  pub well_formed : WellFormed cells
  pub fits : AreValid (declarations cells) inputs
  pub balanced : IsBalanced cells
  pub free : HasNoLoops cells
  pub meet : LabelsMeet cells inputs n labels
  pub placed : HasPlaces cells labels
  pub enough : events_in_time cells inputs < n

-- By such labels the firing of turn t of a cell that is no BUF happens in a phase of number at most its stage and
-- twice t.
abbrev pub KeepsFullRate : Type 0
KeepsFullRate = (cells : List Cell) (inputs : List (List Value)) (n : ℕ) (labels : Labels)
    → Covers cells inputs n labels
    → (c i : ℕ) → c < length cells → is_buf cells c ≡ false → i < length (labels c)
    → HappensBy cells inputs c i (stage_of cells c + 2 * block_turn (turn_at labels c i))

-- and the run is drained in time, with all firings of the labels
abbrev pub DrainsInTime : Type 0
DrainsInTime = (cells : List Cell) (inputs : List (List Value)) (n : ℕ) (labels : Labels)
    → Covers cells inputs n labels
    → (possible cells (after_phases cells inputs (phases_at_most cells)) ≡ 0)
    × ((c : ℕ) → c < length cells
    → firings (after_phases cells inputs (phases_at_most cells)) c ≡ length (labels c))

-- so the results of cells that realize a meaning are then all of it
abbrev pub WholeInTime : Type 0
WholeInTime = (cells : List Cell) (meaning : MeaningForAll)
    → WellFormed cells → IsBalanced cells → HasNoLoops cells → RealizesForAll cells meaning
    → (inputs : List (List Value)) (n k : ℕ) → AreValid (declarations cells) inputs → events_in_time cells inputs < n
    → IsAllMembers (get_or (after_phases cells inputs (phases_at_most cells)).results k []) (meaning inputs n) k
