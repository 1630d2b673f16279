-- The full rate of cells without loops, in runs in lock step.
use Rattle.std.specs.Prelude.{◌≡◌, ◌<◌, ◌+◌, ◌*◌, ℕ, false, List, [], length, get_or}
use Rattle.df_values.specs.declared.values.Value.{Value}
use Rattle.df_cells.specs.declared.cells.Cell.{Cell}
use Rattle.df_cells.specs.Cells.{is_buf}
use Rattle.df_labels.specs.Labels.{block_turn}
use Rattle.df_labels.specs.Members.{Labels, LabelsMeet, turn_at}
use Rattle.df_lockstep.specs.Phases.{after_phases}
use Rattle.df_lockstep.specs.Rates.{HappensBy, phases_at_most, events_in_time}
use Rattle.df_machine.specs.Events.{possible}
use Rattle.df_machine.specs.States.{firings}
use Rattle.df_stages.specs.Balance.{stage_of}
use Rattle.df_syntax.specs.SourceMeaning.{source_mean}
use Rattle.df_syntax.specs.declared.program.Program.{Program as Tree}

-- Labels for n firings give each firing its turn. The firing of turn t of a cell that is no BUF happens in a phase of
-- number at most its stage and twice t: an element enters in every second phase. After as many phases as the greatest
-- stage and twice the length of the longest source, less one, all firings of the labels have happened.
pub record HasRate (cells : List Cell) (inputs : List (List Value)) (n : ℕ) : Type 0 where
  pub labels : Labels
  pub meet : LabelsMeet cells inputs n labels
  pub rate : (c i : ℕ) → c < length cells → is_buf cells c ≡ false → i < length (labels c)
      → HappensBy cells inputs c i (stage_of cells c + 2 * block_turn (turn_at labels c i))
  pub all : (c : ℕ) → c < length cells
      → firings (after_phases cells inputs (phases_at_most cells)) c ≡ length (labels c)

-- It is so for each n above the number of events of these phases. After them no event is possible, and each result is
-- all that the source means.
pub record IsInTime (tree : Tree) (cells : List Cell) (inputs : List (List Value)) : Type 0 where
  pub rated : (n : ℕ) → events_in_time cells inputs < n → HasRate cells inputs n
  pub drained : possible cells (after_phases cells inputs (phases_at_most cells)) ≡ 0
  pub whole : (k : ℕ) → get_or (after_phases cells inputs (phases_at_most cells)).results k []
      ≡ get_or (source_mean tree inputs) k []
