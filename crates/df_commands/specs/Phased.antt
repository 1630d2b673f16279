-- Runs in lock step: after how many phases they end, and the text that reports them.
use Rattle.std.specs.Prelude.{◌≡◌, ◌≢◌, ◌≤◌, ◌<◌, ◌⊎◌, ℕ, List, ◌++◌, length, codes}
use Rattle.std.specs.Fmt.{decimal}
use Rattle.df_values.specs.declared.values.Value.{Value}
use Rattle.df_cells.specs.declared.cells.Cell.{Cell}
use Rattle.df_machine.specs.Events.{possible}
use Rattle.df_machine.specs.Reports.{Report, report_at}
use Rattle.df_lockstep.specs.Phases.{after_phases, choices_of_phases}
use Rattle.df_commands.specs.Lines.{line}
use Rattle.df_commands.specs.Reports.{report_text}

-- the most phases of a run
abbrev pub most_phases : ℕ
most_phases = 1_000_000

-- A run ends after so many phases: as soon as no event is possible, or where it has had as many as a run may have.
pub record EndsAfter (cells : List Cell) (inputs : List (List Value)) (phases : ℕ) : Type 0 where
  pub some : (k : ℕ) → k < phases → possible cells (after_phases cells inputs k) ≢ 0
  pub limited : phases ≤ most_phases
  pub ended : (possible cells (after_phases cells inputs phases) ≡ 0) ⊎ (phases ≡ most_phases)

-- the report of the run by so many phases
abbrev pub report_of_phases : List Cell → List (List Value) → ℕ → Report
report_of_phases cells inputs phases = report_at cells (after_phases cells inputs phases) (length (choices_of_phases cells inputs phases))

-- its text, and how many phases there were
abbrev pub phases_line : ℕ → List ℕ
phases_line phases = line (codes "phases " ++ decimal phases)

abbrev pub phases_text : List Cell → List (List Value) → ℕ → List ℕ
phases_text cells inputs phases = report_text (report_of_phases cells inputs phases) ++ phases_line phases
