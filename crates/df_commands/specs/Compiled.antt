-- What is promised of the cells of a source, and what a task may therefore write.
use Rattle.std.specs.Prelude.{◌≡◌, ℕ, List, [], ◌∷◌, length, get_or, true, codes}
use Rattle.df_values.specs.declared.values.Value.{Value}
use Rattle.df_values.specs.Inputs.{AreValid, declared}
use Rattle.df_cells.specs.declared.cells.Cell.{Cell}
use Rattle.df_cells.specs.declared.schedules.Schedule.{Schedule}
use Rattle.df_cells.specs.Cells.{inputs_of}
use Rattle.df_cells.specs.Schedules.{choices_of}
use Rattle.df_cells.specs.WellFormed.{WellFormed}
use Rattle.df_celltext.specs.CellText.{cell_text}
use Rattle.df_celltext.specs.Writable.{HaveNames, IsTextOf}
use Rattle.df_iotext.specs.Printed.{result_lines}
use Rattle.df_stages.specs.Balance.{IsBalanced, IsLeast, IsCertificate}
use Rattle.df_stages.specs.Skeletons.{arcs}
use Rattle.df_dual_check.specs.DualTexts.{dual_text}
use Rattle.df_labels.specs.Histories.{IsPrefix}
use Rattle.df_lockstep.specs.Rates.{HasNoLoops}
use Rattle.df_machine.specs.Events.{chosen_event, possible}
use Rattle.df_machine.specs.Reports.{Report, report}
use Rattle.df_machine.specs.Runs.{after, IsClash}
use Rattle.df_machine.specs.States.{start}
use Rattle.df_trace.specs.Traces.{HaveLines, trace_text}
use Rattle.df_syntax.specs.SourceMeaning.{source_inputs, source_mean}
use Rattle.df_syntax.specs.declared.program.Program.{Program as Tree}
use Rattle.df_build_elem.specs.Program.{program_graph}
use Rattle.df_buffers_laws.specs.HasSkeleton.{HasSkeleton}
use Rattle.df_buffers_laws.specs.Staged.{HasLowestStage}
use Rattle.df_commands.specs.Effects.{Effect}
use Rattle.df_commands.specs.InTime.{IsInTime}
use Rattle.df_commands.specs.Inputs.{decls_by}
use Rattle.df_commands.specs.Lines.{line}
use Rattle.df_commands.specs.Phased.{EndsAfter, report_of_phases, phases_text}
use Rattle.df_commands.specs.ProgramTexts.{flat_of}
use Rattle.df_commands.specs.Reports.{report_text, counts_text, least_text, migrated_text}
use Rattle.df_commands.specs.Verdicts.{Task, TellRight, TellMeaning, CompileSource, CompileAndRun, RunCells, TellEvents, RunLines, TellLeast, WriteAnew, RunInPhases}

-- ---- what is promised

-- For all valid inputs and every list of choices, of any length: no event on the way is a clash, each result is a
-- prefix of the same result of what the source means, and all of it whenever no event is possible.
pub record IsGood (tree : Tree) (cells : List Cell) : Type 0 where
  pub no_clash : (inputs : List (List Value)) (choices : List ℕ) (choice : ℕ)
      → AreValid (declared (source_inputs tree)) inputs
      → ¬ IsClash (after cells inputs choices) (chosen_event cells (after cells inputs choices) choice)
  pub results : (inputs : List (List Value)) (choices : List ℕ)
      → AreValid (declared (source_inputs tree)) inputs
      → length (after cells inputs choices).results ≡ length (source_mean tree inputs)
  pub prefixes : (inputs : List (List Value)) (choices : List ℕ) (k : ℕ)
      → AreValid (declared (source_inputs tree)) inputs
      → IsPrefix (get_or (after cells inputs choices).results k []) (get_or (source_mean tree inputs) k [])
  pub whole : (inputs : List (List Value)) (choices : List ℕ) (k : ℕ)
      → AreValid (declared (source_inputs tree)) inputs
      → possible cells (after cells inputs choices) ≡ 0
      → get_or (after cells inputs choices).results k [] ≡ get_or (source_mean tree inputs) k []

-- The cells of a source: well-formed, with the inputs of the source under names that a cell file may have, with the
-- skeleton of its flat program, balanced with least buffers from stage 0 on, good, and in time where no cell is on a
-- loop. The flow certifies that the buffers are least.
pub record IsCompiled (tree : Tree) (cells : List Cell) (flow : List ℕ) : Type 0 where
  pub well_formed : WellFormed cells
  pub inputs : inputs_of cells ≡ decls_by (source_inputs tree)
  pub named : HaveNames cells
  pub skeleton : HasSkeleton cells (program_graph (flat_of tree))
  pub balanced : IsBalanced cells
  pub least : IsLeast cells
  pub lowest : HasLowestStage cells
  pub certificate : IsCertificate cells flow
  pub good : IsGood tree cells
  pub in_time : HasNoLoops cells → (lists : List (List Value)) → AreValid (declared (source_inputs tree)) lists
      → IsInTime tree cells lists

-- ---- what may be written

-- the report of a run, and whether it is drained
abbrev pub run_of : List Cell → List (List Value) → Schedule → Report
run_of cells inputs schedule = report cells inputs (choices_of schedule)

-- the files of cells and of their dual flow, under two names
abbrev pub files_of : List Cell → List ℕ → (cells_name dual_name : List ℕ) → List (List ℕ × List ℕ)
files_of cells flow cells_name dual_name = (cells_name, cell_text cells) ∷ (dual_name, dual_text (arcs cells) flow) ∷ []

-- What may be written for a task. One list of cells stands for the files, the text and the status. What is written of
-- it is its text, which can be read again.
abbrev pub MayDo : Task → Effect → Type 0
MayDo TellRight effect = effect ≡ record { files = []; text = line (codes "ok"); is_done = true }
-- the lists of the results, as the report of a run has them
MayDo (TellMeaning tree inputs) effect =
    effect ≡ record { files = []; text = result_lines 1 (source_mean tree inputs); is_done = true }
MayDo (CompileSource tree cells_name dual_name) effect =
    (cells : List Cell) × (flow : List ℕ) × IsCompiled tree cells flow × IsTextOf (cell_text cells) cells
    × (effect ≡ record { files = files_of cells flow cells_name dual_name; text = counts_text cells; is_done = true })
MayDo (CompileAndRun tree inputs schedule cells_name dual_name) effect =
    (cells : List Cell) × (flow : List ℕ) × IsCompiled tree cells flow × IsTextOf (cell_text cells) cells
    × (effect ≡ record {
      files = files_of cells flow cells_name dual_name;
      text = report_text (run_of cells inputs schedule);
      is_done = (run_of cells inputs schedule).drained;
    })
MayDo (RunCells cells inputs schedule) effect =
    effect ≡ record {
      files = [];
      text = report_text (run_of cells inputs schedule);
      is_done = (run_of cells inputs schedule).drained;
    }
-- the lines of the events of the run, in order
MayDo (TellEvents cells inputs schedule) effect =
    effect ≡ record {
      files = [];
      text = trace_text cells inputs (start cells) (choices_of schedule);
      is_done = (run_of cells inputs schedule).drained;
    }
-- the report of the run whose events have these lines
MayDo (RunLines cells inputs lines) effect =
    (choices : List ℕ) × HaveLines cells inputs (start cells) choices lines
    × (effect ≡ record { files = []; text = report_text (report cells inputs choices); is_done = (report cells inputs choices).drained })
-- it is told only of cells that are balanced, and whose buffers are least
MayDo (TellLeast cells) effect =
    IsBalanced cells × IsLeast cells × (effect ≡ record { files = []; text = least_text cells; is_done = true })
MayDo (WriteAnew cells name) effect =
    effect ≡ record { files = (name, cell_text cells) ∷ []; text = migrated_text cells; is_done = true }
-- the phases of the run are as many as it takes until no event is possible, within the limit
MayDo (RunInPhases cells inputs) effect =
    (phases : ℕ) × EndsAfter cells inputs phases
    × (effect ≡ record {
      files = [];
      text = phases_text cells inputs phases;
      is_done = (report_of_phases cells inputs phases).drained;
    })
