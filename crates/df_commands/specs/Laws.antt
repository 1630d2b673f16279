-- What is promised of the cells of every source, and of the verdict.
use Rattle.std.specs.Prelude.{◌≡◌, ℕ, List, All, Result, IsTrue, true}
use Rattle.df_values.specs.Inputs.{HasExtent, AreValid, declared}
use Rattle.df_values.specs.declared.values.Value.{Value}
use Rattle.df_values.specs.declared.inputs.Input.{Input}
use Rattle.df_syntax.specs.WellShaped.{HaveRanges, IsPiped}
use Rattle.df_shape.specs.Shaped.{shaped}
use Rattle.df_io.specs.Told.{Holds}
use Rattle.df_core.specs.Meaning.{flat_mean}
use Rattle.df_core.specs.declared.flat.Flat.{Flat}
use Rattle.df_build_elem.specs.Program.{declared_inputs}
use Rattle.df_labels.specs.ForAll.{RealizesForAll, for_all}
use Rattle.df_lockstep.specs.Rates.{HasNoLoops}
use Rattle.df_stages.specs.Balance.{IsBalanced}
use Rattle.df_cells.specs.declared.cells.Cell.{Cell}
use Rattle.df_cells.specs.Cells.{inputs_of}
use Rattle.df_cells.specs.declared.schedules.Schedule.{Schedule}
use Rattle.df_celltext.specs.declared.version.Version.{Version}
use Rattle.df_commands.specs.Compiled.{IsGood, run_of}
use Rattle.df_commands.specs.Commands.{Order}
use Rattle.df_commands.specs.InTime.{IsInTime}
use Rattle.df_commands.specs.Ready.{IsFlatOf}
use Rattle.df_commands.specs.Texts.{ReadsCellFile, ReadsTraceFile, ReadsDualFile}
use Rattle.df_commands.specs.Verdicts.{Verdict, Judges}
use Rattle.df_cells.specs.WellFormed.{WellFormed}
use Rattle.df_syntax.specs.FreshNames.{names_are_new}
use Rattle.df_syntax.specs.SourceMeaning.{source_inputs, source_mean}
use Rattle.df_syntax.specs.declared.program.Program.{Program as Tree}
use Rattle.df_commands.specs.ProgramTexts.{IsTextOfTree, IsSized, ReadsProgram, ReadsCompilable}

-- Cells with the inputs of a source that realize what its flat program means are good for the source.
abbrev pub CellsOfSourcesAreGood : Type 0
CellsOfSourcesAreGood = (tree : Tree) (flat : Flat) (cells : List Cell) → IsFlatOf tree flat
    → inputs_of cells ≡ declared_inputs flat → WellFormed cells → IsBalanced cells
    → RealizesForAll cells (for_all (flat_mean flat)) → IsGood tree cells

-- And where no cell is on a loop, they keep the full rate.
abbrev pub CellsOfSourcesAreInTime : Type 0
CellsOfSourcesAreInTime = (tree : Tree) (flat : Flat) (cells : List Cell) → IsFlatOf tree flat
    → inputs_of cells ≡ declared_inputs flat → WellFormed cells → IsBalanced cells
    → RealizesForAll cells (for_all (flat_mean flat)) → HasNoLoops cells
    → (inputs : List (List Value)) → AreValid (declared (source_inputs tree)) inputs → IsInTime tree cells inputs

-- The report of a drained run of good cells has the results that the source means.
abbrev pub DrainedRunsTellTheMeaning : Type 0
DrainedRunsTellTheMeaning = (tree : Tree) (cells : List Cell) (inputs : List (List Value)) (schedule : Schedule)
    → IsGood tree cells → AreValid (declared (source_inputs tree)) inputs → (run_of cells inputs schedule).drained ≡ true
    → (run_of cells inputs schedule).results ≡ source_mean tree inputs

-- two verdicts on one command and the same files are the same
abbrev pub HasOneVerdict : Type 0
HasOneVerdict = (order : Order) (holds : Holds) (v w : Verdict) → Judges order holds v → Judges order holds w → v ≡ w

-- it can't be that there is none
abbrev pub HasSomeVerdict : Type 0
HasSomeVerdict = (order : Order) (holds : Holds) → ¬ ((v : Verdict) → ¬ Judges order holds v)

-- the text of a cell file has one reading at most
abbrev pub CellFilesHaveOneReading : Type 0
CellFilesHaveOneReading = (version : Version) (text : List ℕ) (one other : Result (List Cell) (List ℕ)) → ReadsCellFile version text one → ReadsCellFile version text other → one ≡ other

-- there is no text without a reading
abbrev pub CellFilesHaveReadings : Type 0
CellFilesHaveReadings = (version : Version) (text : List ℕ) → ¬ ((reading : Result (List Cell) (List ℕ)) → ¬ ReadsCellFile version text reading)

-- the text of a dual file has one reading at most for well-formed cells
abbrev pub DualFilesHaveOneReading : Type 0
DualFilesHaveOneReading = (cells : List Cell) (text : List ℕ) (one other : Result (List ℕ) (List ℕ)) → WellFormed cells
    → ReadsDualFile cells text one → ReadsDualFile cells text other → one ≡ other

-- there is no text without a reading
abbrev pub DualFilesHaveReadings : Type 0
DualFilesHaveReadings = (cells : List Cell) (text : List ℕ) → WellFormed cells → ¬ ((reading : Result (List ℕ) (List ℕ)) → ¬ ReadsDualFile cells text reading)

-- the text of a trace has one reading at most for well-formed cells and any inputs
abbrev pub TraceFilesHaveOneReading : Type 0
TraceFilesHaveOneReading = (cells : List Cell) (inputs : List (List Value)) (text : List ℕ) (one other : Result (List (List ℕ)) (List ℕ)) → WellFormed cells
    → ReadsTraceFile cells inputs text one → ReadsTraceFile cells inputs text other → one ≡ other

-- there is no text without a reading
abbrev pub TraceFilesHaveReadings : Type 0
TraceFilesHaveReadings = (cells : List Cell) (inputs : List (List Value)) (text : List ℕ) → ¬ ((reading : Result (List (List ℕ)) (List ℕ)) → ¬ ReadsTraceFile cells inputs text reading)

-- the text of a source has one reading at most
abbrev pub ProgramsHaveOneReading : Type 0
ProgramsHaveOneReading = (text : List ℕ) (one other : Result Tree (List ℕ)) → ReadsProgram text one → ReadsProgram text other → one ≡ other

-- there is no text without a reading
abbrev pub ProgramsHaveReadings : Type 0
ProgramsHaveReadings = (text : List ℕ) → ¬ ((reading : Result Tree (List ℕ)) → ¬ ReadsProgram text reading)

-- whether the text of a source can be compiled has one answer at most
abbrev pub CompilationsHaveOneReading : Type 0
CompilationsHaveOneReading = (text : List ℕ) (one other : Result Tree (List ℕ)) → ReadsCompilable text one → ReadsCompilable text other → one ≡ other

-- and it has one
abbrev pub CompilationsHaveReadings : Type 0
CompilationsHaveReadings = (text : List ℕ) → ¬ ((reading : Result Tree (List ℕ)) → ¬ ReadsCompilable text reading)

-- the program in blocks of an accepted source keeps what is left of the demands on it, where its ranges are within their limits
abbrev pub AcceptedSourcesKeepTheirDemands : Type 0
AcceptedSourcesKeepTheirDemands = (text : List ℕ) (tree : Tree) → IsTextOfTree text tree → IsSized tree → HaveRanges (shaped tree).blocks
    → All (λ (p : Input). HasExtent p.extent) (shaped tree).parameters → IsPiped (shaped tree)

-- the names that an accepted source binds in its functions are new where it binds them
abbrev pub AcceptedSourcesBindNewNames : Type 0
AcceptedSourcesBindNewNames = (text : List ℕ) (tree : Tree) → IsTextOfTree text tree → IsSized tree → IsTrue (names_are_new tree)
