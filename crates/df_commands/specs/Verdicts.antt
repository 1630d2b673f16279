-- What a command is to do, or why it does nothing.
use Rattle.std.specs.Prelude.{◌≡◌, ℕ, List, [], ◌∷◌, ◌++◌, length, get_or, Option, Some, None, Result, Ok, Err, if◌then◌else◌, nat_lt, codes}
use Rattle.std.specs.FinMap as table
use Rattle.df_io.specs.Told.{Holds}
use Rattle.df_values.specs.declared.values.Value.{Value}
use Rattle.df_cells.specs.declared.cells.Cell.{Cell}
use Rattle.df_cells.specs.declared.cells.InputDecl.{InputDecl}
use Rattle.df_cells.specs.declared.schedules.Schedule.{Schedule}
use Rattle.df_cells.specs.Cells.{inputs_of}
use Rattle.df_celltext.specs.declared.version.Version.TheVariants.{One, Two}
use Rattle.df_syntax.specs.declared.program.Program.{Program as Tree}
use Rattle.df_syntax.specs.SourceMeaning.{source_inputs}
use Rattle.df_commands.specs.declared.command.Command.{Command}
use Rattle.df_commands.specs.declared.command.Command.TheVariants.{Check, Eval, Compile, Go, Run, Trace, Replay, Verify, Migrate, Lockstep}
use Rattle.df_commands.specs.declared.command.Text.{Text}
use Rattle.df_commands.specs.Commands.{Order, texts_of, label_of, limit_of}
use Rattle.df_commands.specs.Inputs.{decls_by}
use Rattle.df_commands.specs.Lines.{refusal}
use Rattle.df_commands.specs.ProgramTexts.{ReadsProgram, ReadsCompilable}
use Rattle.df_commands.specs.Texts.{ReadsInputText, ReadsScheduleText, ReadsCellFile, ReadsTraceFile, ReadsDualFile}

-- What the texts of a command ask for, once none of them is refused: that a source is told to be right, that its
-- meaning is told under some inputs, that it is compiled and its cells are written, that its cells are run as well,
-- that cells are run, that the events of their run are told, that they are run by lines of events, that it is told of
-- cells that their buffers are balanced and least, that cells of an older form are written anew, or that cells are run
-- in phases.
pub data Task : Type 0 where
  TellRight : Task
  TellMeaning : (tree : Tree) (inputs : List (List Value)) → Task
  CompileSource : (tree : Tree) (cells dual : List ℕ) → Task
  CompileAndRun : (tree : Tree) (inputs : List (List Value)) (schedule : Schedule) (cells dual : List ℕ) → Task
  RunCells : (cells : List Cell) (inputs : List (List Value)) (schedule : Schedule) → Task
  TellEvents : (cells : List Cell) (inputs : List (List Value)) (schedule : Schedule) → Task
  RunLines : (cells : List Cell) (inputs : List (List Value)) (lines : List (List ℕ)) → Task
  TellLeast : (cells : List Cell) → Task
  WriteAnew : (cells : List Cell) (name : List ℕ) → Task
  RunInPhases : (cells : List Cell) (inputs : List (List Value)) → Task

-- A file to be read isn't there, a text is refused by this line, or the task is to be done.
pub data Verdict : Type 0 where
  Absent : Verdict
  Refused : (line : List ℕ) → Verdict
  Accepted : (task : Task) → Verdict

-- ---- the reads

-- the text of a file, unless it isn't there or is over its limit
abbrev pub within : Option (List ℕ) → Text → Result (List ℕ) Verdict
within None kind = Err Absent
within (Some text) kind =
    if nat_lt (limit_of kind) (length text) then Err (Refused (refusal (codes "TooLong " ++ label_of kind))) else Ok text

unfoldable pub text_at : Holds → List ℕ → Text → Result (List ℕ) Verdict
text_at holds name kind = within (table.get holds name) kind

-- one text and those behind it, or the verdict of the first that isn't given
abbrev pub and_rest : Result (List ℕ) Verdict → Result (List (List ℕ)) Verdict → Result (List (List ℕ)) Verdict
and_rest (Ok text) (Ok texts) = Ok (text ∷ texts)
and_rest (Ok text) (Err barred) = Err barred
and_rest (Err barred) rest = Err barred

-- All files are read in their order, each within its limit, before the first text is judged.
abbrev pub texts_at : Holds → (names : List (List ℕ)) → List Text → Result (List (List ℕ)) Verdict
texts_at holds (name ∷ names) (kind ∷ kinds) = and_rest (text_at holds name kind) (texts_at holds names kinds)
texts_at holds [] kinds = Ok []
texts_at holds (name ∷ names) [] = Ok []

-- The verdict is v where the reads give it. Else it is what `next` says of the texts.
abbrev pub AfterRead : {A : Type 0} → Result A Verdict → Verdict → (A → Type 0) → Type 0
AfterRead (Ok texts) v next = next texts
AfterRead (Err barred) v next = v ≡ barred

-- ---- the texts

-- The verdict is v where a text, by what reading it gives, is refused so. Else it is what `next` says of what the text means.
abbrev pub Goes : {A : Type 0} → Result A (List ℕ) → Verdict → (A → Type 0) → Type 0
Goes (Ok meant) v next = next meant
Goes (Err line) v next = v ≡ Refused line

pub record AfterText {A : Type 0} (Reads : Result A (List ℕ) → Type 0) (v : Verdict) (next : A → Type 0) : Type 0 where
  pub read : Result A (List ℕ)
  pub reads : Reads read
  pub goes : Goes read v next

-- The inputs that are declared and then the schedule are judged, and the task is to be done that they complete.
abbrev pub JudgesInputs : List InputDecl → (input schedule : List ℕ) → (List (List Value) → Schedule → Task) → Verdict → Type 0
JudgesInputs decls input schedule task v =
    AfterText (ReadsInputText decls input) v (λ inputs.
    AfterText (ReadsScheduleText schedule) v (λ choices.
    v ≡ Accepted (task inputs choices)))

-- The texts are judged in their order, the source or the cells first.
abbrev pub JudgesGo : (source input schedule : List ℕ) → (cells dual : List ℕ) → Verdict → Type 0
JudgesGo source input schedule cells dual v =
    AfterText (ReadsCompilable source) v (λ tree.
    JudgesInputs (decls_by (source_inputs tree)) input schedule
    (λ inputs choices. CompileAndRun tree inputs choices cells dual) v)

abbrev pub JudgesCells : (cells input schedule : List ℕ) → (List Cell → List (List Value) → Schedule → Task) → Verdict → Type 0
JudgesCells cells input schedule task v =
    AfterText (ReadsCellFile Two cells) v (λ list. JudgesInputs (inputs_of list) input schedule (task list) v)

abbrev pub JudgesRun : (cells input schedule : List ℕ) → Verdict → Type 0
JudgesRun cells input schedule v = JudgesCells cells input schedule (λ list inputs choices. RunCells list inputs choices) v

abbrev pub JudgesTrace : (cells input schedule : List ℕ) → Verdict → Type 0
JudgesTrace cells input schedule v = JudgesCells cells input schedule (λ list inputs choices. TellEvents list inputs choices) v

-- the events are the check of the trace
abbrev pub JudgesReplay : (cells input trace : List ℕ) → Verdict → Type 0
JudgesReplay cells input trace v =
    AfterText (ReadsCellFile Two cells) v (λ list.
    AfterText (ReadsInputText (inputs_of list) input) v (λ inputs.
    AfterText (ReadsTraceFile list inputs trace) v (λ lines.
    v ≡ Accepted (RunLines list inputs lines))))

abbrev pub JudgesCheck : (source : List ℕ) → Verdict → Type 0
JudgesCheck source v = AfterText (ReadsProgram source) v (λ tree. v ≡ Accepted TellRight)

abbrev pub JudgesEval : (source input : List ℕ) → Verdict → Type 0
JudgesEval source input v =
    AfterText (ReadsProgram source) v (λ tree.
    AfterText (ReadsInputText (decls_by (source_inputs tree)) input) v (λ inputs.
    v ≡ Accepted (TellMeaning tree inputs)))

abbrev pub JudgesCompile : (source : List ℕ) → (cells dual : List ℕ) → Verdict → Type 0
JudgesCompile source cells dual v = AfterText (ReadsCompilable source) v (λ tree. v ≡ Accepted (CompileSource tree cells dual))

abbrev pub JudgesVerify : (cells dual : List ℕ) → Verdict → Type 0
JudgesVerify cells dual v =
    AfterText (ReadsCellFile Two cells) v (λ list.
    AfterText (ReadsDualFile list dual) v (λ flow.
    v ≡ Accepted (TellLeast list)))

abbrev pub JudgesMigrate : (old : List ℕ) → (cells : List ℕ) → Verdict → Type 0
JudgesMigrate old cells v = AfterText (ReadsCellFile One old) v (λ list. v ≡ Accepted (WriteAnew list cells))

abbrev pub JudgesLockstep : (cells input : List ℕ) → Verdict → Type 0
JudgesLockstep cells input v =
    AfterText (ReadsCellFile Two cells) v (λ list.
    AfterText (ReadsInputText (inputs_of list) input) v (λ inputs.
    v ≡ Accepted (RunInPhases list inputs)))

-- the text, or the name, of this number
abbrev pub nth : List (List ℕ) → ℕ → List ℕ
nth list k = get_or list k []

-- What each command asks of its texts, given the names of the files that it writes.
abbrev pub JudgesTexts : Command → (texts writes : List (List ℕ)) → Verdict → Type 0
JudgesTexts Check texts writes v = JudgesCheck (nth texts 0) v
JudgesTexts Eval texts writes v = JudgesEval (nth texts 0) (nth texts 1) v
JudgesTexts Compile texts writes v = JudgesCompile (nth texts 0) (nth writes 0) (nth writes 1) v
JudgesTexts Go texts writes v = JudgesGo (nth texts 0) (nth texts 1) (nth texts 2) (nth writes 0) (nth writes 1) v
JudgesTexts Run texts writes v = JudgesRun (nth texts 0) (nth texts 1) (nth texts 2) v
JudgesTexts Trace texts writes v = JudgesTrace (nth texts 0) (nth texts 1) (nth texts 2) v
JudgesTexts Replay texts writes v = JudgesReplay (nth texts 0) (nth texts 1) (nth texts 2) v
JudgesTexts Verify texts writes v = JudgesVerify (nth texts 0) (nth texts 1) v
JudgesTexts Migrate texts writes v = JudgesMigrate (nth texts 0) (nth writes 0) v
JudgesTexts Lockstep texts writes v = JudgesLockstep (nth texts 0) (nth texts 1) v

abbrev pub Judges : Order → Holds → Verdict → Type 0
Judges order holds v = AfterRead (texts_at holds order.reads (texts_of order.command)) v (λ texts. JudgesTexts order.command texts order.writes v)
