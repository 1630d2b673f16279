-- A text has one reading, and a command one verdict.
use Rattle.std.proofs.Common.{◌≡◌, List, ℕ, Result, Ok, Err, ◌++◌, refl, sym, ◌∙◌, ap, subst, codes}
use Rattle.std.specs.Fmt.{decimal}
use Rattle.df_values.specs.declared.values.Value.{Value}
use Rattle.df_cells.specs.declared.cells.Cell.{Cell}
use Rattle.df_cells.specs.declared.cells.InputDecl.{InputDecl}
use Rattle.df_cells.specs.declared.schedules.Schedule.{Schedule}
use Rattle.df_cells.specs.Cells.{inputs_of}
use Rattle.df_iotext.specs.Inputs.{ReadsInputs, HaveOwnNames}
use Rattle.df_iotext.specs.Schedules.{ReadsSchedule}
use Rattle.df_iotext.specs.Laws.{InputsHaveOneReading, InputsHaveReadings, SchedulesHaveOneReading, SchedulesHaveReadings}
use Rattle.df_iotext.specs.declared.inputs.InputAnswer.{InputAnswer}
use Rattle.df_celltext.specs.declared.version.Version.TheVariants.{One, Two}
use Rattle.df_commands.specs.Laws.{AcceptedSourcesBindNewNames, CellFilesHaveOneReading, CellFilesHaveReadings, TraceFilesHaveOneReading, TraceFilesHaveReadings, DualFilesHaveOneReading, DualFilesHaveReadings, CompilationsHaveOneReading, CompilationsHaveReadings, ProgramsHaveOneReading, ProgramsHaveReadings, HasOneVerdict, HasSomeVerdict}
use Rattle.df_commands.specs.Lines.{refusal}
use Rattle.df_commands.specs.Inputs.{decls_by}
use Rattle.df_commands.specs.Commands.{texts_of}
use Rattle.df_commands.specs.declared.command.Command.{Command}
use Rattle.df_commands.specs.declared.command.Command.TheVariants.{Check, Eval, Compile, Go, Run, Trace, Replay, Verify, Migrate, Lockstep}
use Rattle.df_commands.specs.ProgramTexts.{ReadsProgram, ReadsCompilable}
use Rattle.df_commands.specs.Texts.{input_reason, and_word, ReadsInputText, ReadsScheduleText, ReadsCellFile, ReadsTraceFile, ReadsDualFile}
use Rattle.df_commands.specs.Verdicts.{Verdict, Refused, Accepted, Task, TellRight, TellMeaning, CompileSource, CompileAndRun, RunCells, TellEvents, RunLines, TellLeast, WriteAnew, RunInPhases, AfterText, AfterRead, Goes, JudgesInputs, JudgesGo, JudgesCells, JudgesReplay, JudgesVerify, JudgesEval, JudgesLockstep, JudgesTexts, nth, texts_at}
use Rattle.df_syntax.specs.SourceMeaning.{source_inputs}
use Rattle.df_syntax.specs.declared.program.Program.{Program as Tree}
use Rattle.df_commands.proofs.OwnNames.{cells_names}
use Rattle.df_commands.proofs.SourcesMeant.{own_names}

-- ---- one reading

module _ {A B : Type 0} where
  same_found : (p q : A) → (let r : Result A B = Ok p in r) ≡ Ok q → p ≡ q
  same_found p q e = cc

  same_why : (x y : B) → (let r : Result A B = Err x in r) ≡ Err y → x ≡ y
  same_why x y e = cc

  not_both : (p : A) (x : B) → (let r : Result A B = Ok p in r) ≡ Err x → ⊥
  not_both p x e = cc

one_input_reading : InputsHaveOneReading → (decls : List InputDecl) → HaveOwnNames decls → (text : List ℕ) (r s : Result (List (List Value)) (List ℕ))
    → ReadsInputText decls text r → ReadsInputText decls text s → r ≡ s
one_input_reading one decls names text (Ok p) (Ok q) a b = ap Ok (same_found p q (one text decls (Ok p) (Ok q) names a b))
one_input_reading one decls names text (Ok p) (Err line) a (answer, says, b) = absurd (not_both p answer (one text decls (Ok p) (Err answer) names a b))
one_input_reading one decls names text (Err line) (Ok q) (answer, says, a) b = absurd (not_both q answer (one text decls (Ok q) (Err answer) names b a))
one_input_reading one decls names text (Err line) (Err other) (x, says, a) (y, tells, b) =
    ap Err (says ∙ ap (λ answer. refusal (input_reason answer)) (same_why x y (one text decls (Err x) (Err y) names a b)) ∙ sym tells)

abbrev bad_schedule : ℕ → List ℕ
bad_schedule word = refusal (codes "BadSchedule" ++ and_word (decimal word))

one_schedule_reading : SchedulesHaveOneReading → (text : List ℕ) (r s : Result Schedule (List ℕ)) → ReadsScheduleText text r → ReadsScheduleText text s → r ≡ s
one_schedule_reading one text (Ok p) (Ok q) a b = ap Ok (same_found p q (one text (Ok p) (Ok q) a b))
one_schedule_reading one text (Ok p) (Err line) a (word, says, b) = absurd (not_both p word (one text (Ok p) (Err word) a b))
one_schedule_reading one text (Err line) (Ok q) (word, says, a) b = absurd (not_both q word (one text (Ok q) (Err word) b a))
one_schedule_reading one text (Err line) (Err other) (x, says, a) (y, tells, b) =
    ap Err (says ∙ ap bad_schedule (same_why x y (one text (Err x) (Err y) a b)) ∙ sym tells)

-- ---- one verdict

-- a text with one reading leaves one verdict, where what follows does
one_after_goes : {A : Type 0} (Reads : Result A (List ℕ) → Type 0) (read : Result A (List ℕ)) (v w : Verdict) (next : Verdict → A → Type 0)
    → ((a : A) → Reads (Ok a) → next v a → next w a → v ≡ w) → Reads read → Goes read v (next v) → Goes read w (next w) → v ≡ w
one_after_goes Reads (Ok a) v w next one reads p q = one a reads p q
one_after_goes Reads (Err line) v w next one reads p q = p ∙ sym q

one_after_text : {A : Type 0} (Reads : Result A (List ℕ) → Type 0) (v w : Verdict) (next : Verdict → A → Type 0)
    → ((r s : Result A (List ℕ)) → Reads r → Reads s → r ≡ s) → ((a : A) → Reads (Ok a) → next v a → next w a → v ≡ w)
    → AfterText Reads v (next v) → AfterText Reads w (next w) → v ≡ w
one_after_text Reads v w next same one p q =
    one_after_goes Reads p.read v w next one p.reads p.goes (subst (λ r. Goes r w (next w)) (sym (same p.read q.read p.reads q.reads)) q.goes)

one_after_read : {A : Type 0} (read : Result A Verdict) (v w : Verdict) (next : Verdict → A → Type 0) → ((texts : A) → next v texts → next w texts → v ≡ w)
    → AfterRead read v (next v) → AfterRead read w (next w) → v ≡ w
one_after_read (Ok texts) v w next one p q = one texts p q
one_after_read (Err barred) v w next one p q = p ∙ sym q

-- what is asked once the inputs, and once the schedule were read
abbrev last_asked : (List (List Value) → Schedule → Task) → List (List Value) → Verdict → Schedule → Type 0
last_asked task inputs v choices = v ≡ Accepted (task inputs choices)

abbrev schedule_asked : List ℕ → (List (List Value) → Schedule → Task) → Verdict → List (List Value) → Type 0
schedule_asked schedule task v inputs = AfterText (ReadsScheduleText schedule) v (last_asked task inputs v)

one_last : (task : List (List Value) → Schedule → Task) (inputs : List (List Value)) (v w : Verdict) (choices : Schedule) → last_asked task inputs v choices → last_asked task inputs w choices → v ≡ w
one_last task inputs v w choices p q = p ∙ sym q

one_run : InputsHaveOneReading → SchedulesHaveOneReading → (decls : List InputDecl) → HaveOwnNames decls → (input schedule : List ℕ) (task : List (List Value) → Schedule → Task) (v w : Verdict)
    → JudgesInputs decls input schedule task v → JudgesInputs decls input schedule task w → v ≡ w
one_run one_input one_schedule decls names input schedule task v w =
    one_after_text (ReadsInputText decls input) v w (schedule_asked schedule task) (one_input_reading one_input decls names input)
    (λ inputs read. one_after_text (ReadsScheduleText schedule) v w (last_asked task inputs) (one_schedule_reading one_schedule schedule)
    (λ choices chosen. one_last task inputs v w choices))

-- what is asked once the source was read, and once the cells were
abbrev pub run_asked : (input schedule cells dual : List ℕ) → Verdict → Tree → Type 0
run_asked input schedule cells dual v tree =
    JudgesInputs (decls_by (source_inputs tree)) input schedule (λ inputs choices. CompileAndRun tree inputs choices cells dual) v

abbrev cells_asked : (input schedule : List ℕ) → (List Cell → List (List Value) → Schedule → Task) → Verdict → List Cell → Type 0
cells_asked input schedule task v cells = JudgesInputs (inputs_of cells) input schedule (task cells) v

one_go : InputsHaveOneReading → SchedulesHaveOneReading → CompilationsHaveOneReading → AcceptedSourcesBindNewNames → (source input schedule cells dual : List ℕ) (v w : Verdict)
    → JudgesGo source input schedule cells dual v → JudgesGo source input schedule cells dual w → v ≡ w
one_go one_input one_schedule one_compilation new source input schedule cells dual v w =
    one_after_text (ReadsCompilable source) v w (run_asked input schedule cells dual) (one_compilation source)
    (λ tree read. one_run one_input one_schedule (decls_by (source_inputs tree)) (own_names tree (new source tree read.0.0 read.0.1.sized)) input schedule
    (λ inputs choices. CompileAndRun tree inputs choices cells dual) v w)

one_file : InputsHaveOneReading → SchedulesHaveOneReading → CellFilesHaveOneReading → (cells input schedule : List ℕ) (task : List Cell → List (List Value) → Schedule → Task) (v w : Verdict)
    → JudgesCells cells input schedule task v → JudgesCells cells input schedule task w → v ≡ w
one_file one_input one_schedule one_cells cells input schedule task v w =
    one_after_text (ReadsCellFile Two cells) v w (cells_asked input schedule task) (one_cells Two cells)
    (λ list read. one_run one_input one_schedule (inputs_of list) (cells_names list read.1) input schedule (task list) v w)

-- what is asked once the lines of a trace were read, once the inputs were, and once the cells were
abbrev lines_asked : List Cell → List (List Value) → Verdict → List (List ℕ) → Type 0
lines_asked cells inputs v lines = v ≡ Accepted (RunLines cells inputs lines)

abbrev trace_asked : List ℕ → List Cell → Verdict → List (List Value) → Type 0
trace_asked trace cells v inputs = AfterText (ReadsTraceFile cells inputs trace) v (lines_asked cells inputs v)

abbrev replay_asked : (input trace : List ℕ) → Verdict → List Cell → Type 0
replay_asked input trace v cells = AfterText (ReadsInputText (inputs_of cells) input) v (trace_asked trace cells v)

one_replay : InputsHaveOneReading → CellFilesHaveOneReading → TraceFilesHaveOneReading → (cells input trace : List ℕ) (v w : Verdict) → JudgesReplay cells input trace v → JudgesReplay cells input trace w → v ≡ w
one_replay one_input one_cells one_trace cells input trace v w =
    one_after_text (ReadsCellFile Two cells) v w (replay_asked input trace) (one_cells Two cells)
    (λ list read. one_after_text (ReadsInputText (inputs_of list) input) v w (trace_asked trace list) (one_input_reading one_input (inputs_of list) (cells_names list read.1) input)
    (λ inputs given. one_after_text (ReadsTraceFile list inputs trace) v w (lines_asked list inputs) (λ r s. one_trace list inputs trace r s read.1) (λ lines found p q. p ∙ sym q)))

-- what is asked once the flow was read, and once the cells were
abbrev told_of : List Cell → Verdict → List ℕ → Type 0
told_of cells v flow = v ≡ Accepted (TellLeast cells)

abbrev dual_asked : List ℕ → Verdict → List Cell → Type 0
dual_asked dual v cells = AfterText (ReadsDualFile cells dual) v (told_of cells v)

one_pair : CellFilesHaveOneReading → DualFilesHaveOneReading → (cells dual : List ℕ) (v w : Verdict) → JudgesVerify cells dual v → JudgesVerify cells dual w → v ≡ w
one_pair one_cells one_dual cells dual v w =
    one_after_text (ReadsCellFile Two cells) v w (dual_asked dual) (one_cells Two cells)
    (λ list read. one_after_text (ReadsDualFile list dual) v w (told_of list) (λ r s. one_dual list dual r s read.1) (λ flow certified p q. p ∙ sym q))

-- what is asked once the inputs of a source were read, and once the source was
abbrev pub meaning_told : Tree → Verdict → List (List Value) → Type 0
meaning_told tree v inputs = v ≡ Accepted (TellMeaning tree inputs)

abbrev pub meaning_asked : List ℕ → Verdict → Tree → Type 0
meaning_asked input v tree = AfterText (ReadsInputText (decls_by (source_inputs tree)) input) v (meaning_told tree v)

one_meaning : InputsHaveOneReading → ProgramsHaveOneReading → AcceptedSourcesBindNewNames → (source input : List ℕ) (v w : Verdict) → JudgesEval source input v → JudgesEval source input w → v ≡ w
one_meaning one_input one_program new source input v w =
    one_after_text (ReadsProgram source) v w (meaning_asked input) (one_program source)
    (λ tree read. one_after_text (ReadsInputText (decls_by (source_inputs tree)) input) v w (meaning_told tree)
    (one_input_reading one_input (decls_by (source_inputs tree)) (own_names tree (new source tree read.0 read.1.sized)) input) (λ inputs given p q. p ∙ sym q))

-- what is asked once the inputs of cells were read that run in phases, and once the cells were
abbrev pub phases_asked : List Cell → Verdict → List (List Value) → Type 0
phases_asked cells v inputs = v ≡ Accepted (RunInPhases cells inputs)

abbrev pub input_asked : List ℕ → Verdict → List Cell → Type 0
input_asked input v cells = AfterText (ReadsInputText (inputs_of cells) input) v (phases_asked cells v)

one_of_phases : InputsHaveOneReading → CellFilesHaveOneReading → (cells input : List ℕ) (v w : Verdict) → JudgesLockstep cells input v → JudgesLockstep cells input w → v ≡ w
one_of_phases one_input one_cells cells input v w =
    one_after_text (ReadsCellFile Two cells) v w (input_asked input) (one_cells Two cells)
    (λ list read. one_after_text (ReadsInputText (inputs_of list) input) v w (phases_asked list)
    (one_input_reading one_input (inputs_of list) (cells_names list read.1) input) (λ inputs given p q. p ∙ sym q))

-- what is asked once older cells were read
abbrev anew_asked : List ℕ → Verdict → List Cell → Type 0
anew_asked name v list = v ≡ Accepted (WriteAnew list name)

-- what is asked once a source was read that can be compiled
abbrev pub compiled_asked : (cells dual : List ℕ) → Verdict → Tree → Type 0
compiled_asked cells dual v tree = v ≡ Accepted (CompileSource tree cells dual)

one_of_texts : InputsHaveOneReading → SchedulesHaveOneReading → CellFilesHaveOneReading → TraceFilesHaveOneReading → DualFilesHaveOneReading → ProgramsHaveOneReading → CompilationsHaveOneReading → AcceptedSourcesBindNewNames
    → (command : Command) (texts writes : List (List ℕ)) (v w : Verdict) → JudgesTexts command texts writes v → JudgesTexts command texts writes w → v ≡ w
one_of_texts one_input one_schedule one_cells one_trace one_dual one_program one_compilation new Check texts writes v w =
    one_after_text (ReadsProgram (nth texts 0)) v w (λ u tree. u ≡ Accepted TellRight) (one_program (nth texts 0)) (λ tree read p q. p ∙ sym q)
one_of_texts one_input one_schedule one_cells one_trace one_dual one_program one_compilation new Eval texts writes v w = one_meaning one_input one_program new (nth texts 0) (nth texts 1) v w
one_of_texts one_input one_schedule one_cells one_trace one_dual one_program one_compilation new Compile texts writes v w =
    one_after_text (ReadsCompilable (nth texts 0)) v w (compiled_asked (nth writes 0) (nth writes 1)) (one_compilation (nth texts 0)) (λ tree read p q. p ∙ sym q)
one_of_texts one_input one_schedule one_cells one_trace one_dual one_program one_compilation new Go texts writes v w =
    one_go one_input one_schedule one_compilation new (nth texts 0) (nth texts 1) (nth texts 2) (nth writes 0) (nth writes 1) v w
one_of_texts one_input one_schedule one_cells one_trace one_dual one_program one_compilation new Run texts writes v w =
    one_file one_input one_schedule one_cells (nth texts 0) (nth texts 1) (nth texts 2) (λ cells inputs choices. RunCells cells inputs choices) v w
one_of_texts one_input one_schedule one_cells one_trace one_dual one_program one_compilation new Trace texts writes v w =
    one_file one_input one_schedule one_cells (nth texts 0) (nth texts 1) (nth texts 2) (λ cells inputs choices. TellEvents cells inputs choices) v w
one_of_texts one_input one_schedule one_cells one_trace one_dual one_program one_compilation new Replay texts writes v w =
    one_replay one_input one_cells one_trace (nth texts 0) (nth texts 1) (nth texts 2) v w
one_of_texts one_input one_schedule one_cells one_trace one_dual one_program one_compilation new Verify texts writes v w = one_pair one_cells one_dual (nth texts 0) (nth texts 1) v w
one_of_texts one_input one_schedule one_cells one_trace one_dual one_program one_compilation new Migrate texts writes v w =
    one_after_text (ReadsCellFile One (nth texts 0)) v w (anew_asked (nth writes 0)) (one_cells One (nth texts 0)) (λ list read p q. p ∙ sym q)
one_of_texts one_input one_schedule one_cells one_trace one_dual one_program one_compilation new Lockstep texts writes v w = one_of_phases one_input one_cells (nth texts 0) (nth texts 1) v w

pub one_verdict : InputsHaveOneReading → SchedulesHaveOneReading → CellFilesHaveOneReading → TraceFilesHaveOneReading → DualFilesHaveOneReading → ProgramsHaveOneReading → CompilationsHaveOneReading → AcceptedSourcesBindNewNames → HasOneVerdict
one_verdict one_input one_schedule one_cells one_trace one_dual one_program one_compilation new order holds v w =
    one_after_read (texts_at holds order.reads (texts_of order.command)) v w (λ u texts. JudgesTexts order.command texts order.writes u)
    (λ texts. one_of_texts one_input one_schedule one_cells one_trace one_dual one_program one_compilation new order.command texts order.writes v w)

-- ---- there is a verdict

input_text_reading : (decls : List InputDecl) (text : List ℕ) (r : Result (List (List Value)) InputAnswer) → ReadsInputs text decls r
    → ((s : Result (List (List Value)) (List ℕ)) → ¬ ReadsInputText decls text s) → ⊥
input_text_reading decls text (Ok lists) read none = none (Ok lists) read
input_text_reading decls text (Err answer) read none = none (Err (refusal (input_reason answer))) (answer, refl, read)

some_input_reading : InputsHaveReadings → (decls : List InputDecl) (text : List ℕ) → ¬ ((r : Result (List (List Value)) (List ℕ)) → ¬ ReadsInputText decls text r)
some_input_reading some decls text none = some text decls (λ r read. input_text_reading decls text r read none)

schedule_text_reading : (text : List ℕ) (r : Result Schedule ℕ) → ReadsSchedule text r → ((s : Result Schedule (List ℕ)) → ¬ ReadsScheduleText text s) → ⊥
schedule_text_reading text (Ok schedule) read none = none (Ok schedule) read
schedule_text_reading text (Err word) read none = none (Err (bad_schedule word)) (word, refl, read)

some_schedule_reading : SchedulesHaveReadings → (text : List ℕ) → ¬ ((r : Result Schedule (List ℕ)) → ¬ ReadsScheduleText text r)
some_schedule_reading some text none = let found = some text in schedule_text_reading text found.0 found.1 none

some_after_goes : {A : Type 0} (Reads : Result A (List ℕ) → Type 0) (read : Result A (List ℕ)) (next : Verdict → A → Type 0) → ((a : A) → Reads (Ok a) → ¬ ((v : Verdict) → ¬ next v a))
    → Reads read → ¬ ((v : Verdict) → ¬ Goes read v (next v))
some_after_goes Reads (Ok a) next some reads none = some a reads none
some_after_goes Reads (Err line) next some reads none = none (Refused line) refl

some_after_text : {A : Type 0} (Reads : Result A (List ℕ) → Type 0) (next : Verdict → A → Type 0) → ¬ ((r : Result A (List ℕ)) → ¬ Reads r) → ((a : A) → Reads (Ok a) → ¬ ((v : Verdict) → ¬ next v a))
    → ¬ ((v : Verdict) → ¬ AfterText Reads v (next v))
some_after_text Reads next reads some none =
    reads (λ r read. some_after_goes Reads r next some read (λ v goes. none v (record { read = r; reads = read; goes = goes })))

some_after_read : {A : Type 0} (read : Result A Verdict) (next : Verdict → A → Type 0) → ((texts : A) → ¬ ((v : Verdict) → ¬ next v texts)) → ¬ ((v : Verdict) → ¬ AfterRead read v (next v))
some_after_read (Ok texts) next some none = some texts none
some_after_read (Err barred) next some none = none barred refl

some_run : InputsHaveReadings → SchedulesHaveReadings → (decls : List InputDecl) (input schedule : List ℕ) (task : List (List Value) → Schedule → Task)
    → ¬ ((v : Verdict) → ¬ JudgesInputs decls input schedule task v)
some_run some_input some_schedule decls input schedule task =
    some_after_text (ReadsInputText decls input) (schedule_asked schedule task) (some_input_reading some_input decls input)
    (λ inputs read. some_after_text (ReadsScheduleText schedule) (last_asked task inputs) (some_schedule_reading some_schedule schedule)
    (λ choices chosen none. none (Accepted (task inputs choices)) refl))

some_meaning : InputsHaveReadings → ProgramsHaveReadings → (source input : List ℕ) → ¬ ((v : Verdict) → ¬ JudgesEval source input v)
some_meaning some_input some_program source input =
    some_after_text (ReadsProgram source) (meaning_asked input) (some_program source)
    (λ tree read. some_after_text (ReadsInputText (decls_by (source_inputs tree)) input) (meaning_told tree) (some_input_reading some_input (decls_by (source_inputs tree)) input)
    (λ inputs given none. none (Accepted (TellMeaning tree inputs)) refl))

some_file : InputsHaveReadings → SchedulesHaveReadings → CellFilesHaveReadings → (cells input schedule : List ℕ) (task : List Cell → List (List Value) → Schedule → Task)
    → ¬ ((v : Verdict) → ¬ JudgesCells cells input schedule task v)
some_file some_input some_schedule some_cells cells input schedule task =
    some_after_text (ReadsCellFile Two cells) (cells_asked input schedule task) (some_cells Two cells)
    (λ list read. some_run some_input some_schedule (inputs_of list) input schedule (task list))

some_of_texts : InputsHaveReadings → SchedulesHaveReadings → CellFilesHaveReadings → TraceFilesHaveReadings → DualFilesHaveReadings → ProgramsHaveReadings → CompilationsHaveReadings
    → (command : Command) (texts writes : List (List ℕ)) → ¬ ((v : Verdict) → ¬ JudgesTexts command texts writes v)
some_of_texts some_input some_schedule some_cells some_trace some_dual some_program some_compilation Check texts writes =
    some_after_text (ReadsProgram (nth texts 0)) (λ u tree. u ≡ Accepted TellRight) (some_program (nth texts 0)) (λ tree read none. none (Accepted TellRight) refl)
some_of_texts some_input some_schedule some_cells some_trace some_dual some_program some_compilation Eval texts writes = some_meaning some_input some_program (nth texts 0) (nth texts 1)
some_of_texts some_input some_schedule some_cells some_trace some_dual some_program some_compilation Compile texts writes =
    some_after_text (ReadsCompilable (nth texts 0)) (compiled_asked (nth writes 0) (nth writes 1)) (some_compilation (nth texts 0))
    (λ tree read none. none (Accepted (CompileSource tree (nth writes 0) (nth writes 1))) refl)
some_of_texts some_input some_schedule some_cells some_trace some_dual some_program some_compilation Go texts writes =
    some_after_text (ReadsCompilable (nth texts 0)) (run_asked (nth texts 1) (nth texts 2) (nth writes 0) (nth writes 1)) (some_compilation (nth texts 0))
    (λ tree read. some_run some_input some_schedule (decls_by (source_inputs tree)) (nth texts 1) (nth texts 2) (λ inputs choices. CompileAndRun tree inputs choices (nth writes 0) (nth writes 1)))
some_of_texts some_input some_schedule some_cells some_trace some_dual some_program some_compilation Run texts writes =
    some_file some_input some_schedule some_cells (nth texts 0) (nth texts 1) (nth texts 2) (λ cells inputs choices. RunCells cells inputs choices)
some_of_texts some_input some_schedule some_cells some_trace some_dual some_program some_compilation Trace texts writes =
    some_file some_input some_schedule some_cells (nth texts 0) (nth texts 1) (nth texts 2) (λ cells inputs choices. TellEvents cells inputs choices)
some_of_texts some_input some_schedule some_cells some_trace some_dual some_program some_compilation Replay texts writes =
    some_after_text (ReadsCellFile Two (nth texts 0)) (replay_asked (nth texts 1) (nth texts 2)) (some_cells Two (nth texts 0))
    (λ list read. some_after_text (ReadsInputText (inputs_of list) (nth texts 1)) (trace_asked (nth texts 2) list) (some_input_reading some_input (inputs_of list) (nth texts 1))
    (λ inputs given. some_after_text (ReadsTraceFile list inputs (nth texts 2)) (lines_asked list inputs) (some_trace list inputs (nth texts 2))
    (λ lines found none. none (Accepted (RunLines list inputs lines)) refl)))
some_of_texts some_input some_schedule some_cells some_trace some_dual some_program some_compilation Verify texts writes =
    some_after_text (ReadsCellFile Two (nth texts 0)) (dual_asked (nth texts 1)) (some_cells Two (nth texts 0))
    (λ list read. some_after_text (ReadsDualFile list (nth texts 1)) (told_of list) (some_dual list (nth texts 1) read.1) (λ flow certified none. none (Accepted (TellLeast list)) refl))
some_of_texts some_input some_schedule some_cells some_trace some_dual some_program some_compilation Migrate texts writes =
    some_after_text (ReadsCellFile One (nth texts 0)) (anew_asked (nth writes 0)) (some_cells One (nth texts 0)) (λ list read none. none (Accepted (WriteAnew list (nth writes 0))) refl)
some_of_texts some_input some_schedule some_cells some_trace some_dual some_program some_compilation Lockstep texts writes =
    some_after_text (ReadsCellFile Two (nth texts 0)) (input_asked (nth texts 1)) (some_cells Two (nth texts 0))
    (λ list read. some_after_text (ReadsInputText (inputs_of list) (nth texts 1)) (phases_asked list) (some_input_reading some_input (inputs_of list) (nth texts 1))
    (λ inputs given none. none (Accepted (RunInPhases list inputs)) refl))

pub some_verdict : InputsHaveReadings → SchedulesHaveReadings → CellFilesHaveReadings → TraceFilesHaveReadings → DualFilesHaveReadings → ProgramsHaveReadings → CompilationsHaveReadings → HasSomeVerdict
some_verdict some_input some_schedule some_cells some_trace some_dual some_program some_compilation order holds =
    some_after_read (texts_at holds order.reads (texts_of order.command)) (λ u texts. JudgesTexts order.command texts order.writes u)
    (λ texts. some_of_texts some_input some_schedule some_cells some_trace some_dual some_program some_compilation order.command texts order.writes)
