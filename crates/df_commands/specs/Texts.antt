-- What the reading of each text gives: what it means, or the line of its refusal.
use Rattle.std.specs.Prelude.{◌≡◌, ◌⊎◌, ℕ, List, [], ◌++◌, codes, Result, Ok, Err}
use Rattle.std.specs.Fmt.{decimal, signed_decimal}
use Rattle.df_values.specs.declared.values.Value.{Value}
use Rattle.df_cells.specs.declared.cells.Cell.{Cell}
use Rattle.df_cells.specs.declared.cells.InputDecl.{InputDecl}
use Rattle.df_cells.specs.declared.schedules.Schedule.{Schedule}
use Rattle.df_cells.specs.WellFormed.{WellFormed}
use Rattle.df_celltext.specs.declared.version.Version.{Version}
use Rattle.df_celltext.specs.Writable.{IsTextIn}
use Rattle.df_celltext.specs.WrongLines.{FirstWrongLineIn}
use Rattle.df_iotext.specs.Inputs.{ReadsInputs}
use Rattle.df_iotext.specs.Schedules.{ReadsSchedule}
use Rattle.df_iotext.specs.declared.inputs.InputAnswer.{InputAnswer}
use Rattle.df_iotext.specs.declared.inputs.InputAnswer.TheVariants as input
use Rattle.df_wellformed.specs.declared.answers.Rule.{Rule}
use Rattle.df_wellformed.specs.declared.answers.Rule.TheVariants as rule
use Rattle.df_wellformed.specs.Rules.{FailsFirst}
use Rattle.df_dual_check.specs.declared.answer.DualAnswer.{DualAnswer}
use Rattle.df_dual_check.specs.declared.answer.DualAnswer.TheVariants as dual
use Rattle.df_dual_check.specs.Checked.{IsCertified, ShownWrong}
use Rattle.df_dual_check.specs.DualTexts.{IsDualText, IsFirstWrong}
use Rattle.df_stages.specs.Skeletons.{arcs}
use Rattle.df_cells.specs.declared.cells.Dest.{Dest}
use Rattle.df_trace.specs.Traces.{lines_of, AreLines, IsWrongAt}
use Rattle.df_commands.specs.Lines.{refusal}

-- ---- inputs

-- a word with a space before it
abbrev pub and_word : List ℕ → List ℕ
and_word word = codes " " ++ word

-- why the text of the inputs is refused; want of memory refuses nothing
abbrev pub input_reason : InputAnswer → List ℕ
input_reason (input.BadInput line) = codes "BadInput" ++ and_word (decimal line)
input_reason (input.ExtraInput line) = codes "ExtraInput" ++ and_word (decimal line)
input_reason (input.WrongLength name have want) = codes "WrongLength" ++ (and_word name ++ (and_word (decimal have) ++ and_word (decimal want)))
input_reason (input.MissingInput name) = codes "MissingInput" ++ and_word name
input_reason input.Memory = []

abbrev pub ReadsInputText : List InputDecl → List ℕ → Result (List (List Value)) (List ℕ) → Type 0
ReadsInputText decls text (Ok lists) = ReadsInputs text decls (Ok lists)
ReadsInputText decls text (Err line) = (answer : InputAnswer) × (line ≡ refusal (input_reason answer)) × ReadsInputs text decls (Err answer)

-- ---- schedules

abbrev pub ReadsScheduleText : List ℕ → Result Schedule (List ℕ) → Type 0
ReadsScheduleText text (Ok schedule) = ReadsSchedule text (Ok schedule)
ReadsScheduleText text (Err line) = (word : ℕ) × (line ≡ refusal (codes "BadSchedule" ++ and_word (decimal word))) × ReadsSchedule text (Err word)

-- ---- cell files

abbrev pub rule_word : Rule → List ℕ
rule_word rule.Port = codes "port"
rule_word rule.Dest = codes "dest"
rule_word rule.Source = codes "source"
rule_word rule.Control = codes "control"
rule_word rule.Out = codes "out"
rule_word rule.Loop = codes "loop"
rule_word rule.Buffer = codes "buffer"
rule_word rule.Load = codes "load"

-- the text is that of no list of cells in the version, and this is its first wrong line
pub record IsWrongText (version : Version) (text line : List ℕ) : Type 0 where
  pub number : ℕ
  pub says : line ≡ refusal (codes "BadCellText" ++ and_word (decimal number))
  pub first : FirstWrongLineIn version text number

-- the text is that of cells that are not well-formed: this rule is the first that fails, and this cell the least at which it does
pub record IsIllFormed (version : Version) (text line : List ℕ) : Type 0 where
  pub cells : List Cell
  pub read : IsTextIn version text cells
  pub rule : Rule
  pub cell : ℕ
  pub says : line ≡ refusal (codes "BadCells" ++ (and_word (rule_word rule) ++ and_word (decimal cell)))
  pub first : FailsFirst cells rule cell

-- what is read in a version of the form of cell files
abbrev pub ReadsCellFile : Version → List ℕ → Result (List Cell) (List ℕ) → Type 0
ReadsCellFile version text (Ok cells) = IsTextIn version text cells × WellFormed cells
ReadsCellFile version text (Err line) = IsWrongText version text line ⊎ IsIllFormed version text line

-- ---- traces

-- what is read for these cells and inputs: lines that are those of events, each possible at its turn; or the number of the first that isn't
abbrev pub ReadsTraceFile : List Cell → List (List Value) → List ℕ → Result (List (List ℕ)) (List ℕ) → Type 0
ReadsTraceFile cells inputs text (Ok lines) = (lines ≡ lines_of text) × AreLines cells inputs lines
ReadsTraceFile cells inputs text (Err line) = (number : ℕ) × (line ≡ refusal (codes "BadTrace" ++ and_word (decimal number))) × IsWrongAt cells inputs (lines_of text) number

-- ---- dual files

-- a port, as `CELL.PORT`
abbrev pub port_word : Dest → List ℕ
port_word d = decimal d.cell.0 ++ (codes "." ++ decimal d.port.0)

-- what is wrong with the stages or with the flow
abbrev pub dual_reason : DualAnswer → List ℕ
dual_reason (dual.NotBalanced port) = codes "NotBalanced" ++ and_word (port_word port)
dual_reason (dual.BadFlow cell) = codes "BadFlow" ++ and_word (decimal cell.0)
dual_reason (dual.NotEqual value buffers) = codes "NotEqual" ++ (and_word (signed_decimal value) ++ and_word (decimal buffers))

-- the text is that of no flow of these cells, and this is its first wrong line
pub record IsWrongDual (cells : List Cell) (text line : List ℕ) : Type 0 where
  pub number : ℕ
  pub says : line ≡ refusal (codes "BadDual" ++ and_word (decimal number))
  pub first : IsFirstWrong (arcs cells) text number

-- the text is that of a flow which doesn't certify the cells, and this is the first that is wrong
pub record IsNoCertificate (cells : List Cell) (text line : List ℕ) : Type 0 where
  pub flow : List ℕ
  pub read : IsDualText (arcs cells) text flow
  pub answer : DualAnswer
  pub says : line ≡ refusal (dual_reason answer)
  pub first : ShownWrong cells flow answer

-- what is read for these cells: a flow that certifies them
abbrev pub ReadsDualFile : List Cell → List ℕ → Result (List ℕ) (List ℕ) → Type 0
ReadsDualFile cells text (Ok flow) = IsDualText (arcs cells) text flow × IsCertified cells flow
ReadsDualFile cells text (Err line) = IsWrongDual cells text line ⊎ IsNoCertificate cells text line
