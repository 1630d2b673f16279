-- The text of a trace has one reading: lines of possible events, or one refusal.
use Rattle.std.proofs.Common.{ℕ, List, Ok, Err, refl, sym, ap, subst, ◌∙◌, codes, ◌++◌}
use Rattle.std.specs.Fmt.{decimal}
use Rattle.df_values.specs.declared.values.Value.{Value}
use Rattle.df_cells.specs.declared.cells.Cell.{Cell}
use Rattle.df_cells.specs.WellFormed.{WellFormed}
use Rattle.df_trace.specs.Laws.{HaveOneAnswer, HaveSomeAnswer}
use Rattle.df_trace.specs.Traces.{lines_of, AreLines}
use Rattle.df_commands.specs.Laws.{TraceFilesHaveOneReading, TraceFilesHaveReadings}
use Rattle.df_commands.specs.Lines.{refusal}
use Rattle.df_commands.specs.Texts.{and_word, ReadsTraceFile}

abbrev bad_trace : ℕ → List ℕ
bad_trace number = refusal (codes "BadTrace" ++ and_word (decimal number))

not_both : HaveOneAnswer → (cells : List Cell) (inputs : List (List Value)) (text : List ℕ) (lines : List (List ℕ)) (line : List ℕ) → WellFormed cells
    → ReadsTraceFile cells inputs text (Ok lines) → ReadsTraceFile cells inputs text (Err line) → ⊥
not_both law cells inputs text lines line w g (number, says, wrong) = law.right cells inputs (lines_of text) number w (subst (AreLines cells inputs) g.0 g.1) wrong

pub one_trace_reading : HaveOneAnswer → TraceFilesHaveOneReading
one_trace_reading law cells inputs text (Ok a) (Ok b) w g h = ap Ok (g.0 ∙ sym h.0)
one_trace_reading law cells inputs text (Ok a) (Err line) w g h = absurd (not_both law cells inputs text a line w g h)
one_trace_reading law cells inputs text (Err line) (Ok b) w g h = absurd (not_both law cells inputs text b line w h g)
one_trace_reading law cells inputs text (Err line) (Err other) w (m, says, a) (n, tells, b) = ap Err (says ∙ ap bad_trace (law.wrong cells inputs (lines_of text) m n w a b) ∙ sym tells)

pub some_trace_reading : HaveSomeAnswer → TraceFilesHaveReadings
some_trace_reading law cells inputs text none =
    law cells inputs (lines_of text) (λ right. none (Ok (lines_of text)) (refl, right), λ number wrong. none (Err (bad_trace number)) (number, refl, wrong))
