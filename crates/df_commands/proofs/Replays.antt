-- What a replay gives, of the cells and inputs that it began with.
use Rattle.std.proofs.Common.{◌≡◌, ◌≤◌, ℕ, List, ◌++◌, codes, Err, refl, sym, ◌∙◌, ap, subst}
use Rattle.std.specs.Fmt.{decimal}
use Rattle.std.specs.Option.{option_map}
use Rattle.df_values.specs.declared.values.Value.{Value}
use Rattle.df_cells.specs.declared.cells.Cell.{Cell}
use Rattle.df_cells.specs.WellFormed.{WellFormed}
use Rattle.df_machine.specs.declared.runs.RunEnd.{RunEnd}
use Rattle.df_machine.specs.Events.{chosen_event}
use Rattle.df_machine.specs.Laws.{TellsShortRuns, TellsEvents}
use Rattle.df_machine.specs.Reports.{Report}
use Rattle.df_machine.specs.Runs.{after, events}
use Rattle.df_machine.specs.Seen.{Loaded}
use Rattle.df_machine.specs.States.{start}
use Rattle.df_trace.specs.Laws.{LinesAreEvents}
use Rattle.df_trace.specs.Lines.{line_of}
use Rattle.df_trace.specs.Traces.{lines_of, AreLines, IsWrongAt, ReplaysAll, StopsAt}
use Rattle.df_commands.specs.Lines.{refusal}
use Rattle.df_commands.specs.Replayed.{IsRunByLines}
use Rattle.df_commands.specs.Reports.{report_text}
use Rattle.df_commands.specs.Texts.{and_word, ReadsTraceFile}
use Rattle.df_commands.proofs.RunReports.{same_report}

run_by_lines : TellsShortRuns → LinesAreEvents → (t : Loaded) (end : RunEnd) (lines : List (List ℕ)) (text : List ℕ) → ReplaysAll t lines end → end.events ≤ 4294967295
    → text ≡ report_text (record { drained = end.drained; events = end.events; results = t.state.results; fired = t.state.fired })
    → IsRunByLines t.cells t.inputs lines text end.drained
unfolding after events
run_by_lines short law t end lines text all few says =
    let choices = all.done.choices in
    let counted : end.events ≡ events t.cells t.inputs choices = all.events ∙ sym (law t.cells t.inputs choices lines all.done.have) in
    let same = same_report short t.cells t.inputs choices (record { cells = t.cells; inputs = t.inputs; state = start t.cells }) t end.events end.drained refl refl refl
    (ap (λ s. record t { state = s }) all.done.led) counted few all.drained in
    record {
      choices = choices;
      have = all.done.have;
      says = says ∙ ap report_text same;
      done = ap (λ (r : Report). r.drained) same;
    }

pub lines_run : TellsShortRuns → LinesAreEvents → (cells : List Cell) (inputs : List (List Value)) (t : Loaded) (end : RunEnd) (lines : List (List ℕ)) (text : List ℕ) → t.cells ≡ cells → t.inputs ≡ inputs
    → ReplaysAll t lines end → end.events ≤ 4294967295
    → text ≡ report_text (record { drained = end.drained; events = end.events; results = t.state.results; fired = t.state.fired })
    → IsRunByLines cells inputs lines text end.drained
lines_run short law cells inputs t end lines text same alike all few says =
    subst (λ c. IsRunByLines c inputs lines text end.drained) same
    (subst (λ i. IsRunByLines t.cells i lines text end.drained) alike (run_by_lines short law t end lines text all few says))

pub lines_read : (cells : List Cell) (inputs : List (List Value)) (t : Loaded) (end : RunEnd) (lines : List (List ℕ)) → t.cells ≡ cells → t.inputs ≡ inputs → ReplaysAll t lines end → AreLines cells inputs lines
lines_read cells inputs t end lines same alike all =
    subst (λ c. AreLines c inputs lines) same (subst (λ i. AreLines t.cells i lines) alike (record { choices = all.done.choices; have = all.done.have }))

wrong_at : TellsEvents → (t : Loaded) (lines : List (List ℕ)) (number : ℕ) → WellFormed t.cells → StopsAt t lines number → IsWrongAt t.cells t.inputs lines number
wrong_at law t lines number w stops = record {
  some = stops.some;
  within = stops.within;
  choices = stops.done.choices;
  have = stops.done.have;
  wrong = λ k is. stops.wrong k (ap (option_map line_of) (ap (λ s. chosen_event t.cells s k) stops.done.led ∙ law t.cells t.inputs stops.done.choices k w) ∙ is);
}

pub trace_refused : TellsEvents → (cells : List Cell) (inputs : List (List Value)) (text line : List ℕ) (t : Loaded) (number : ℕ) → WellFormed cells → t.cells ≡ cells → t.inputs ≡ inputs
    → StopsAt t (lines_of text) number → line ≡ refusal (codes "BadTrace" ++ and_word (decimal number)) → ReadsTraceFile cells inputs text (Err line)
trace_refused law cells inputs text line t number w same alike stops says = (
  number,
  says,
  subst (λ c. IsWrongAt c inputs (lines_of text) number) same
      (subst (λ i. IsWrongAt t.cells i (lines_of text) number) alike (wrong_at law t (lines_of text) number (subst WellFormed (sym same) w) stops)),
)
