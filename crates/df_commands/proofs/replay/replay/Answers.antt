use Rattle.std.proofs.Common.{◌≡◌, List, ℕ, [], Ok, Err, refl, sym, ◌∙◌, ap, subst}
use Rattle.std.proofs.lemmas.Result.{err_from_is_err_and}
use Rattle.df_values.specs.Streams.{StreamLists}
use Rattle.df_values.specs.declared.values.Value.{Value}
use Rattle.df_cells.specs.declared.cells.Cell.{Cell}
use Rattle.df_cells.specs.Cells.{inputs_of}
use Rattle.df_celltext.specs.declared.version.Version.TheVariants.{Two}
use Rattle.df_iotext.specs.Inputs.{HaveOwnNames}
use Rattle.df_machine.specs.Reports.{report}
use Rattle.df_trace.specs.Traces.{lines_of}
use Rattle.df_commands.specs.Judged.{GivesMeaning}
use Rattle.df_commands.specs.Reports.{report_text}
use Rattle.df_commands.specs.Texts.{ReadsCellFile, ReadsInputText, ReadsTraceFile}
use Rattle.df_commands.specs.Verdicts.{Verdict, Accepted, RunLines, AfterText}
use Rattle.df_commands.specs.declared.runs.Ran.{Ran}
use Rattle.df_commands.proofs.Judging.{refused_first, refused_behind}
use Rattle.df_commands.proofs.OwnNames.{cells_names}
use Rattle.df_commands.proofs.replay.replay.Goals as goal

-- what is asked of the lines for these cells and inputs, and of the inputs for these cells
abbrev asked_of_lines : List Cell → Verdict → List (List Value) → List (List ℕ) → Type 0
asked_of_lines cells v inputs lines = v ≡ Accepted (RunLines cells inputs lines)

abbrev asked_of_inputs : List ℕ → List Cell → Verdict → List (List Value) → Type 0
asked_of_inputs trace cells v inputs = AfterText (ReadsTraceFile cells inputs trace) v (asked_of_lines cells v inputs)

abbrev asked : (input trace : List ℕ) → Verdict → List Cell → Type 0
asked input trace v cells = AfterText (ReadsInputText (inputs_of cells) input) v (asked_of_inputs trace cells v)

pub returns-in_err-cells-clause-settles : goal.returns-in_err-cells-clause-settles
returns-in_err-cells-clause-settles c =
    let p = err_from_is_err_and c.from_residual.result c.from_residual.ensures.1 in
    rw (p.1, p.2) (refused_first (λ (cells : List Cell). cells) (ReadsCellFile Two c.args.cells.now) (asked c.args.input.now c.args.trace.now) c.in_err-cells.field-0.0 c.in_err-cells.ensures)

pub judge_input-requires-clause-names : goal.judge_input-requires-clause-names
judge_input-requires-clause-names c = subst HaveOwnNames (sym c.in_ok-decls.ensures) (cells_names c.in_ok-cells.cells c.in_ok-cells.ensures.1)

pub returns-in_err-inputs-clause-settles : goal.returns-in_err-inputs-clause-settles
returns-in_err-inputs-clause-settles c =
    let p = err_from_is_err_and c.from_residual-in_err-inputs.result c.from_residual-in_err-inputs.ensures.1 in
    let cells = c.in_ok-cells.cells in
    rw (p.1, p.2) (refused_behind (ReadsCellFile Two c.args.cells.now) (asked c.args.input.now c.args.trace.now) cells c.in_err-inputs.field-0.0 c.in_ok-cells.ensures
    (refused_first (λ (inputs : StreamLists). inputs.lists) (ReadsInputText (inputs_of cells) c.args.input.now) (asked_of_inputs c.args.trace.now cells) c.in_err-inputs.field-0.0
    (subst (λ decls. GivesMeaning (λ (inputs : StreamLists). inputs.lists) (Err c.in_err-inputs.field-0.0) (ReadsInputText decls c.args.input.now)) c.in_ok-decls.ensures c.in_err-inputs.ensures.gives)))

pub returns-in_err-ran-clause-settles : goal.returns-in_err-ran-clause-settles
returns-in_err-ran-clause-settles c =
    let p = err_from_is_err_and c.from_residual-in_err-ran.result c.from_residual-in_err-ran.ensures.1 in
    let cells = c.in_ok-cells.cells in let inputs = c.in_ok-inputs.inputs.lists in
    rw (p.1, p.2) (refused_behind (ReadsCellFile Two c.args.cells.now) (asked c.args.input.now c.args.trace.now) cells c.in_err-ran.field-0.0 c.in_ok-cells.ensures
    (refused_behind (ReadsInputText (inputs_of cells) c.args.input.now) (asked_of_inputs c.args.trace.now cells) inputs c.in_err-ran.field-0.0
    (subst (λ decls. ReadsInputText decls c.args.input.now (Ok inputs)) c.in_ok-decls.ensures c.in_ok-inputs.ensures.gives)
    (refused_first (λ (ran : Ran). lines_of c.args.trace.now) (ReadsTraceFile cells inputs c.args.trace.now) (λ v lines. asked_of_lines cells v inputs lines) c.in_err-ran.field-0.0 c.in_err-ran.ensures.gives)))

pub returns-clause-settles : goal.returns-clause-settles
returns-clause-settles c =
    let cells = c.in_ok-cells.cells in let inputs = c.in_ok-inputs.inputs.lists in let lines = lines_of c.args.trace.now in
    let run = c.in_ok-ran.ensures.does in
    record {
      task = RunLines cells inputs lines;
      judged = record {
        read = Ok cells;
        reads = c.in_ok-cells.ensures;
        goes = record {
          read = Ok inputs;
          reads = subst (λ decls. ReadsInputText decls c.args.input.now (Ok inputs)) c.in_ok-decls.ensures c.in_ok-inputs.ensures.gives;
          goes = record { read = Ok lines; reads = c.in_ok-ran.ensures.gives; goes = refl };
        };
      };
      does = (
        run.choices,
        run.have,
        c.of_text.ensures ∙ ap (λ text. record { files = []; text = text; is_done = c.in_ok-ran.ran.is_drained }) run.says
            ∙ ap (λ done. record { files = []; text = report_text (report cells inputs run.choices); is_done = done }) run.done,
      );
    }
