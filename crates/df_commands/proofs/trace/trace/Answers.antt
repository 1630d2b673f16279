use Rattle.std.proofs.Common.{◌∙◌, [], ap}
use Rattle.std.proofs.lemmas.Result.{err_from_is_err_and}
use Rattle.df_cells.specs.Schedules.{choices_of}
use Rattle.df_machine.specs.States.{start}
use Rattle.df_trace.specs.Traces.{trace_text}
use Rattle.df_commands.specs.Plans.{said, ends_done}
use Rattle.df_commands.specs.TracedRuns.{Traced}
use Rattle.df_commands.specs.Verdicts.{TellEvents}
use Rattle.df_commands.specs.declared.ending.Ending.TheVariants.{Trace}
use Rattle.df_commands.proofs.RunReports.{drained_is}
use Rattle.df_commands.proofs.trace.trace.Goals as goal

pub returns-in_err-cells-clause-settles : goal.returns-in_err-cells-clause-settles
returns-in_err-cells-clause-settles c =
    let p = err_from_is_err_and c.from_residual.result c.from_residual.ensures.1 in
    rw (p.1, p.2) (c.in_err-cells.ensures.finds (λ cells inputs choices. TellEvents cells inputs choices))

pub returns-clause-settles : goal.returns-clause-settles
returns-clause-settles c =
    let run = c.in_ok-cells.field-0 in
    let cells = run.cells in let inputs = run.texts.inputs.lists in let choices = choices_of run.texts.schedule in
    record {
      task = TellEvents cells inputs run.texts.schedule;
      judged = c.in_ok-cells.ensures.finds (λ cells inputs choices. TellEvents cells inputs choices);
      does = c.of_ending.ensures ∙ ap (λ (r : Traced). record { files = []; text = said (Trace r); is_done = ends_done (Trace r) }) c.in_ok-run.ensures
          ∙ ap (λ done. record { files = []; text = trace_text cells inputs (start cells) choices; is_done = done }) (drained_is cells inputs choices);
    }
