use Rattle.std.proofs.Common.{◌∙◌, subst}
use Rattle.df_trace.specs.Traces.{lines_of, Refuses}
use Rattle.df_commands.proofs.Replays.{lines_run, trace_refused}
use Rattle.df_commands.proofs.replay.run_lines.Goals as goal

pub returns-in-Ok-clause-does : goal.returns-in-Ok-clause-does
returns-in-Ok-clause-does c =
    let same = c.in-Ok.ensures.same in
    lines_run c.tells_short_runs.ensures c.lines_are_events.ensures c.args.cells c.args.inputs.lists c.replay.new.t c.in-Ok.end (lines_of c.args.trace.now) c.in_ok-report-in-Ok.field-0
    (same.0 ∙ c.in_ok-machine.ensures.cells) (same.1 ∙ c.in_ok-machine.ensures.inputs) c.in-Ok.ensures.done c.in-Ok.ensures.few c.in_ok-report-in-Ok.ensures

pub returns-clause-gives : goal.returns-clause-gives
returns-clause-gives c =
    let same = c.in-Err.ensures.same in
    trace_refused c.tells_events.ensures c.args.cells c.args.inputs.lists c.args.trace.now c.in_ok-line-in-Err.line c.replay.new.t c.line.result c.requires.well_formed
    (same.0 ∙ c.in_ok-machine.ensures.cells) (same.1 ∙ c.in_ok-machine.ensures.inputs)
    (subst (Refuses c.replay.new.t (lines_of c.args.trace.now)) c.line.ensures c.in-Err.ensures.wrong) c.in_ok-line-in-Err.ensures
