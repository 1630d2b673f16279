use Rattle.std.proofs.Common.{◌≤◌, ◌∙◌, ap, length, subst, sym, arith}
use Rattle.df_machine.specs.Reports.{Report}
use Rattle.df_cells.specs.Schedules.{choices_of}
use Rattle.df_commands.specs.Reports.{report_text}
use Rattle.df_commands.proofs.RunReports.{schedule_report}
use Rattle.df_commands.proofs.runs.run_cells.Goals as goal

pub returns-clause-text : goal.returns-clause-text
returns-clause-text c =
    let few : length c.new.result ≤ 1001000000 = subst (λ l. length l ≤ 1001000000) (sym c.new.ensures) c.requires.few in
    c.in_ok-report.ensures ∙ ap report_text (
    schedule_report c.tells_short_runs.ensures c.args.cells c.args.inputs.lists (choices_of c.args.schedule.now) c.new.result c.in_ok-machine.machine c.run_tracked-end.new.t
    c.run_tracked-end.result.events c.run_tracked-end.result.drained c.in_ok-machine.ensures.cells c.in_ok-machine.ensures.inputs c.in_ok-machine.ensures.state c.new.ensures
    (c.run_tracked-end.ensures.whole_state few) (c.run_tracked-end.ensures.whole_events few) (omega (arith, few, c.run_tracked-end.ensures.enough)) c.run_tracked-end.ensures.drained
    )

pub returns-clause-drained : goal.returns-clause-drained
returns-clause-drained c =
    let few : length c.new.result ≤ 1001000000 = subst (λ l. length l ≤ 1001000000) (sym c.new.ensures) c.requires.few in
    ap (λ (r : Report). r.drained) (
    schedule_report c.tells_short_runs.ensures c.args.cells c.args.inputs.lists (choices_of c.args.schedule.now) c.new.result c.in_ok-machine.machine c.run_tracked-end.new.t
    c.run_tracked-end.result.events c.run_tracked-end.result.drained c.in_ok-machine.ensures.cells c.in_ok-machine.ensures.inputs c.in_ok-machine.ensures.state c.new.ensures
    (c.run_tracked-end.ensures.whole_state few) (c.run_tracked-end.ensures.whole_events few) (omega (arith, few, c.run_tracked-end.ensures.enough)) c.run_tracked-end.ensures.drained
    )
