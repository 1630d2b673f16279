use Rattle.std.proofs.Common.{◌≡◌, List}
use Rattle.std.proofs.lemmas.Result.{err_from_is_err_and}
use Rattle.df_values.specs.Streams.{StreamLists}
use Rattle.df_values.specs.declared.values.Value.{Value}
use Rattle.df_cells.specs.declared.schedules.Schedule.{Schedule}
use Rattle.df_commands.specs.Texts.{ReadsInputText, ReadsScheduleText}
use Rattle.df_commands.specs.Verdicts.{Verdict, Accepted, AfterText}
use Rattle.df_commands.proofs.Judging.{refused_first, refused_behind}
use Rattle.df_commands.proofs.runs.judged_inputs.Goals as goal

pub returns-in_err-inputs-clause-stops : goal.returns-in_err-inputs-clause-stops
returns-in_err-inputs-clause-stops c =
    let p = err_from_is_err_and c.from_residual.result c.from_residual.ensures.1 in
    rw (p.1, p.2) (λ task. refused_first (λ (s : StreamLists). s.lists) (ReadsInputText c.args.decls.now.items c.args.input.now)
    (λ (v : Verdict) (inputs : List (List Value)). AfterText (ReadsScheduleText c.args.schedule.now) v (λ choices. v ≡ Accepted (task inputs choices)))
    c.in_err-inputs.field-0.0 c.in_err-inputs.ensures.gives)

pub returns-in_err-schedule-clause-stops : goal.returns-in_err-schedule-clause-stops
returns-in_err-schedule-clause-stops c =
    let p = err_from_is_err_and c.from_residual-in_err-schedule.result c.from_residual-in_err-schedule.ensures.1 in
    rw (p.1, p.2) (λ task. refused_behind (ReadsInputText c.args.decls.now.items c.args.input.now)
    (λ (v : Verdict) (inputs : List (List Value)). AfterText (ReadsScheduleText c.args.schedule.now) v (λ choices. v ≡ Accepted (task inputs choices)))
    c.in_ok-inputs.inputs.lists c.in_err-schedule.field-0.0 c.in_ok-inputs.ensures.gives
    (refused_first (λ (s : Schedule). s) (ReadsScheduleText c.args.schedule.now) (λ (v : Verdict) (choices : Schedule). v ≡ Accepted (task c.in_ok-inputs.inputs.lists choices))
    c.in_err-schedule.field-0.0 c.in_err-schedule.ensures))
