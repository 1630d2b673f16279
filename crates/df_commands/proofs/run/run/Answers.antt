use Rattle.std.proofs.Common.{◌∙◌, [], ap}
use Rattle.std.proofs.lemmas.Result.{err_from_is_err_and}
use Rattle.df_commands.specs.Compiled.{run_of}
use Rattle.df_commands.specs.Reports.{report_text}
use Rattle.df_commands.specs.Verdicts.{RunCells}
use Rattle.df_commands.proofs.run.run.Goals as goal

pub returns-in_err-cells-clause-settles : goal.returns-in_err-cells-clause-settles
returns-in_err-cells-clause-settles c =
    let p = err_from_is_err_and c.from_residual.result c.from_residual.ensures.1 in
    rw (p.1, p.2) (c.in_err-cells.ensures.finds (λ cells inputs choices. RunCells cells inputs choices))

pub returns-clause-settles : goal.returns-clause-settles
returns-clause-settles c =
    let run = c.in_ok-cells.field-0 in
    let meant = run_of run.cells run.texts.inputs.lists run.texts.schedule in
    record {
      task = RunCells run.cells run.texts.inputs.lists run.texts.schedule;
      judged = c.in_ok-cells.ensures.finds (λ cells inputs choices. RunCells cells inputs choices);
      does = c.of_text.ensures ∙ ap (λ text. record { files = []; text = text; is_done = c.in_ok-ran.ran.is_drained }) c.in_ok-ran.ensures.text
          ∙ ap (λ done. record { files = []; text = report_text meant; is_done = done }) c.in_ok-ran.ensures.drained;
    }
