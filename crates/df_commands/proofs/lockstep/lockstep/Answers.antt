use Rattle.std.proofs.Common.{◌∙◌, [], ap}
use Rattle.df_commands.specs.Phased.{phases_text}
use Rattle.df_commands.specs.Verdicts.{RunInPhases}
use Rattle.df_commands.proofs.lockstep.lockstep.Goals as goal

pub returns-clause-settles : goal.returns-clause-settles
returns-clause-settles c =
    let run = c.in_ok-cells.field-0 in
    let ran = c.in_ok-ran.ran in
    record {
      task = RunInPhases run.cells run.inputs.lists;
      judged = c.in_ok-cells.ensures.finds;
      does = (
        ran.phases,
        c.in_ok-ran.ensures.ends,
        c.of_text.ensures ∙ ap (λ text. record { files = []; text = text; is_done = ran.is_drained }) c.in_ok-ran.ensures.text
            ∙ ap (λ done. record { files = []; text = phases_text run.cells run.inputs.lists ran.phases; is_done = done }) c.in_ok-ran.ensures.drained,
      );
    }
