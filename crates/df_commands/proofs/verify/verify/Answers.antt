use Rattle.std.proofs.Common.{◌∙◌, [], true, ap}
use Rattle.df_commands.specs.Verdicts.{TellLeast}
use Rattle.df_commands.proofs.verify.verify.Goals as goal

pub returns-clause-settles : goal.returns-clause-settles
returns-clause-settles c = record {
  task = TellLeast c.in_ok-cells.cells;
  judged = c.in_ok-cells.ensures.finds;
  does = (
    c.in_ok-cells.ensures.balanced,
    c.in_ok-cells.ensures.least,
    c.of_text.ensures ∙ ap (λ text. record { files = []; text = text; is_done = true }) c.in_ok-least.ensures,
  );
}
