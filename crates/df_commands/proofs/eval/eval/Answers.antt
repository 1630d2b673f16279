use Rattle.std.proofs.Common.{◌∙◌, [], true, ap}
use Rattle.df_iotext.specs.Printed.{result_lines}
use Rattle.df_commands.specs.Verdicts.{TellMeaning}
use Rattle.df_commands.proofs.SourcesMeant.{meant}
use Rattle.df_commands.proofs.eval.eval.Goals as goal

pub returns-clause-settles : goal.returns-clause-settles
returns-clause-settles c =
    let it = c.in_ok-it.it in
    record {
      task = TellMeaning it.source.tree it.inputs.lists;
      judged = c.in_ok-it.ensures.finds;
      does = c.of_text.ensures ∙ ap (λ text. record { files = []; text = text; is_done = true })
          (c.in_ok-print_outputs.ensures ∙ ap (λ lists. result_lines 1 lists)
          (c.in_ok-results.ensures
          ∙ (c.results_are_whole_without_loops.ensures it.source.flat it.inputs.lists _ c.in_ok-it.ensures.flat.bounds.loopless
          ∙ meant c.lowering_keeps_the_meaning.ensures it.source.tree it.source.flat it.inputs.lists c.in_ok-it.ensures.flat c.in_ok-it.ensures.valid)));
    }
