use Rattle.std.proofs.Common.{sym, ◌∙◌, ap}
use Rattle.std.proofs.lemmas.Bool.{OnTrue_from, eqb-true}
use Rattle.df_machine.specs.Events.{possible}
use Rattle.df_machine.specs.Seen.{Loaded}
use Rattle.df_ends.proofs.Good.{label_results, whole_results}
use Rattle.df_ends.proofs.tracked.drained.Goals as goal

pub returns-clause-labels : goal.returns-clause-labels
returns-clause-labels c = OnTrue_from _ _ (λ e.
    label_results c.tells_possible.ensures c.balanced_cells_have_ranks.ensures c.ends_whole.ensures c.args.t.now
    c.machine.ensures.reached
    (sym (c.possible.ensures ∙ ap (λ (t : Loaded). possible t.cells t.state) c.machine.ensures.machine)
    ∙ eqb-true c.possible.result 0 e))

pub returns-clause-whole : goal.returns-clause-whole
returns-clause-whole c = OnTrue_from _ _ (λ e.
    whole_results c.tells_possible.ensures c.realizing_for_all_is_good.ensures c.args.t.now c.machine.ensures.reached
    (sym (c.possible.ensures ∙ ap (λ (t : Loaded). possible t.cells t.state) c.machine.ensures.machine)
    ∙ eqb-true c.possible.result 0 e))
