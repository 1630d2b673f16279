use Rattle.std.proofs.Common.{◌<◌, ◌≤◌, List, get_or, length, Some, ap, ◌∙◌, subst}
use Rattle.df_cells.specs.declared.kinds.Run.{Run}
use Rattle.df_machine.proofs.RunEnds.{IsRunOf, value_at_run, value_past_runs}
use Rattle.df_machine.proofs.run_ends.RunEnds.value.Goals as goal

pub returns-then-place-all : goal.returns-then-place-all
returns-then-place-all c =
    let r = c.run_of-place.ensures in let place = c.run_of-place.result in let same = c.as_slice-all.ensures in
    ap (λ (l : List Run). Some (get_or l place _).value) same
    ∙ value_at_run c.args.turn c.args.runs.now place _ (subst (λ l. IsRunOf l c.args.turn place) c.requires (r.most, r.past, r.below)) (subst (λ l. place < length l) same c.if-place-all.true)

pub returns-else-place-all : goal.returns-else-place-all
returns-else-place-all c =
    let r = c.run_of-place.ensures in let place = c.run_of-place.result in
    value_past_runs c.args.turn c.args.runs.now place (subst (λ l. IsRunOf l c.args.turn place) c.requires (r.most, r.past, r.below))
    (subst (λ l. length l ≤ place) c.as_slice-all.ensures c.if-place-all.false)
