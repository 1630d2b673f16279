use Rattle.std.proofs.Common.{◌∙◌, ◌+◌, ap, sym, drop}
use Rattle.df_flattened.specs.Flattened.{inputs_bound, input_standing}
use Rattle.df_inline.specs.Bindings.{standing_at}
use Rattle.df_inline.proofs.Bound.{standing_more, input_more}
use Rattle.df_inline.proofs.inliner.names_of.Goals as goal

pub loop-number-preserved : goal.loop-number-preserved
loop-number-preserved c =
    let n = c.loop-number.number in
    let p = c.index-parameters-number.result in
    let parameters = c.args.parameters.now in
    ap (λ bindings. inputs_bound (standing_at bindings) (n + 1) (drop (n + 1) parameters)) (rw c.input_standing.ensures at c.in_ok-push.ensures)
    ∙ (ap (λ names. inputs_bound names (n + 1) (drop (n + 1) parameters)) (standing_more c.loop-number.names p.name (input_standing p.extent n))
    ∙ (sym (input_more (standing_at c.loop-number.names) n parameters n p c.loop-number-test.true c.index-parameters-number.is)
    ∙ c.loop-number.invariant))
