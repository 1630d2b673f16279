use Rattle.std.proofs.Common.{◌≡◌, ◌+◌, ◌+ℤ◌, ℤ, pos, get_or, take, ap, ◌∙◌, arith}
use Rattle.std.proofs.lemmas.Int.{ints}
use Rattle.std.proofs.lemmas.List.{take_more}
use Rattle.std.proofs.lemmas.List.Sums.{fold_push}
use Rattle.df_stages.specs.declared.skeleton.SkeletonArc.{SkeletonArc}
use Rattle.df_stages.specs.Skeletons.{no_arc}
use Rattle.df_stages.specs.Flows.{excess, total_excess}
use Rattle.df_cancel.specs.Balances.{numbered}
use Rattle.df_buffers.proofs.excesses.total_excess.Goals as goal

pub loop-arc-preserved : goal.loop-arc-preserved
loop-arc-preserved c =
    let numbers = numbered c.args.stages.now in
    let arcs = c.args.arcs.now in
    let i = c.loop-arc.arc-index in
    let arc = get_or arcs i no_arc in
    let more : total_excess numbers (take (i + 1) arcs) ≡ total_excess numbers (take i arcs) +ℤ excess numbers arc =
    ap (total_excess numbers) (take_more arcs i no_arc c.loop-arc-test.true)
    ∙ fold_push (λ (s : ℤ) (a : SkeletonArc). s +ℤ excess numbers a) (pos 0) (take i arcs) arc in
    let value : c.excess-sum.result ≡ excess numbers arc = c.excess-sum.ensures.value in
    let low = c.excess-sum.ensures.low in
    let high = c.excess-sum.ensures.high in
    let few = c.requires.few in
    record { sum = omega (arith, ints); low = omega (arith, ints); high = omega (arith, ints) }
