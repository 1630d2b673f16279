use Rattle.std.proofs.Common.{◌≡◌, ap, get_or, zip, take, pos, ◌+ℤ◌, ◌*ℤ◌, ◌∙◌, sym, SFits, w64, rules, arith}
use Rattle.std.proofs.lemmas.Int.{ints, to_z-of_z}
use Rattle.std.proofs.lemmas.List.{take_all}
use Rattle.df_stages.specs.Sums.{int_sum_by}
use Rattle.df_stages.specs.declared.skeleton.SkeletonArc.{SkeletonArc}
use Rattle.df_stages.proofs.ZipSums.{int_pairs_more, pairs_all}
use Rattle.df_stages.proofs.Sums.{int_sum-more}
use Rattle.df_stages.specs.Skeletons.{no_arc}
use Rattle.df_dual_check.proofs.flows.value_of.Goals as goal

pub loop-i-preserved : goal.loop-i-preserved
loop-i-preserved c =
    let arc = get_or c.args.arcs.now c.loop-i.i no_arc in
    let f3 : SFits w64 arc.weight = search rules in
    let one = int_pairs_more (λ (p : SkeletonArc × _). p.0.weight *ℤ pos p.1) c.args.arcs.now c.args.flow.now c.loop-i.i no_arc 0 c.requires.flow c.loop-i-test.true in
    let term : c.carried_by-carried.result ≡ arc.weight *ℤ pos (get_or c.args.flow.now c.loop-i.i 0) = simp to_z-of_z at c.carried_by-carried.ensures.value in
    let step = one ∙ ap (λ z. int_sum_by (λ (p : SkeletonArc × _). p.0.weight *ℤ pos p.1) (take c.loop-i.i (zip c.args.arcs.now c.args.flow.now)) +ℤ z) (sym term) in
    let low = c.carried_by-carried.ensures.low in let high = c.carried_by-carried.ensures.high in
    let two = int_sum-more (λ (a : SkeletonArc). a.weight) c.args.arcs.now c.loop-i.i no_arc c.loop-i-test.true in
    record { carried = omega (arith, ints); weights = omega (arith, ints); carried_low = omega (arith, ints); carried_high = omega (arith, ints); weights_low = omega (arith, ints); weights_high = omega (arith, ints) }

pub returns : goal.returns
returns c =
    let one = ap (int_sum_by (λ (p : SkeletonArc × _). p.0.weight *ℤ pos p.1)) (pairs_all c.args.arcs.now c.args.flow.now c.loop-i.i c.requires.flow c.loop-i-test.false) in
    let two = ap (int_sum_by (λ (a : SkeletonArc). a.weight)) (take_all c.loop-i.i c.args.arcs.now c.loop-i-test.false) in
    omega (arith, ints)
