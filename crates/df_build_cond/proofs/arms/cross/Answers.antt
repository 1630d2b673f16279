use Rattle.std.proofs.Common.{refl, sym, ap, ◌∙◌, arith, length, get_or, ◌<◌, ◌+◌}
use Rattle.std.proofs.lemmas.List.{drop-set-lt, length-set}
use Rattle.std.proofs.lemmas.Grind.{drop_more_same}
use Rattle.df_build_cond.specs.declared.arms.Arm.{Arm}
use Rattle.df_build_cond.proofs.Crossing.{crossing_begun, crossing_next, crossing_ended}
use Rattle.df_build_cond.proofs.arms.cross.Goals as goal

pub loop-k-init : goal.loop-k-init
loop-k-init g c = record {
  done = crossing_begun g.G.Graphs.keep c.args.level (g.G.Graphs.graph c.args.graph.now) c.args.arms.now c.args.flow;
  others = refl;
  count = refl;
}

pub loop-k-preserved : goal.loop-k-preserved
loop-k-preserved g c =
    let inv = c.loop-k.invariant in
    let graph = g.G.Graphs.graph in
    let arms = c.loop-k.arms in
    let k = c.loop-k.k in
    let within : c.loop-k.k < length c.loop-k.arms = omega (arith, inv.count, c.loop-k-test.true, c.loop-k.auto.k-end) in
    let arm : Arm = get_or arms k c.index-arms-k.result in
    record {
      done = crossing_next g.G.Graphs.keep c.args.level k (graph c.args.graph.now) (graph c.loop-k.graph) (graph c.pass.new.graph) c.args.arms.now arms arm c.pass.new.arm
          c.args.flow c.loop-k.inside c.in_ok-inside.inside c.loop-k.auto.k within inv.count inv.done inv.others
          (ap (get_or arms k) c.index-arms-k.is) (c.in_ok-inside.ensures {u = tt});
      others = drop-set-lt (k + 1) arms k c.pass.new.arm (omega arith) ∙ drop_more_same arms c.args.arms.now k inv.others;
      count = length-set arms k c.pass.new.arm ∙ inv.count;
    }

pub returns : goal.returns
returns g c =
    let inv = c.loop-k.invariant in
    let graph = g.G.Graphs.graph in
    sym (crossing_ended g.G.Graphs.keep c.args.level c.loop-k.k (graph c.args.graph.now) (graph c.loop-k.graph) c.args.arms.now c.loop-k.arms c.args.flow c.loop-k.inside
    (omega (arith, inv.count, c.loop-k-test.false)) inv.count inv.done)
