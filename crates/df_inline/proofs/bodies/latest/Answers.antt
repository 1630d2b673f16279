use Rattle.std.proofs.Common.{◌+◌, sym, ◌∙◌, subst}
use Rattle.df_inline.proofs.Latest.{Among, hit, missed}
use Rattle.df_inline.proofs.bodies.latest.Goals.{then-eq, else-eq}
use Rattle.df_inline.proofs.bodies.latest.Goals as goal

pub loop-place-preserved : goal.loop-place-preserved
loop-place-preserved c = elim c.if-eq.branch [
  | then-eq w ↦ subst (λ found. Among c.args.functions.now (c.loop-place.place + 1) c.args.name.now found) (sym w.found-is)
      (hit c.args.functions.now c.loop-place.place c.index-functions-place.result c.args.name.now c.loop-place-test.true c.index-functions-place.is (sym c.eq.ensures ∙ w.if-eq.true))
  | else-eq w ↦ subst (λ found. Among c.args.functions.now (c.loop-place.place + 1) c.args.name.now found) (sym w.found-is)
      (missed c.args.functions.now c.loop-place.place c.index-functions-place.result c.args.name.now c.loop-place.found c.loop-place-test.true c.index-functions-place.is (sym c.eq.ensures ∙ w.if-eq.false) c.loop-place.invariant)
]
