use Rattle.std.proofs.Common.{◌≡◌, length, refl, sym, ap, ◌∙◌, arith}
use Rattle.df_cells.specs.Cells.{is_buf}
use Rattle.df_cells.specs.Shifts.{back_over}
use Rattle.df_stages.proofs.Parts.{begins}
use Rattle.df_dual_check.proofs.Risen.{all_risen, next_risen, next_here, one_fallen, over_all}
use Rattle.df_dual_check.proofs.rising.rise_from.Goals as goal

pub returns-then-not-is_buf : goal.returns-then-not-is_buf
returns-then-not-is_buf c =
    ((λ t. all_risen c.args.cells.now c.loop.counter c.args.from.0 c.loop.here.0 c.loop.invariant.at (sym c.is_buf.ensures ∙ c.if-not-is_buf.true) c.loop.invariant.so_far), (λ all. refl))

pub returns-then-not-rises : goal.returns-then-not-rises
returns-then-not-rises c =
    ((λ t. cc), (λ all. absurd (one_fallen c.args.cells.now c.loop.counter c.args.from.0 c.loop.here.0 c.before-next.result.0 c.loop.invariant.at (sym c.is_buf.ensures ∙ c.if-not-is_buf.false) c.before-next.ensures.back (λ e. let t = c.if-not-rises.ensures.1 e in cc) all)))

pub loop-preserved : goal.loop-preserved
loop-preserved c = record {
  within = c.before-next.ensures.within;
  at = next_here c.args.cells.now c.loop.counter c.args.from.0 c.loop.here.0 c.before-next.result.0 c.loop.invariant.at c.before-next.ensures.back;
  so_far = next_risen c.args.cells.now c.loop.counter c.args.from.0 c.loop.here.0 c.before-next.result.0 c.loop.invariant.at c.before-next.ensures.back (c.if-not-rises.ensures.0 refl) c.loop.invariant.so_far;
}

pub returns : goal.returns
returns c =
    let whole : c.loop.counter ≡ length c.args.cells.now = omega (arith, c.loop-test.false, c.len-end.ensures.count, c.loop.auto.counter-end) in
    let at = c.loop.invariant.at ∙ ap (λ k. back_over c.args.cells.now k c.args.from.0) whole in
    ((λ t. all_risen c.args.cells.now c.loop.counter c.args.from.0 c.loop.here.0 c.loop.invariant.at (ap (is_buf c.args.cells.now) (at ∙ over_all c.args.cells.now c.args.from.0) ∙ begins c.args.cells.now c.requires.well_formed c.args.from.0 c.requires.within) c.loop.invariant.so_far), (λ all. refl))
