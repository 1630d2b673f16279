use Rattle.std.proofs.Common.{refl, ap, ◌∙◌, below_more}
use Rattle.df_stages.specs.SkeletonLists.{SkeletonLists}
use Rattle.df_stages.specs.Skeletons.{arc_at}
use Rattle.df_dual_check.specs.Checked.{IsBalancedAt}
use Rattle.df_dual_check.proofs.Verdicts.{first_found, all_found}
use Rattle.df_dual_check.proofs.staged.first_unbalanced.Goals as goal

pub loop-arc-preserved : goal.loop-arc-preserved
loop-arc-preserved c = below_more (λ k. IsBalancedAt c.args.cells.now (arc_at c.arcs-arcs.result.now k)) c.loop-arc.arc-index c.loop-arc.invariant (c.if-not-is_balanced_at.ensures.0 refl)

pub returns-then-not-is_balanced_at : goal.returns-then-not-is_balanced_at
returns-then-not-is_balanced_at c =
    first_found c.args.cells.now c.arcs-arcs.result.now c.loop-arc.arc-index _ (c.arcs-arcs.ensures.arcs ∙ ap (λ (s : SkeletonLists). s.arcs) c.requires.skeleton) c.loop-arc-test.true refl
    (λ right. let t = c.if-not-is_balanced_at.ensures.1 right in cc) c.loop-arc.invariant

pub returns : goal.returns
returns c =
    all_found c.args.cells.now c.arcs-arcs.result.now c.loop-arc.arc-index (c.arcs-arcs.ensures.arcs ∙ ap (λ (s : SkeletonLists). s.arcs) c.requires.skeleton) c.loop-arc-test.false c.loop-arc.invariant
