use Rattle.std.proofs.Common.{◌<◌, length, sym, ap, subst, refl, ◌∙◌, arith, below_more}
use Rattle.df_cells.specs.declared.cells.CellId.{CellId}
use Rattle.df_stages.specs.SkeletonLists.{SkeletonLists}
use Rattle.df_stages.specs.Balance.{stage_of}
use Rattle.df_dual_check.specs.Checked.{IsLevelAt}
use Rattle.df_dual_check.proofs.Stages.{least_is, least_long}
use Rattle.df_dual_check.proofs.staged.first_off.Goals as goal

pub least_cell-least-requires : goal.least_cell-least-requires
least_cell-least-requires c =
    let long = least_long c.args.cells.now c.args.s.now.least (ap (λ (s : SkeletonLists). s.least) c.requires.skeleton) in
    omega (arith, c.loop-c-test.true, c.len-c-end.ensures.count, long)

pub same_stage-requires-clause-second : goal.same_stage-requires-clause-second
same_stage-requires-clause-second c =
    let within : c.loop-c.c < length c.args.cells.now = omega (arith, c.loop-c-test.true, c.len-c-end.ensures.count) in
    let is = ap (λ (k : CellId). k.0) c.least_cell-least.ensures ∙ least_is c.args.cells.now c.args.s.now.least c.loop-c.c (ap (λ (s : SkeletonLists). s.least) c.requires.skeleton) within in
    subst (λ k. k < length c.args.cells.now) (sym is) ((c.has_skeletons.ensures c.args.cells.now c.requires.well_formed).least c.loop-c.c within)

pub loop-c-preserved : goal.loop-c-preserved
loop-c-preserved c =
    let within : c.loop-c.c < length c.args.cells.now = omega (arith, c.loop-c-test.true, c.len-c-end.ensures.count) in
    let is = ap (λ (k : CellId). k.0) c.least_cell-least.ensures ∙ least_is c.args.cells.now c.args.s.now.least c.loop-c.c (ap (λ (s : SkeletonLists). s.least) c.requires.skeleton) within in
    below_more (IsLevelAt c.args.cells.now) c.loop-c.c c.loop-c.invariant (c.if-not-same_stage.ensures.0 refl ∙ ap (stage_of c.args.cells.now) is)

pub returns-then-not-same_stage : goal.returns-then-not-same_stage
returns-then-not-same_stage c =
    let within : c.loop-c.c < length c.args.cells.now = omega (arith, c.loop-c-test.true, c.len-c-end.ensures.count) in
    let is = ap (λ (k : CellId). k.0) c.least_cell-least.ensures ∙ least_is c.args.cells.now c.args.s.now.least c.loop-c.c (ap (λ (s : SkeletonLists). s.least) c.requires.skeleton) within in
    (within, (λ level. let t = c.if-not-same_stage.ensures.1 (level ∙ sym (ap (stage_of c.args.cells.now) is)) in cc), c.loop-c.invariant)
