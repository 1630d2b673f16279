use Rattle.std.proofs.Common.{◌≡◌, length, subst, arith}
use Rattle.df_buffers.specs.Staging.{StagedSoFar}
use Rattle.df_buffers.proofs.StagesKept.{cells_stay}
use Rattle.df_buffers.proofs.staging.set_stages.Goals as goal

pub returns-clause-cells : goal.returns-clause-cells
returns-clause-cells c =
    let all : c.loop-c.c ≡ length c.args.cells.now = omega arith in
    cells_stay c.args.cells.now c.loop-c.cells c.args.stages.now
    (subst (λ n. StagedSoFar c.args.cells.now c.args.stages.now n c.loop-c.cells) all c.loop-c.invariant) c.len-c-end.ensures.cells
