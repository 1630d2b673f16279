use Rattle.df_syntax.specs.declared.piped.Block.{Block}
use Rattle.df_inline.specs.Sizes.{body_size}
use Rattle.df_inline.proofs.Saturated.{counted}
use Rattle.df_inline.proofs.counter.Counter.blocks.Goals as goal

pub loop-block-preserved : goal.loop-block-preserved
loop-block-preserved c = λ of_call h.
    counted (λ (b : Block). body_size of_call b.body) c.args.blocks.now c.loop-block.block-index c.block-item.result c.loop-block.size c.and-size.result _ (c.loop-block.invariant of_call h) c.and-size.ensures
    (c.body.ensures of_call h) c.loop-block-test.true c.block-item.is
