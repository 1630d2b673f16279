use Rattle.std.proofs.Common.{take}
use Rattle.df_inline.specs.Sizes.{blocks_size}
use Rattle.df_inline.specs.Counts.{Counts}
use Rattle.df_inline.proofs.counter.Counter.blocks.Given as goal

abbrev pub invariant-loop-block : goal.invariant-loop-block
invariant-loop-block l = Counts l.self.sizes.now l.size (λ of_call. blocks_size of_call (take l.block-index l.blocks))
