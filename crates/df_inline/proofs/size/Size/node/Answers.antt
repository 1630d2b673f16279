use Rattle.std.proofs.Common.{refl}
use Rattle.df_inline.specs.Sizes.{nothing, one_more}
use Rattle.df_inline.specs.Counts.{saturated}
use Rattle.df_inline.proofs.size.Size.node.Goals as goal

pub returns : goal.returns
unfolding saturated nothing one_more
returns c = refl
