use Rattle.std.proofs.Common.{refl}
use Rattle.df_inline.specs.Sizes.{nothing}
use Rattle.df_inline.specs.Counts.{saturated}
use Rattle.df_inline.proofs.size.Size.nothing.Goals as goal

pub returns : goal.returns
unfolding saturated nothing
returns c = refl
