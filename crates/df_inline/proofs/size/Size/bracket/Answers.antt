use Rattle.std.proofs.Common.{refl}
use Rattle.df_inline.specs.Sizes.{bracketed}
use Rattle.df_inline.specs.Counts.{saturated}
use Rattle.df_inline.proofs.size.Size.bracket.Goals as goal

pub returns : goal.returns
unfolding saturated bracketed
returns c = refl
