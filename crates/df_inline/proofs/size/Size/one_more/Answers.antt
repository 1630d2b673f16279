use Rattle.df_inline.proofs.Saturated.{more_saturated}
use Rattle.df_inline.proofs.size.Size.one_more.Goals as goal

pub returns : goal.returns
returns c = λ s is. more_saturated s c.args.self c.saturating_add.result is c.saturating_add.ensures
