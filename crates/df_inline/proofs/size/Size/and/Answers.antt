use Rattle.df_inline.proofs.Saturated.{both_saturated}
use Rattle.df_inline.proofs.size.Size.and.Goals as goal

pub returns : goal.returns
returns c = λ s t p q. both_saturated s t c.args.self c.args.other c.saturating_add.result c.max.result p q c.saturating_add.ensures c.max.ensures
