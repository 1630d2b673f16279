use Rattle.df_inline.proofs.Saturated.{inside_saturated}
use Rattle.df_inline.proofs.size.Size.inside.Goals as goal

pub returns : goal.returns
returns c = λ s is. inside_saturated s c.args.self c.saturating_add.result is c.saturating_add.ensures
