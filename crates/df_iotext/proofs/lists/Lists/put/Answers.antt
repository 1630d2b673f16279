use Rattle.std.proofs.lemmas.List.{map-set}
use Rattle.df_iotext.proofs.lists.Lists.put.Goals as goal

pub returns : goal.returns
returns c = rw (← c.self.view_is) (map-set (λ values. values.items) c.self.inside.lists.items c.args.k c.args.values)
