use Rattle.std.proofs.Common.{is_some, ap, ◌∙◌}
use Rattle.df_iotext.proofs.KeyLemmas.{found_under}
use Rattle.df_iotext.proofs.keys.Places.has.Goals as goal

pub returns : goal.returns
returns c = rw (← c.self.view_is) (c.contains_key.ensures ∙ ap is_some (found_under (λ key. key.now) c.self.inside.numbers.entries c.args.name.now))
