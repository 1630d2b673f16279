use Rattle.std.proofs.Common.{None, ◌∙◌}
use Rattle.df_iotext.proofs.KeyLemmas.{found_under, changed_under}
use Rattle.df_iotext.proofs.keys.Places.take.Goals as goal

pub returns-clause-value : goal.returns-clause-value
returns-clause-value c = rw (← c.self.view_is) (c.remove.ensures.value ∙ found_under (λ key. key.now) c.self.inside.numbers.entries c.args.name.now)

pub returns-clause-others : goal.returns-clause-others
returns-clause-others c other =
    rw (← c.self.view_is) (changed_under (λ key. key.now) c.self.inside.numbers.entries c.remove.new.self.entries c.args.name (record c.args.name { now = other }) None
    (c.remove.ensures.updates.0 (record c.args.name { now = other })))
