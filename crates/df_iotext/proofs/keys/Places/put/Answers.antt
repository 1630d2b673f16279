use Rattle.std.proofs.Common.{Some}
use Rattle.df_iotext.proofs.KeyLemmas.{changed_under}
use Rattle.df_iotext.proofs.keys.Places.put.Goals as goal

pub returns : goal.returns
returns c other =
    rw (← c.self.view_is) (changed_under (λ key. key.now) c.self.inside.numbers.entries c.insert.new.self.entries c.args.name (record c.args.name { now = other }) (Some c.args.number)
    (c.in_ok-insert.ensures.updates.0 (record c.args.name { now = other })))
