use Rattle.std.proofs.Common.{refl}
use Rattle.df_labels.proofs.Building.{bare_after}
use Rattle.df_labels.proofs.builder.Builder.push.Goals as goal

pub invariant_of-self : goal.invariant_of-self
invariant_of-self c =
    bare_after c.self.inside.cells c.push.new.self _ c.push.result c.self.invariant refl c.new.ensures c.push.ensures.ok c.push.ensures.err
