use Rattle.std.proofs.Common.{◌∙◌, ap, ℤ}
use Rattle.std.specs.Int.{w128}
use Rattle.std.specs.BTreeMap.{get}
use Rattle.std.proofs.lemmas.Int.{to_z-of_z}
use Rattle.df_build_access.specs.Accesses.{accesses_of, access_cmp}
use Rattle.df_build_access.proofs.accesses.Accesses.get.Goals as goal

pub returns : goal.returns
unfolding accesses_of
returns c =
    c.copied.ensures
    ∙ (c.get.ensures.value ∙ ap (λ (z : ℤ). get access_cmp c.args.self.now.entries (c.args.array, z)) (to_z-of_z w128 c.args.offset c.ranges.offset))
