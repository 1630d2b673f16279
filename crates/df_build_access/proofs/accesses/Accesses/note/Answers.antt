use Rattle.std.proofs.Common.{subst, ℤ, Some}
use Rattle.std.specs.Int.{w128}
use Rattle.std.specs.BTreeMap.{UpdatesBy}
use Rattle.std.proofs.lemmas.Int.{to_z-of_z}
use Rattle.df_build_access.specs.Accesses.{access_cmp}
use Rattle.df_build_access.proofs.Standing.{with_access}
use Rattle.df_build_access.proofs.accesses.Accesses.note.Goals as goal

pub returns-clause-ok : goal.returns-clause-ok
returns-clause-ok c =
    with_access c.args.self.now.entries c.insert.new.self c.args.array c.args.offset c.args.flow
    (subst (λ (z : ℤ). UpdatesBy access_cmp (access_cmp (c.args.array, z)) c.args.self.now.entries c.insert.new.self (Some c.args.flow))
    (to_z-of_z w128 c.args.offset c.ranges.offset) c.in_ok-insert.ensures.updates)
