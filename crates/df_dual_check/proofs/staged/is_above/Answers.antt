use Rattle.std.proofs.Common.{◌≡◌, ◌+ℤ◌, ◌-ℤ◌, to_z, of_z, SFits, ap, w64, arith, eq-eqb}
use Rattle.std.specs.Int.{w128}
use Rattle.std.proofs.lemmas.Bool.{eqb-true}
use Rattle.std.proofs.lemmas.Int.{ints}
use Rattle.df_dual_check.proofs.staged.is_above.Goals as goal

pub returns : goal.returns
returns c =
    let f : SFits w64 c.args.weight = c.ranges.weight in (
      (λ t. let e = ap (to_z w128) (eqb-true _ _ t) in omega (arith, ints)),
      (λ e. eq-eqb _ _ (ap (of_z w128) (let same : to_z w128 (of_z w128 c.from.result) -ℤ to_z w128 (of_z w128 c.from-2.result) ≡ to_z w128 (of_z w128 c.from-3.result) +ℤ to_z w128 (of_z w128 c.from-4.result) = omega (arith, ints) in same))),
    )
