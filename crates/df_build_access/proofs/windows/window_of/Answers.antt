use Rattle.std.proofs.Common.{◌≡◌, ◌∙◌, ap, arith, ◌-ℤ◌, ◌+ℤ◌, ◌<◌, ◌^◌, to_z, of_z}
use Rattle.std.specs.Int.{w64, w128, saturate_signed}
use Rattle.std.proofs.lemmas.Int.{ints}
use Rattle.df_build_access.specs.Windows.{window_by}
use Rattle.df_build_access.proofs.WindowLemmas.{saturated}
use Rattle.df_build_access.proofs.windows.window_of.Goals as goal

pub returns-clause-of : goal.returns-clause-of
returns-clause-of c =
    let few : c.args.n < 2 ^ 32 = omega (arith, c.ranges.n) in
    let short : c.args.array.n < 2 ^ 32 = omega arith in
    let lo = c.args.lo in
    let first = c.args.array.lo in
    let same : to_z w128 (of_z w128 c.saturating_sub-gap.result) ≡ c.saturating_sub-gap.result = omega (arith, ints, c.saturating_sub-gap.type_inv) in
    let is : to_z w128 (of_z w128 (to_z w128 (of_z w128 (to_z w64 (of_z w64 first))) -ℤ to_z w128 (of_z w128 (to_z w64 (of_z w64 lo))))) -ℤ to_z w128 (of_z w128 c.args.offset)
    ≡ first -ℤ (lo +ℤ c.args.offset) = omega (arith, ints, c.ranges.lo, c.ranges.offset) in
    c.window_by.ensures.of
    ∙ (ap (window_by c.args.n c.args.array.n) (same ∙ (c.saturating_sub-gap.ensures ∙ ap (saturate_signed w128) is))
    ∙ saturated c.args.n c.args.array.n (first -ℤ (lo +ℤ c.args.offset)) few short)
