use Rattle.std.proofs.Common.{SFits, w64, arith}
use Rattle.std.proofs.lemmas.Int.{ints}
use Rattle.df_buffers.proofs.excesses.above_weight.Goals as goal

pub returns-clause-value : goal.returns-clause-value
returns-clause-value c =
    let from : SFits w64 c.args.from = c.ranges.from in
    let to : SFits w64 c.args.to = c.ranges.to in
    let weight : SFits w64 c.args.weight = c.ranges.weight in
    omega (arith, ints)
