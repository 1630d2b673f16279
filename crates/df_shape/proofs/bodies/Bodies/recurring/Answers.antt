use Rattle.std.proofs.Common.{arith}
use Rattle.std.proofs.lemmas.Int.{ints}
use Rattle.df_values.specs.Values.{least, greatest}
use Rattle.df_shape.proofs.bodies.Bodies.recurring.Goals as goal

pub returns-clause-bounds : goal.returns-clause-bounds
unfolding least greatest
returns-clause-bounds c = record { low = (omega (arith, ints), omega (arith, ints)); high = omega (arith, ints) }
