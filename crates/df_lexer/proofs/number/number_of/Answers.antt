-- The number of the first digits is above the greatest integer already.
use Rattle.std.proofs.Common.{◌≡◌, ℕ, ◌+◌, ◌-◌, ◌*◌, take, slice_index_or, arith}
use Rattle.std.proofs.lemmas.Int.{ints}
use Rattle.std.proofs.lemmas.List.Sums.{fold_more}
use Rattle.df_values.specs.Values.{greatest}
use Rattle.df_syntax.specs.Pieces.{number_of}
use Rattle.df_lexer.proofs.Numbers.{prefix_small}
use Rattle.df_lexer.proofs.number.number_of.Goals as goal

pub returns-then-number-from-clause-large : goal.returns-then-number-from-clause-large
unfolding greatest
returns-then-number-from-clause-large c =
    let i : ℕ = c.loop-digit.digit-index in
    let more : number_of (take (i + 1) c.args.digits.now) ≡ 10 * number_of (take i c.args.digits.now) + (slice_index_or c.args.digits.now i 0 - 48) =
    fold_more (λ n b. 10 * n + (b - 48)) 0 c.args.digits.now i 0 c.loop-digit-test.true in
    omega (arith, ints, more, prefix_small c.args.digits.now (i + 1), c.loop-digit.invariant.value, c.if-number-from.true)
