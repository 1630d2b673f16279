-- The run of digits is the longest piece.
use Rattle.std.proofs.Common.{take, drop, refl, arith}
use Rattle.std.proofs.lemmas.Int.{ints}
use Rattle.df_values.specs.Values.{greatest}
use Rattle.df_lexer.proofs.Longest.{number_front, number_longest, run_passes}
use Rattle.df_lexer.proofs.lexer.Lexer.take_number.Goals as goal

pub number_of-requires : goal.number_of-requires
number_of-requires c =
    run_passes (take c.digit_run-count.result c.args.self.now.rest.now) (number_front c.args.self.now.rest.now c.digit_run-count.result c.requires.begins c.digit_run-count.ensures.value)

pub take_token-requires-clause-longest : goal.take_token-requires-clause-longest
take_token-requires-clause-longest c =
    number_longest c.args.self.now.rest.now c.digit_run-count.result c.requires.begins c.digit_run-count.ensures.value

pub take_token-requires-clause-spelled : goal.take_token-requires-clause-spelled
unfolding greatest
take_token-requires-clause-spelled c = (
  number_front c.args.self.now.rest.now c.digit_run-count.result c.requires.begins c.digit_run-count.ensures.value,
  omega (arith, ints, c.in-Some.ensures.number, c.in-Some.ensures.small),
  omega (arith, ints, c.in-Some.ensures.number, c.in-Some.ensures.small),
)

pub returns-in-None-clause-err : goal.returns-in-None-clause-err
returns-in-None-clause-err c = (
  refl,
  (
    take c.digit_run-count.result c.args.self.now.rest.now,
    drop c.digit_run-count.result c.args.self.now.rest.now,
    number_longest c.args.self.now.rest.now c.digit_run-count.result c.requires.begins c.digit_run-count.ensures.value,
    number_front c.args.self.now.rest.now c.digit_run-count.result c.requires.begins c.digit_run-count.ensures.value,
    c.in-None.ensures.large,
  ),
)
