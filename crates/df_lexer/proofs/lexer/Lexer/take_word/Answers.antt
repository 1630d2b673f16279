-- The run of letters, digits and _ is the longest piece.
use Rattle.std.proofs.Common.{take, drop, refl, arith}
use Rattle.std.proofs.lemmas.List.{length-take}
use Rattle.df_lexer.proofs.Longest.{word_front, word_longest}
use Rattle.df_lexer.proofs.lexer.Lexer.take_word.Goals as goal

pub returns-then-count-gt-LONGEST_NAME-clause-err : goal.returns-then-count-gt-LONGEST_NAME-clause-err
returns-then-count-gt-LONGEST_NAME-clause-err c = (
  refl,
  (
    take c.name_run-count.result c.args.self.now.rest.now,
    drop c.name_run-count.result c.args.self.now.rest.now,
    word_longest c.args.self.now.rest.now c.name_run-count.result c.requires.begins c.name_run-count.ensures.value,
    word_front c.args.self.now.rest.now c.name_run-count.result c.requires.begins c.name_run-count.ensures.value,
    omega (arith, length-take c.name_run-count.result c.args.self.now.rest.now, c.name_run-count.ensures.within),
  ),
)

pub word_kind-requires-clause-word : goal.word_kind-requires-clause-word
word_kind-requires-clause-word c =
    word_front c.args.self.now.rest.now c.name_run-count.result c.requires.begins c.name_run-count.ensures.value

pub take_token-requires-clause-longest : goal.take_token-requires-clause-longest
take_token-requires-clause-longest c =
    word_longest c.args.self.now.rest.now c.name_run-count.result c.requires.begins c.name_run-count.ensures.value
