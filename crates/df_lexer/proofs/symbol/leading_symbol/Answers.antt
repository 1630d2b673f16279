-- By the two look-ups, of which that of two bytes goes first.
use Rattle.std.proofs.Common.{sym, ◌∙◌}
use Rattle.df_lexer.proofs.LongestSymbols.{IsAnswer, with_equals_answer, single_answer}
use Rattle.df_lexer.proofs.symbol.leading_symbol.Goals as goal

with_equals : (c : goal.After-or) → IsAnswer c.args.text.now c.or.result
with_equals c =
    with_equals_answer c.args.text.now c.in_ok-first.field-0.now c.with_equals.result c.single.result c.or.result
    (sym c.in_ok-first.ensures.value) (sym c.is_equals_second.ensures ∙ c.if-is_equals_second.true) c.with_equals.ensures c.single.ensures c.or.ensures

pub returns-then-is_equals_second-clause-longest : goal.returns-then-is_equals_second-clause-longest
returns-then-is_equals_second-clause-longest c = (with_equals c).found

pub returns-then-is_equals_second-clause-none : goal.returns-then-is_equals_second-clause-none
returns-then-is_equals_second-clause-none c = (with_equals c).none

alone : (c : goal.After-single-else-is_equals_second) → IsAnswer c.args.text.now c.single-else-is_equals_second.result
alone c =
    single_answer c.args.text.now c.in_ok-first.field-0.now c.single-else-is_equals_second.result
    (sym c.in_ok-first.ensures.value) (sym c.is_equals_second.ensures ∙ c.if-is_equals_second.false) c.single-else-is_equals_second.ensures

pub returns-else-is_equals_second-clause-longest : goal.returns-else-is_equals_second-clause-longest
returns-else-is_equals_second-clause-longest c = (alone c).found

pub returns-else-is_equals_second-clause-none : goal.returns-else-is_equals_second-clause-none
returns-else-is_equals_second-clause-none c = (alone c).none
