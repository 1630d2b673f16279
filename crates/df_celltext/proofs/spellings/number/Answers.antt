-- The number at the front, where nothing stands behind it and it is within the limit.
use Rattle.std.proofs.Common.{sym, arith}
use Rattle.df_celltext.proofs.NumberLemmas.{number_read, number_missing, number_too_long, number_too_large}
use Rattle.df_celltext.proofs.spellings.number.Goals as goal

pub returns-in_default : goal.returns-in_default
returns-in_default c = sym (number_missing c.args.word.now c.in_default.ensures.none)

pub returns-then-length-word : goal.returns-then-length-word
returns-then-length-word c = sym (number_too_long c.args.word.now c.in-Some.number c.in-Some.length c.in-Some.ensures.small c.in-Some.ensures.number (omega (arith, c.in-Some.ensures.within, c.if-length-word.true)))

pub returns-then-number-from : goal.returns-then-number-from
returns-then-number-from c = sym (number_too_large c.args.word.now c.in-Some.number c.in-Some.length c.in-Some.ensures.small c.in-Some.ensures.number (omega arith))

pub returns : goal.returns
returns c = sym (number_read c.args.word.now c.in-Some.number c.in-Some.length c.in-Some.ensures.number (omega arith) (omega arith))
