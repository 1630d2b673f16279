use Rattle.std.proofs.Common.{◌<◌, ◌^◌, arith}
use Rattle.df_iotext.proofs.NumberLemmas.{number_is_text, number_is_read}
use Rattle.df_iotext.proofs.numbers.read_number.Goals as goal

pub returns-in_default-clause-none : goal.returns-in_default-clause-none
returns-in_default-clause-none c n small is = c.in_default.ensures.cases.0 (number_is_text _ is.digits)

pub returns-in_default-parse-2-clause-none : goal.returns-in_default-parse-2-clause-none
returns-in_default-parse-2-clause-none c n small is =
    let fits : n < 2 ^ 32 = omega arith in
    let read = number_is_read c.args.word.now c.in-Ok.text.now n c.parse.result fits is c.in-Ok.ensures.cases.0 c.parse.ensures.value.0 in
    cc
