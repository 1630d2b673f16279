use Rattle.std.proofs.Common.{rules, SFits}
use Rattle.std.proofs.lemmas.Int.{to_z-of_z}
use Rattle.df_iotext.proofs.NumberLemmas.{width, integer_is_text, integer_has_digits, integer_is_read, read_is_integer}
use Rattle.df_iotext.proofs.numbers.read_integer.Goals as goal

pub returns-in_default-clause-none : goal.returns-in_default-clause-none
returns-in_default-clause-none c z ordinary is = c.in_default.ensures.cases.0 (integer_is_text _ (integer_has_digits _ z is))

pub returns-in-Ok-parse-clause-integer : goal.returns-in-Ok-parse-clause-integer
returns-in-Ok-parse-clause-integer c =
    let fits : SFits width c.in-Ok-parse.integer = search rules in
    let read = read_is_integer c.args.word.now c.in-Ok.text.now c.in-Ok-parse.integer c.parse.result (search rules) c.in-Ok.ensures.cases.0 c.parse.ensures.value.0 c.in-Ok-parse.is in
    rw (to_z-of_z width c.in-Ok-parse.integer fits) read.0

pub returns-in-Ok-parse-clause-ordinary : goal.returns-in-Ok-parse-clause-ordinary
returns-in-Ok-parse-clause-ordinary c =
    let fits : SFits width c.in-Ok-parse.integer = search rules in
    let read = read_is_integer c.args.word.now c.in-Ok.text.now c.in-Ok-parse.integer c.parse.result (search rules) c.in-Ok.ensures.cases.0 c.parse.ensures.value.0 c.in-Ok-parse.is in
    rw (to_z-of_z width c.in-Ok-parse.integer fits) read.1

pub returns-in-Err-clause-none : goal.returns-in-Err-clause-none
returns-in-Err-clause-none c z ordinary is =
    integer_is_read c.args.word.now c.in-Ok.text.now z c.parse.result c.in-Err.field-0 is ordinary c.in-Ok.ensures.cases.0 c.parse.ensures.value.0 c.in-Err.is
