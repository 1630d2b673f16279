use Rattle.std.proofs.Common.{◌∷◌, ap, ◌∙◌}
use Rattle.df_iotext.specs.Readers.IsBadDrain.{wrong, longer}
use Rattle.df_iotext.proofs.schedules.read_drain.Goals as goal

pub returns-in_default-read_number-clause-refused : goal.returns-in_default-read_number-clause-refused
returns-in_default-read_number-clause-refused c k e =
    wrong _ _ c.in-Some.ensures.word (λ n is. c.in_default-read_number.ensures.none n is.small is.number) (cc)

pub returns-in-Some-first_word-clause-refused : goal.returns-in-Some-first_word-clause-refused
returns-in-Some-first_word-clause-refused c k e =
    longer _ c.in-Some-read_number.count _ _
    (c.in-Some.ensures.word ∙ ap (λ more. c.in-Some.word.now ∷ more) c.in-Some-first_word.ensures.word)
    (record { number = c.in-Some-read_number.ensures.number; small = c.in-Some-read_number.ensures.bound })
    (cc)
