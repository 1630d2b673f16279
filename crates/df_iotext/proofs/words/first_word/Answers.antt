use Rattle.std.proofs.Common.{◌∷◌, sym, ap, ◌∙◌, arith, ◌<◌, take}
use Rattle.std.proofs.lemmas.List.{take_rest}
use Rattle.df_iotext.specs.Words.{is_gap, words}
use Rattle.df_iotext.proofs.WordLemmas.{word_first, no_word}
use Rattle.df_iotext.proofs.words.first_word.Goals as goal

pub returns-then-length-eq0-clause-none : goal.returns-then-length-eq0-clause-none
returns-then-length-eq0-clause-none c =
    no_word (is_gap c.args.gaps) c.args.text.now _ c.behind_gaps-found.ensures
    (sym c.if-length-eq0.true ∙ c.word_len-length.ensures.value)

pub returns-clause-word : goal.returns-clause-word
returns-clause-word c =
    let found = c.behind_gaps-found.result.now in
    let n = c.word_len-length.result in
    let some : 0 < n = omega arith in
    word_first (is_gap c.args.gaps) c.args.text.now found n c.behind_gaps-found.ensures c.word_len-length.ensures.value some
    ∙ ap (λ rest. take n found ∷ words c.args.gaps rest) (sym (take_rest found n))
