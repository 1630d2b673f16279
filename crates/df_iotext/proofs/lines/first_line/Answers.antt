use Rattle.std.proofs.Common.{◌+◌, ◌∷◌, ◌<◌, ap, sym, ◌∙◌, arith, length, drop}
use Rattle.std.specs.Str.Lines.{lines}
use Rattle.std.proofs.lemmas.List.{take_rest}
use Rattle.df_iotext.proofs.LineLemmas.{line_first, line_last}
use Rattle.df_iotext.proofs.lines.first_line.Goals as goal

pub returns-then-end-text-clause-line : goal.returns-then-end-text-clause-line
returns-then-end-text-clause-line c =
    let some : 0 < length c.args.text.now = grind arith in
    line_last c.args.text.now c.place_of-end.result c.place_of-end.ensures.value (omega arith) some

pub returns-clause-line : goal.returns-clause-line
returns-clause-line c =
    let text = c.args.text.now in
    let end = c.place_of-end.result in
    let before : end < length text = omega (arith, c.if-end-text.false) in
    line_first text end c.place_of-end.ensures.value before
    ∙ ap (λ line. line ∷ lines (drop (end + 1) text)) (sym c.without_return.ensures.line)
    ∙ ap (λ rest. c.without_return.result.now ∷ lines rest) (sym (take_rest text (end + 1)))
