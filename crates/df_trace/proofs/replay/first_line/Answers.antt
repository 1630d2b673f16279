use Rattle.std.proofs.Common.{length, sym, arith}
use Rattle.std.proofs.lemmas.Bool.{eqb-false}
use Rattle.df_trace.proofs.Lines.{line_ends, line_alone}
use Rattle.df_trace.proofs.replay.first_line.Goals as goal

pub returns-then-end-text-clause-line : goal.returns-then-end-text-clause-line
returns-then-end-text-clause-line c =
    let some = eqb-false (length c.args.text.now) 0 (sym c.if-is_empty.ensures) in
    line_alone c.args.text.now c.line_length-end.result c.line_length-end.ensures.length c.if-end-text.true (omega (arith, some))

pub returns-clause-line : goal.returns-clause-line
returns-clause-line c =
    line_ends c.args.text.now c.line_length-end.result c.line_length-end.ensures.length (omega (arith, c.if-end-text.false, c.line_length-end.ensures.within))
