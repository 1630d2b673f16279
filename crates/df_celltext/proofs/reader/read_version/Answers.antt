-- Line by line: what was read, and what the first line shows that isn't read.
use Rattle.std.proofs.Common.{◌+◌, [], ◌∷◌, Some, length, length-append, sym, ap, subst, ◌∙◌, arith}
use Rattle.df_celltext.specs.Reading.{count_line, cell_line_in}
use Rattle.df_celltext.specs.declared.reader.CellTextAnswer.TheVariants.{BadCellText}
use Rattle.df_celltext.proofs.AnswerLemmas.{shows_wrong, wrong_only, is_nothing, is_something}
use Rattle.df_celltext.proofs.TextLemmas.{one_list}
use Rattle.df_celltext.proofs.WrongLemmas.{HasRead, first_read, one_more_read, cell_read, whole_read, wrong_first, wrong_cell, wrong_end, wrong_more}
use Rattle.df_celltext.proofs.reader.read_version.Goals as goal

-- ---- the first line

pub returns-in-Err-clause-wrong : goal.returns-in-Err-clause-wrong
returns-in-Err-clause-wrong c =
    shows_wrong c.args.version c.args.text.now c.in-Err.answer 1 c.answer_at.result (count_line c.args.version c.args.text.now) c.in-Err.ensures (wrong_first c.args.version c.args.text.now) c.answer_at.ensures

pub returns-in-Err-clause-only : goal.returns-in-Err-clause-only
returns-in-Err-clause-only c =
    wrong_only c.args.version c.args.text.now c.answer_at.result
    (shows_wrong c.args.version c.args.text.now c.in-Err.answer 1 c.answer_at.result (count_line c.args.version c.args.text.now) c.in-Err.ensures (wrong_first c.args.version c.args.text.now) c.answer_at.ensures)

-- ---- the lines of the cells

pub loop-number-init : goal.loop-number-init
loop-number-init c = record {
  read = subst (λ cells. HasRead c.args.version c.args.text.now c.in-Ok.count cells c.count.new.self) (sym c.new-cells.ensures) (first_read c.args.version c.args.text.now c.in-Ok.count c.count.new.self c.in-Ok.ensures);
  number = ap length c.new-cells.ensures;
}

pub returns-in-Err-cell-clause-wrong : goal.returns-in-Err-cell-clause-wrong
returns-in-Err-cell-clause-wrong c =
    shows_wrong c.args.version c.args.text.now c.in-Err-cell.answer (c.loop-number.number + 2) c.answer_at-in-Err-cell.result (cell_line_in c.args.version c.loop-number.number c.loop-number.lines) c.in-Err-cell.ensures
    (wrong_cell c.args.version c.args.text.now c.in-Ok.count c.loop-number.number c.loop-number.cells c.loop-number.lines c.loop-number.invariant.read c.loop-number.invariant.number c.loop-number-test.true)
    c.answer_at-in-Err-cell.ensures

pub returns-in-Err-cell-clause-only : goal.returns-in-Err-cell-clause-only
returns-in-Err-cell-clause-only c =
    wrong_only c.args.version c.args.text.now c.answer_at-in-Err-cell.result
    (shows_wrong c.args.version c.args.text.now c.in-Err-cell.answer (c.loop-number.number + 2) c.answer_at-in-Err-cell.result (cell_line_in c.args.version c.loop-number.number c.loop-number.lines) c.in-Err-cell.ensures
    (wrong_cell c.args.version c.args.text.now c.in-Ok.count c.loop-number.number c.loop-number.cells c.loop-number.lines c.loop-number.invariant.read c.loop-number.invariant.number c.loop-number-test.true)
    c.answer_at-in-Err-cell.ensures)

pub push-requires-clause-shaped : goal.push-requires-clause-shaped
push-requires-clause-shaped c = (cell_read c.args.version c.loop-number.number c.loop-number.lines c.in-Ok-cell.cell c.cell.new.self c.in-Ok-cell.ensures).shaped

pub loop-number-preserved : goal.loop-number-preserved
loop-number-preserved c =
    let pushed = c.in_ok-push.ensures.ok in
    record {
      read = subst (λ cells. HasRead c.args.version c.args.text.now c.in-Ok.count cells c.cell.new.self) (sym pushed)
          (one_more_read c.args.version c.args.text.now c.in-Ok.count c.loop-number.number c.loop-number.cells c.loop-number.lines c.in-Ok-cell.cell c.cell.new.self c.loop-number.invariant.read c.loop-number.invariant.number c.in-Ok-cell.ensures);
      number = ap length pushed ∙ omega (arith, length-append c.loop-number.cells (c.in-Ok-cell.cell ∷ []), c.loop-number.invariant.number);
    }

-- ---- the last line, and what stands behind it

pub returns-then-not-end-clause-wrong : goal.returns-then-not-end-clause-wrong
returns-then-not-end-clause-wrong c =
    wrong_end c.args.version c.args.text.now c.in-Ok.count c.loop-number.cells c.loop-number.lines c.loop-number.invariant.read (omega arith) c.if-not-end.ensures.no

pub returns-then-not-end-clause-only : goal.returns-then-not-end-clause-only
returns-then-not-end-clause-only c =
    wrong_only c.args.version c.args.text.now (BadCellText (c.in-Ok.count + 2))
    (wrong_end c.args.version c.args.text.now c.in-Ok.count c.loop-number.cells c.loop-number.lines c.loop-number.invariant.read (omega arith) c.if-not-end.ensures.no)

pub returns-then-not-is_empty-clause-wrong : goal.returns-then-not-is_empty-clause-wrong
returns-then-not-is_empty-clause-wrong c =
    wrong_more c.args.version c.args.text.now c.in-Ok.count c.loop-number.cells c.loop-number.lines c.end.new.self c.loop-number.invariant.read (omega arith) c.if-not-end.ensures.yes (is_something c.end.new.self c.if-not-is_empty.ensures)

pub returns-then-not-is_empty-clause-only : goal.returns-then-not-is_empty-clause-only
returns-then-not-is_empty-clause-only c =
    wrong_only c.args.version c.args.text.now (BadCellText (c.in-Ok.count + 3))
    (wrong_more c.args.version c.args.text.now c.in-Ok.count c.loop-number.cells c.loop-number.lines c.end.new.self c.loop-number.invariant.read (omega arith) c.if-not-end.ensures.yes (is_something c.end.new.self c.if-not-is_empty.ensures))

-- ---- all lines

pub returns-clause-found : goal.returns-clause-found
returns-clause-found c =
    whole_read c.args.version c.args.text.now c.in-Ok.count c.loop-number.cells c.loop-number.lines c.loop-number.invariant.read (omega arith)
    (c.if-not-end.ensures.yes ∙ ap Some (is_nothing c.end.new.self c.if-not-is_empty.ensures))

pub returns-clause-only : goal.returns-clause-only
returns-clause-only c cells is =
    one_list c.args.version c.args.text.now c.loop-number.cells cells
    (whole_read c.args.version c.args.text.now c.in-Ok.count c.loop-number.cells c.loop-number.lines c.loop-number.invariant.read (omega arith)
    (c.if-not-end.ensures.yes ∙ ap Some (is_nothing c.end.new.self c.if-not-is_empty.ensures)))
    is
