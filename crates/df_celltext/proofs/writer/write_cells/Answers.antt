use Rattle.std.proofs.Common.{◌<◌, ◌++◌, length, codes, arith}
use Rattle.std.specs.Fmt.{decimal}
use Rattle.df_celltext.proofs.CellLines.{one_more_written}
use Rattle.df_celltext.proofs.WritableCells.{one_more_writable, text_whole, text_of}
use Rattle.df_celltext.proofs.writer.write_cells.Goals as goal

pub loop-number-preserved : goal.loop-number-preserved
loop-number-preserved c =
    let within : c.loop-number.number < length c.args.cells.now = omega arith in (
      one_more_written c.args.cells.now c.loop-number.number (codes "dataflow 2 " ++ decimal (length c.args.cells.now) ++ codes "\n") c.loop-number.text c.push_cell.new.text c.get.result.now within
          c.loop-number.invariant.0 c.in_ok-push_cell.ensures.text c.get.ensures.cell,
      one_more_writable c.args.cells.now c.loop-number.number c.get.result.now within c.get.ensures.cell c.loop-number.invariant.1 c.in_ok-push_cell.ensures.writable,
    )

pub returns-clause-readable : goal.returns-clause-readable
returns-clause-readable c names = text_of c.args.cells.now c.loop-number.number c.push_text-3.new.self (omega arith) c.len.ensures.cells (text_whole c.args.cells.now c.loop-number.number c.loop-number.text c.push_text-3.new.self (omega arith) c.loop-number.invariant.0 c.in_ok-push_text-3.ensures.ok) (c.loop-number.invariant.1 names)
