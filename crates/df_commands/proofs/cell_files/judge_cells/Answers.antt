use Rattle.std.proofs.Common.{ap, Err, inr}
use Rattle.df_commands.proofs.cell_files.judge_cells.Goals as goal

pub returns-in-Err-BadCells : goal.returns-in-Err-BadCells
returns-in-Err-BadCells c =
    inr (record {
      cells = c.in-Ok.cells;
      read = c.in-Ok.ensures.found;
      rule = c.in-Err-BadCells.rule;
      cell = c.in-Err-BadCells.cell.0;
      says = c.in_ok-refused_by_rule-in-Err-BadCells.ensures;
      first = c.in-Err-BadCells.ensures.first c.in-Err-BadCells.rule c.in-Err-BadCells.cell (ap Err c.in-Err-BadCells.field-0-is);
    })
