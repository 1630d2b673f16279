use Rattle.std.proofs.Common.{◌≡◌, ◌++◌, All, take, length, codes}
use Rattle.std.specs.Fmt.{decimal}
use Rattle.df_celltext.specs.CellText.{cell_lines}
use Rattle.df_celltext.specs.Writable.{HaveNames, IsWritableCell}
use Rattle.df_celltext.proofs.writer.write_cells.Given as goal

abbrev pub invariant-loop-number : goal.invariant-loop-number
invariant-loop-number l =
    (l.text ≡ codes "dataflow 2 " ++ decimal (length l.cells) ++ codes "\n" ++ cell_lines 0 (take l.number l.cells)) × (HaveNames l.cells → All IsWritableCell (take l.number l.cells))
