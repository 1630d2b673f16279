use Rattle.std.proofs.Common.{◌≡◌, ◌++◌, All, map, take}
use Rattle.df_celltext.specs.CellText.{spaced, dest_word}
use Rattle.df_celltext.specs.Writable.{IsWritableDest}
use Rattle.df_celltext.proofs.writer.push_dests.Given as goal

abbrev pub invariant-loop-dest : goal.invariant-loop-dest
invariant-loop-dest l = (l.text ≡ l.fn.text ++ spaced (map dest_word (take l.dest-index l.dests))) × All IsWritableDest (take l.dest-index l.dests)
