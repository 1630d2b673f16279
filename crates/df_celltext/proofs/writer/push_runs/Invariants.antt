use Rattle.std.proofs.Common.{◌≡◌, ◌++◌, All, map, take}
use Rattle.df_celltext.specs.CellText.{spaced, run_word}
use Rattle.df_celltext.specs.Writable.{IsWritableRun}
use Rattle.df_celltext.proofs.writer.push_runs.Given as goal

abbrev pub invariant-loop-run : goal.invariant-loop-run
invariant-loop-run l = (l.text ≡ l.fn.text ++ spaced (map run_word (take l.run-index l.runs))) × All IsWritableRun (take l.run-index l.runs)
