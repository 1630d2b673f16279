use Rattle.std.proofs.Common.{◌≡◌, length}
use Rattle.df_celltext.proofs.WrongLemmas.{HasRead}
use Rattle.df_celltext.proofs.reader.read_version.Given as goal

-- so many cells were read, and their lines are the first of the text
abbrev pub invariant-loop-number : goal.invariant-loop-number
invariant-loop-number l = record { read : HasRead l.version l.fn.text l.count l.cells l.lines; number : length l.cells ≡ l.number }
