use Rattle.std.proofs.Common.{◌≡◌, length}
use Rattle.df_dual_check.specs.LinesRead.{IsReadTo}
use Rattle.df_dual_check.proofs.dual_text.read_lines.Given as goal

abbrev pub invariant-loop-i : goal.invariant-loop-i
invariant-loop-i l = record {
  read : IsReadTo l.arcs l.text l.flow.items l.rest;
  long : length l.flow.items ≡ l.i;
}
