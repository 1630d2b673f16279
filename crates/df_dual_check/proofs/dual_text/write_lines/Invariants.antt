use Rattle.std.proofs.Common.{◌≡◌, ◌++◌, take, length}
use Rattle.df_dual_check.specs.DualTexts.{line, text_of, head_line, flow_lines}
use Rattle.df_dual_check.proofs.dual_text.write_lines.Given as goal

abbrev pub invariant-loop-i : goal.invariant-loop-i
invariant-loop-i l = l.text ≡ line (head_line (length l.arcs)) ++ text_of (flow_lines l.arcs (take l.i l.flow))
