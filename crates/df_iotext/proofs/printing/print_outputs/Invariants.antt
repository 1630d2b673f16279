-- The lines of the lists so far.
use Rattle.std.proofs.Common.{◌≡◌, take}
use Rattle.df_iotext.specs.Printed.{result_lines}
use Rattle.df_iotext.proofs.printing.print_outputs.Given as goal

abbrev pub invariant-loop-k : goal.invariant-loop-k
invariant-loop-k l = l.text ≡ result_lines 1 (take l.k l.outputs.lists)
