use Rattle.std.proofs.Common.{◌≡◌, take}
use Rattle.df_stages.specs.Skeletons.{buffers}
use Rattle.df_commands.proofs.report.count_buffers.Given as goal

abbrev pub invariant-loop-c : goal.invariant-loop-c
invariant-loop-c l = l.count ≡ buffers (take l.c l.cells)
