use Rattle.std.proofs.Common.{◌≡◌, ◌≤◌, take}
use Rattle.std.specs.List.{count_by}
use Rattle.df_cells.specs.Kinds.{is_buffer}
use Rattle.df_dual_check.proofs.flows.count_buffers.Given as goal

abbrev pub invariant-loop-c : goal.invariant-loop-c
invariant-loop-c l = record {
  counted : l.count ≡ count_by (λ cell. is_buffer cell.kind) (take l.c l.cells);
  small : l.count ≤ l.c;
}
