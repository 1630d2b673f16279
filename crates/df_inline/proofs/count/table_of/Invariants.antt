use Rattle.std.proofs.Common.{take, reverse}
use Rattle.df_inline.specs.Sizes.{call_size}
use Rattle.df_inline.specs.Counts.{Holds}
use Rattle.df_inline.specs.Tables.{HasAll}
use Rattle.df_inline.proofs.count.table_of.Given as goal

abbrev pub invariant-loop-place : goal.invariant-loop-place
invariant-loop-place l = record {
  sizes : Holds l.table (call_size (reverse (take l.place l.functions)));
  places : HasAll (take l.place l.functions) l.table;
}
