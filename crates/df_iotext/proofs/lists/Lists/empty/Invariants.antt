-- So many empty lists.
use Rattle.std.proofs.Common.{◌≡◌, replicate, map, []}
use Rattle.df_iotext.proofs.lists.Lists.empty.Given as goal

abbrev pub invariant-loop-k : goal.invariant-loop-k
invariant-loop-k l = map (λ values. values.items) l.lists.items ≡ replicate l._k []
