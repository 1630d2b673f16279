-- The lists so far are streams.
use Rattle.std.proofs.Common.{◌≡◌, map, take}
use Rattle.df_iotext.proofs.lists.Lists.into_streams.Given as goal

abbrev pub invariant-loop-values : goal.invariant-loop-values
invariant-loop-values l = l.streams.lists ≡ map (λ values. values.items) (take l.values-index l.values-items)
