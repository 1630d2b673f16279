-- The values so far are the last list.
use Rattle.std.proofs.Common.{◌≡◌, ◌++◌, ◌∷◌, take, []}
use Rattle.df_iotext.proofs.lists.add_list.Given as goal

abbrev pub invariant-loop-value : goal.invariant-loop-value
invariant-loop-value l = l.streams.lists ≡ l.fn.streams.lists ++ take l.value-index l.values ∷ []
