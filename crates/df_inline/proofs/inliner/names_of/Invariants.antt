use Rattle.std.proofs.Common.{◌≡◌, drop}
use Rattle.df_names.specs.Maps.{nothing}
use Rattle.df_flattened.specs.Flattened.{inputs_bound}
use Rattle.df_inline.specs.Bindings.{standing_at}
use Rattle.df_inline.proofs.inliner.names_of.Given as goal

abbrev pub invariant-loop-number : goal.invariant-loop-number
invariant-loop-number l = inputs_bound (standing_at l.names) l.number (drop l.number l.parameters) ≡ inputs_bound nothing 0 l.parameters
