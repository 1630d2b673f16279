use Rattle.std.proofs.Common.{◌≡◌, ◌+◌, ◌++◌, drop, reverse}
use Rattle.df_flattened.specs.Flattened.{flatten, bodies, blocks_flattened}
use Rattle.df_inline.specs.Bindings.{standing_at}
use Rattle.df_inline.proofs.copier.Copier.blocks.Given as goal

abbrev pub invariant-loop-k : goal.invariant-loop-k
invariant-loop-k g l =
    l.made ++ blocks_flattened (flatten (bodies (reverse l.self.functions.now))) (standing_at l.names) (l.first + l.k) (drop l.k l.blocks)
    ≡ blocks_flattened (flatten (bodies (reverse l.self.functions.now))) (standing_at l.initial.names) l.first l.blocks
