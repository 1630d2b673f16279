use Rattle.df_inline.specs.Sizes.{nothing, bracketed}
use Rattle.df_inline.proofs.counter.of_sort.Goals as goal

pub returns-in-Basic : goal.returns-in-Basic
unfolding nothing bracketed
returns-in-Basic c = rw c.in-Basic.is c.nothing.ensures
