use Rattle.std.proofs.Common.{ℕ, ◌<◌, get_or}
use Rattle.df_cells.specs.declared.cells.Feed.{Feed}
use Rattle.df_wellformed.specs.Loads.{GoesRound}
use Rattle.df_wellformed.proofs.loads.loads_loops.Given as goal

abbrev pub invariant-loop-feed : goal.invariant-loop-feed
invariant-loop-feed l = (p : ℕ) (d : Feed) → p < l.feed-index → GoesRound l.cells l.cell.mark (get_or l.feed-items p d)
