-- Values under construction, and what feeds a port with one.
use Rattle.std.specs.Prelude.{ℕ}
use Rattle.df_cells.specs.declared.cells.Feed.{Feed}
use Rattle.df_cells.specs.declared.cells.Feed.TheVariants as feed
use Rattle.df_labels.specs.declared.graphs.Flow.{Flow}
use Rattle.df_labels.specs.declared.graphs.Flow.TheVariants.{Constant, Cell}

-- an arc from a cell
abbrev pub arc : ℕ → Feed
arc c = feed.Arc (record { 0 = c })

abbrev pub feed_of : Flow → Feed
feed_of (Constant v) = feed.Constant v
feed_of (Cell c) = arc c
