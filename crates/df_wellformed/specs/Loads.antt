-- What the rule on loaded values asks of one port.
use Rattle.std.specs.Prelude.{◌≡◌, ◌≢◌, ℕ, List}
use Rattle.df_cells.specs.declared.cells.Cell.{Cell}
use Rattle.df_cells.specs.declared.cells.Feed.{Feed}
use Rattle.df_cells.specs.declared.cells.Feed.TheVariants.{Arc, Constant, Loaded}
use Rattle.df_cells.specs.Paths.{mark_of}

-- where the feed is loaded, it comes from a cell of this mark, which is not 0
abbrev pub GoesRound : List Cell → ℕ → Feed → Type 0
GoesRound cells mark (Arc u) = Unit {0}
GoesRound cells mark (Constant v) = Unit {0}
GoesRound cells mark (Loaded u v) = (mark_of cells u.0 ≡ mark) × (mark ≢ 0)
