-- Where the runs of a CTL end.
use Rattle.std.specs.Prelude.{ℕ, ◌+◌, List, [], ◌∷◌}
use Rattle.df_cells.specs.declared.kinds.Run.{Run}
use Rattle.df_cells.specs.declared.kinds.Kind.{Kind}
use Rattle.df_cells.specs.declared.kinds.Kind.TheVariants as kind

-- for each run how many values there are up to its end, where so many come before the first
abbrev pub ends_from : ℕ → List Run → List ℕ
ends_from before [] = []
ends_from before (r ∷ runs) = (before + r.count) ∷ ends_from (before + r.count) runs

-- the same of a cell, none where it is no CTL
abbrev pub ends_of : Kind → List ℕ
ends_of (kind.Ctl runs) = ends_from 0 runs
ends_of _ = []
