-- The same graphs and values, but for nodes of which less is kept.
use Rattle.std.specs.Prelude.{map}
use Rattle.df_labels.specs.Graphs.{Node}
use Rattle.df_build_cond.specs.Growth.{Stood, Grown}
use Rattle.df_build_cond.specs.Arms.{Passed, Crossed}

module _ (f : Node → Node) where
  abbrev pub over_stood : Stood → Stood
  over_stood s = record s { graph = map f s.graph }

  abbrev pub over_grown : Grown → Grown
  over_grown w = record w { graph = map f w.graph }

  abbrev pub over_passed : Passed → Passed
  over_passed p = record p { graph = map f p.graph }

  abbrev pub over_crossed : Crossed → Crossed
  over_crossed c = record c { graph = map f c.graph }
