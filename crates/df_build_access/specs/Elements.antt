-- The cells of accesses.
use Rattle.std.specs.Prelude.{ℕ, ℤ, ◌-◌, nat_lt, true, false, if◌then◌else◌, [], ◌∷◌, Option, Some, None}
use Rattle.df_values.specs.declared.values.Value.TheVariants.{Error}
use Rattle.df_values.specs.declared.values.ErrorValue.TheVariants.{MissElt}
use Rattle.df_cells.specs.declared.kinds.Kind.TheVariants as kind
use Rattle.df_labels.specs.declared.graphs.Flow.TheVariants.{Constant, Cell}
use Rattle.df_labels.specs.Graphs.{Graph, Node}
use Rattle.df_build_cond.specs.Growth.{Stood, Grown}
use Rattle.df_build_cond.specs.Gates.{patterned}
use Rattle.df_build_access.specs.declared.windows.Array.{Array}
use Rattle.df_build_access.specs.declared.windows.Window.{Window}
use Rattle.df_build_access.specs.Windows.{window_of}

module _ (keep : Node → Node) where
  -- the elements of a window: a gate where the array has others
  abbrev pub cut : Array → Window → Graph → Stood
  cut a w graph =
      if nat_lt w.kept a.n
      then patterned keep graph kind.Tgate (Cell a.cell ∷ []) ((w.skipped, false) ∷ (w.kept, true) ∷ (a.n - w.skipped - w.kept, false) ∷ [])
      else record { graph = graph; cell = a.cell }

  -- and in the other turns `miss_elt`: a MERGE where there are others
  abbrev pub filled : ℕ → Window → Stood → Stood
  filled n w s =
      if nat_lt w.kept n
      then patterned keep s.graph kind.Merge (Cell s.cell ∷ Constant (Error MissElt) ∷ []) ((w.missed, false) ∷ (w.kept, true) ∷ (n - w.missed - w.kept, false) ∷ [])
      else s

  unfoldable pub windowed_by : ℕ → Array → Graph → Option Window → Grown
  windowed_by n a graph None = record { graph = graph; flow = Constant (Error MissElt) }
  windowed_by n a graph (Some w) = let s = filled n w (cut a w graph) in record { graph = s.graph; flow = Cell s.cell }

  -- an access in n turns from the index lo on: the elements at the index and an offset together
  abbrev pub windowed : ℤ → ℕ → Array → ℤ → Graph → Grown
  windowed lo n a offset graph = windowed_by n a graph (window_of lo n a offset)
