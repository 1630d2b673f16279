-- The loops of folds.
use Rattle.std.specs.Prelude.{ℕ, [], ◌∷◌}
use Rattle.df_values.specs.declared.kinds.Op.{Op}
use Rattle.df_values.specs.declared.kinds.Binary.TheVariants.{Operation}
use Rattle.df_cells.specs.Families.{kind_of}
use Rattle.df_labels.specs.declared.graphs.Flow.{Flow}
use Rattle.df_labels.specs.declared.graphs.Flow.TheVariants.{Cell}
use Rattle.df_labels.specs.Graphs.{Graph, Node}
use Rattle.df_build_cond.specs.Growth.{Stood, Grown, pushed}
use Rattle.df_build_loops.specs.Frames.{opened, previous, closed, last}

-- a loop that was begun: its MERGE, and the gate of the values before
pub record Loop : Type 0 where
  pub graph : Graph
  pub merge : ℕ
  pub gate : ℕ

module _ (keep : Node → Node) where
  -- the MERGE of a fold of n turns and its gate
  unfoldable pub loop_begun : Flow → ℕ → Graph → Loop
  loop_begun first n graph =
      let o = opened keep graph first n in
      let p = previous keep o.graph o.cell n in
      record { graph = p.graph; merge = o.cell; gate = p.cell }

  -- the operator joins the values before with those of the body and feeds the MERGE; the fold is the last value
  unfoldable pub loop_ended : Op → ℕ → ℕ → ℕ → Grown → Stood
  loop_ended op merge gate n body =
      let joined = pushed keep body.graph (kind_of (Operation op)) (Cell gate ∷ body.flow ∷ []) in
      last keep (closed joined.graph merge (Cell joined.cell)) merge n
