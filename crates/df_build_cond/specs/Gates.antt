-- Gates and MERGE cells: under a control that is a cell of the graph, and under a CTL of their own.
use Rattle.std.specs.Prelude.{ℕ, ◌+◌, Bool, true, false, List, [], ◌∷◌, length}
use Rattle.df_cells.specs.declared.kinds.Kind.{Kind}
use Rattle.df_cells.specs.declared.kinds.Kind.TheVariants as kind
use Rattle.df_cells.specs.declared.kinds.Run.{Run}
use Rattle.df_labels.specs.declared.graphs.Flow.{Flow}
use Rattle.df_labels.specs.declared.graphs.Flow.TheVariants.{Cell}
use Rattle.df_labels.specs.Graphs.{Graph, Node}
use Rattle.df_labels.specs.Patterns.{pattern}
use Rattle.df_build_cond.specs.Growth.{Stood, with_cell, pushed}

-- the gates that pass at this control
abbrev pub gate_kind : Bool → Kind
gate_kind true = kind.Tgate
gate_kind false = kind.Fgate

module _ (keep : Node → Node) where
  -- a gate under a control that is a cell
  abbrev pub gated : Graph → Bool → ℕ → ℕ → Stood
  gated graph side control operand = pushed keep graph (gate_kind side) (Cell control ∷ Cell operand ∷ [])

  -- a MERGE under a control that is a cell, with its sides at true and at false
  abbrev pub merged : Graph → ℕ → Flow → Flow → Stood
  merged graph control on_true on_false = pushed keep graph kind.Merge (Cell control ∷ on_true ∷ on_false ∷ [])

  -- a cell, and behind it the CTL of its own with these runs, which feeds its first port
  unfoldable pub ruled : Graph → Kind → List Flow → List Run → Stood
  ruled graph it flows runs = let m = length graph in
      record { graph = with_cell keep (with_cell keep graph it (Cell (m + 1) ∷ flows)) (kind.Ctl runs) []; cell = m }

  -- the same, with the runs of these parts: each so many times a truth value
  abbrev pub patterned : Graph → Kind → List Flow → List (ℕ × Bool) → Stood
  patterned graph it flows parts = ruled graph it flows (pattern parts)
