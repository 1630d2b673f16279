-- Scalars that are held for the turns of a block.
use Rattle.std.specs.Prelude.{ℕ, ◌+◌, ◌-◌, true, false, [], ◌∷◌, length}
use Rattle.df_cells.specs.declared.kinds.Kind.TheVariants as kind
use Rattle.df_labels.specs.declared.graphs.Flow.TheVariants.{Cell}
use Rattle.df_labels.specs.Graphs.{Graph, Node}
use Rattle.df_labels.specs.Patterns.{pattern}
use Rattle.df_build_cond.specs.Growth.{Stood, with_cell}

module _ (keep : Node → Node) where
  -- a scalar once in each of n turns, n at least 2: a MERGE that takes the scalar and then what a gate lets back of its
  -- own values, each with a CTL behind it
  abbrev pub held : Graph → ℕ → ℕ → Stood
  held graph scalar n =
      let m = length graph in
      let merge = with_cell keep graph kind.Merge (Cell (m + 1) ∷ Cell scalar ∷ Cell (m + 2) ∷ []) in
      let first_only = with_cell keep merge (kind.Ctl (pattern ((1, true) ∷ (n - 1, false) ∷ []))) [] in
      let gate = with_cell keep first_only kind.Tgate (Cell (m + 3) ∷ Cell m ∷ []) in
      record { graph = with_cell keep gate (kind.Ctl (pattern ((n - 1, true) ∷ (1, false) ∷ []))) []; cell = m }
