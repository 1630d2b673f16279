-- Frames: loops that are open while what feeds them is built.
use Rattle.std.specs.Prelude.{ℕ, true, false, [], ◌∷◌, Option, Some, None}
use Rattle.df_values.specs.declared.values.Value.{Value}
use Rattle.df_values.specs.declared.values.Value.TheVariants.{Error}
use Rattle.df_values.specs.declared.values.ErrorValue.TheVariants.{Undef}
use Rattle.df_cells.specs.declared.kinds.Kind.TheVariants as kind
use Rattle.df_cells.specs.Cells.{port_of}
use Rattle.df_labels.specs.declared.graphs.Flow.{Flow}
use Rattle.df_labels.specs.declared.graphs.Flow.TheVariants.{Constant, Cell}
use Rattle.df_labels.specs.Flows.{feed_of}
use Rattle.df_labels.specs.Graphs.{Graph, Node, with_fed}
use Rattle.df_build_cond.specs.Growth.{Stood}
use Rattle.df_build_cond.specs.Gates.{patterned}
use Rattle.df_build_loops.specs.declared.frames.Frame.{Frame}

abbrev pub undef : Value
undef = Error Undef

-- the MERGE of this number is fed by what the body gives
abbrev pub closed : Graph → ℕ → Flow → Graph
closed graph merge next = with_fed graph (port_of merge 2) (feed_of next)

module _ (keep : Node → Node) where
  -- the MERGE of a loop: the first value, and then n turns of the body, whose port waits
  abbrev pub opened : Graph → Flow → ℕ → Stood
  opened graph first n = patterned keep graph kind.Merge (first ∷ Constant undef ∷ []) ((1, true) ∷ (n, false) ∷ [])

  -- the values before, in the n turns of a loop with this MERGE
  abbrev pub previous : Graph → ℕ → ℕ → Stood
  previous graph merge n = patterned keep graph kind.Tgate (Cell merge ∷ []) ((n, true) ∷ (1, false) ∷ [])

  -- those of a frame, whose gate may be there
  abbrev pub gate_met : Graph → ℕ → ℕ → Option ℕ → Stood
  gate_met graph merge n (Some gate) = record { graph = graph; cell = gate }
  gate_met graph merge n None = previous graph merge n

  abbrev pub frame_gate : Graph → Frame → Stood
  frame_gate graph frame = gate_met graph frame.merge frame.turns frame.previous

  -- the last of the n + 1 values that a cell gives
  abbrev pub last : Graph → ℕ → ℕ → Stood
  last graph all n = patterned keep graph kind.Fgate (Cell all ∷ []) ((n, true) ∷ (1, false) ∷ [])
