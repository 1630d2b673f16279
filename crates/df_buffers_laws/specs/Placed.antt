-- What holds of cells on whose arcs BUF cells were placed by a balance.
use Rattle.std.specs.Prelude.{◌≡◌, ◌≢◌, ℕ, ◌<◌, ℤ, pos, List, length, map, Some}
use Rattle.std.specs.List.{count_by}
use Rattle.df_values.specs.declared.values.Value.{Value}
use Rattle.df_cells.specs.declared.cells.CellId.{CellId}
use Rattle.df_cells.specs.declared.cells.Cell.{Cell}
use Rattle.df_cells.specs.declared.cells.Dest.{Dest}
use Rattle.df_cells.specs.declared.kinds.Kind.TheVariants as kind
use Rattle.df_cells.specs.Cells.{cell_at, feed_of, producer_of, same_port, inputs_of, outputs, AreCells}
use Rattle.df_cells.specs.Paths.{mark_of, HasMarks}
use Rattle.df_cells.specs.WellFormed.{NamesWithin, ListsItsArcs, WellFormed}
use Rattle.df_stages.specs.Flows.{total_excess}
use Rattle.df_stages.specs.Skeletons.{nodes, arcs, buffers, skeleton_of}
use Rattle.df_stages.specs.Balance.{IsBalanced, IsLeast, IsCertificate}
use Rattle.df_cancel.specs.Balances.{numbered, IsTight}
use Rattle.df_labels.specs.Graphs.{graph_of}
use Rattle.df_labels.specs.Members.{Labels, LabelsMeet, AreLate}
use Rattle.df_labels.specs.ForAll.{MeaningForAll, RealizesForAll}
use Rattle.df_buffers_laws.specs.Insertions.{ports_to_buffer, buffered}
use Rattle.df_buffers_laws.specs.Buffered.{IsBuffered}
use Rattle.df_buffers_laws.specs.HasSkeleton.{HasSkeleton}
use Rattle.df_buffers_laws.specs.Filled.{filled}
use Rattle.df_buffers_laws.specs.Carried.{carried}
use Rattle.df_buffers_laws.specs.Staged.{HasStages, HasLowestStage}

-- how many BUF cells come on the arc to a port
abbrev pub counts_of : List Cell → (ℕ → ℤ) → Dest → ℕ
counts_of cells numbers d = count_by (same_port d) (ports_to_buffer (arcs cells) numbers)

-- the graph with the BUF cells, made into cells: their destinations in order, right marks, and stages
pub record AreMade (old new : List Cell) (numbers : ℕ → ℤ) : Type 0 where
  pub graph : graph_of new ≡ buffered (graph_of old) (arcs old) numbers
  pub shaped : AreCells new
  pub port : (c : ℕ) → c < length new → NamesWithin new c
  pub dest : (c : ℕ) → c < length new → ListsItsArcs new c
  pub loop : HasMarks new
  pub staged : HasStages old new numbers

pub record ArePlaced (old new : List Cell) (stages : List ℤ) (flow : List ℕ) : Type 0 where
  pub stand : IsBuffered old new (counts_of old (numbered stages))
  pub skeleton : HasSkeleton new (graph_of old)
  pub well_formed : WellFormed new
  pub marks_stay : (c : ℕ) → mark_of new c ≡ mark_of old c
  pub nodes_stay : nodes new ≡ nodes old
  pub arcs_stay : arcs new ≡ map (filled (counts_of old (numbered stages))) (arcs old)
  pub inputs_stay : inputs_of new ≡ inputs_of old
  pub outputs_stay : outputs new ≡ outputs old
  -- within loops the same feeds, loaded values included
  pub loops_stay : (d : Dest) (u : CellId) → producer_of new d ≡ Some u → mark_of new u.0 ≢ 0 → mark_of new d.cell.0 ≢ 0
      → feed_of new d ≡ feed_of old d
  pub balanced : IsBalanced new
  pub lowest : HasLowestStage new
  -- as many BUF cells as the sum of the excesses
  pub counted : pos (buffers new) ≡ total_excess (numbered stages) (arcs old)
  pub certified : IsTight (skeleton_of old) stages flow → IsCertificate new flow
  pub least : IsTight (skeleton_of old) stages flow → IsLeast new
  -- labels that met the cells meet them still, and each OUT keeps its label
  pub labelled : (inputs : List (List Value)) (n : ℕ) (labels : Labels) → LabelsMeet old inputs n labels
      → AreLate old labels → LabelsMeet new inputs n (carried old new labels)
  pub results_stay : (labels : Labels) (c k n : ℕ) → (cell_at new c).kind ≡ kind.Out k n
      → ((cell_at old c).kind ≡ kind.Out k n) × (carried old new labels c ≡ labels c)
  pub realized : (meaning : MeaningForAll) → RealizesForAll old meaning → RealizesForAll new meaning
