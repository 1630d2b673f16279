-- Laws of BUF cells on the arcs of a skeleton.
use Rattle.std.specs.Prelude.{◌≡◌, ℕ, ℤ, pos, List, length, All}
use Rattle.df_cells.specs.declared.cells.Cell.{Cell}
use Rattle.df_cells.specs.WellFormed.{WellFormed}
use Rattle.df_stages.specs.declared.skeleton.SkeletonArc.{SkeletonArc}
use Rattle.df_stages.specs.Flows.{Respects, total_excess}
use Rattle.df_stages.specs.Skeletons.{arcs, skeleton_of}
use Rattle.df_cancel.specs.Balances.{numbered, IsBalance}
use Rattle.df_labels.specs.Graphs.{graph_of, HasArcs, HasPort}
use Rattle.df_buffers_laws.specs.Insertions.{ports_to_buffer, buffered}
use Rattle.df_buffers_laws.specs.Buffered.{IsBuffered}
use Rattle.df_labels.specs.Finishing.{HasNoBuffers}
use Rattle.df_buffers_laws.specs.Nodes.{HasCountedNodes}
use Rattle.df_buffers_laws.specs.Placed.{counts_of, AreMade, ArePlaced}

abbrev pub CountsNodes : Type 0
CountsNodes = (cells : List Cell) → HasCountedNodes cells

-- each port to buffer is one of the graph
abbrev pub EndsAtPorts : Type 0
EndsAtPorts =
    (cells : List Cell) (numbers : ℕ → ℤ) → All (HasPort (graph_of cells)) (ports_to_buffer (arcs cells) numbers)

-- as many ports are buffered as the sum of the excesses
abbrev pub CountsPorts : Type 0
CountsPorts = (arcs : List SkeletonArc) (numbers : ℕ → ℤ) → Respects numbers arcs
    → pos (length (ports_to_buffer arcs numbers)) ≡ total_excess numbers arcs

-- cells of the graph with its buffers have BUF cells on the arcs between nodes: on each as many as its excess
abbrev pub StandOnArcs : Type 0
StandOnArcs = (old new : List Cell) (numbers : ℕ → ℤ) → WellFormed old → HasNoBuffers old
    → graph_of new ≡ buffered (graph_of old) (arcs old) numbers → IsBuffered old new (counts_of old numbers)

-- in the graph with its buffers each arc still comes from a cell
abbrev pub KeepsArcs : Type 0
KeepsArcs = (old : List Cell) (numbers : ℕ → ℤ) → WellFormed old → HasNoBuffers old
    → HasArcs (buffered (graph_of old) (arcs old) numbers)

-- where BUF cells were placed by a balance, the cells stay well-formed, and are balanced
abbrev pub PlacesBuffers : Type 0
PlacesBuffers = (old new : List Cell) (stages : List ℤ) (flow : List ℕ) → WellFormed old → HasNoBuffers old
    → IsBalance (skeleton_of old) stages flow → AreMade old new (numbered stages) → ArePlaced old new stages flow

-- cells of one graph without BUF cells have one skeleton
abbrev pub SameSkeletons : Type 0
SameSkeletons = (one other : List Cell) → WellFormed one → WellFormed other → HasNoBuffers one → HasNoBuffers other
    → graph_of one ≡ graph_of other → arcs one ≡ arcs other
