-- BUF cells inserted into a graph, one at a time, each at the consumer's end of an arc.
use Rattle.std.specs.Prelude.{ℕ, ℤ, pos, negsuc, List, [], ◌∷◌, ◌++◌, length, fold, replicate}
use Rattle.std.specs.List.{flat_map}
use Rattle.df_cells.specs.declared.cells.Dest.{Dest}
use Rattle.df_cells.specs.declared.kinds.Kind.TheVariants as kind
use Rattle.df_stages.specs.declared.skeleton.SkeletonArc.{SkeletonArc}
use Rattle.df_stages.specs.Flows.{excess}
use Rattle.df_labels.specs.Flows.{arc}
use Rattle.df_labels.specs.Graphs.{Graph, Node, feed_in, with_fed}

-- a BUF cell that takes what feeds the port d stands at the end, and feeds the port
abbrev pub buffer_for : Graph → Dest → Node
buffer_for graph d = record { kind = kind.Buf; ports = feed_in graph d ∷ [] }

abbrev pub insert : Graph → Dest → Graph
insert graph d = with_fed (graph ++ buffer_for graph d ∷ []) d (arc (length graph))

abbrev pub inserted : Graph → List Dest → Graph
inserted graph ports = fold insert graph ports

-- 0 in place of a negative number
abbrev pub natural : ℤ → ℕ
natural (pos n) = n
natural (negsuc n) = 0

-- the ports at the ends of the arcs, each as often as its excess, in the order of the arcs
abbrev pub ports_to_buffer : List SkeletonArc → (ℕ → ℤ) → List Dest
ports_to_buffer arcs numbers = flat_map (λ arc. replicate (natural (excess numbers arc)) arc.name) arcs

-- the graph with its buffers
abbrev pub buffered : Graph → List SkeletonArc → (ℕ → ℤ) → Graph
buffered graph arcs numbers = inserted graph (ports_to_buffer arcs numbers)
