-- A worked row: two BUF cells on one arc of a graph of five cells.
use Rattle.std.specs.Prelude.{◌≡◌, ℤ, pos, List, [], ◌∷◌, map, take, codes}
use Rattle.std.specs.List.{flat_map}
use Rattle.std.proofs.Common.{refl}
use Rattle.df_values.specs.declared.values.Value.TheVariants.{Int}
use Rattle.df_values.specs.declared.values.Basic.TheVariants.{Integer}
use Rattle.df_cells.specs.declared.cells.Feed.TheVariants.{Constant}
use Rattle.df_cells.specs.declared.cells.Feed.{Feed}
use Rattle.df_cells.specs.declared.kinds.Kind.{Kind}
use Rattle.df_cells.specs.declared.kinds.Kind.TheVariants as kind
use Rattle.df_cells.specs.Cells.{port_of, skeleton_arcs}
use Rattle.df_cells.specs.Shifts.{origin}
use Rattle.df_cells.specs.declared.cells.Cell.{Cell}
use Rattle.df_buffers_laws.specs.HasSkeleton.{buffers_on, node_over}
use Rattle.df_cancel.specs.Balances.{numbered}
use Rattle.df_stages.specs.JoinedPaths.{joined_arcs}
use Rattle.df_labels.specs.Graphs.{Graph, Node}
use Rattle.df_labels.specs.Flows.{arc}
use Rattle.df_buffers_laws.specs.Insertions.{ports_to_buffer, buffered}

abbrev node : Kind → List Feed → Node
node it ports = record { kind = it; ports = ports }

-- the sum A + (A + 1) * 2
abbrev pub joined_graph : Graph
joined_graph =
    node (kind.In (codes "A") Integer 2) []
    ∷ node kind.Add (arc 0 ∷ Constant (Int (pos 1)) ∷ [])
    ∷ node kind.Mul (arc 1 ∷ Constant (Int (pos 2)) ∷ [])
    ∷ node kind.Add (arc 0 ∷ arc 2 ∷ [])
    ∷ node (kind.Out 1 2) (arc 3 ∷ [])
    ∷ []

stages : List ℤ
stages = pos 0 ∷ pos 1 ∷ pos 2 ∷ pos 3 ∷ pos 4 ∷ []

joined_ports : ports_to_buffer joined_arcs (numbered stages) ≡ port_of 3 0 ∷ port_of 3 0 ∷ []
unfolding stages
joined_ports = refl

joined_buffered : buffered joined_graph joined_arcs (numbered stages)
    ≡ node (kind.In (codes "A") Integer 2) []
    ∷ node kind.Add (arc 0 ∷ Constant (Int (pos 1)) ∷ [])
    ∷ node kind.Mul (arc 1 ∷ Constant (Int (pos 2)) ∷ [])
    ∷ node kind.Add (arc 6 ∷ arc 2 ∷ [])
    ∷ node (kind.Out 1 2) (arc 3 ∷ [])
    ∷ node kind.Buf (arc 0 ∷ [])
    ∷ node kind.Buf (arc 5 ∷ [])
    ∷ []
unfolding stages
joined_buffered = refl

-- ---- cells of this graph have the skeleton

abbrev made : Node → Cell
made it = record { kind = it.kind; stage = 0; mark = 0; ports = it.ports; dests = [] }

joined_cells : List Cell
joined_cells = map made (buffered joined_graph joined_arcs (numbered stages))

joined_on : buffers_on joined_cells (port_of 3 0) ≡ 5 ∷ 6 ∷ []
unfolding stages joined_cells
joined_on = refl

joined_first : map (node_over joined_cells) (take 5 joined_cells) ≡ joined_graph
unfolding stages joined_cells origin
joined_first = refl

joined_order : flat_map (buffers_on joined_cells) (skeleton_arcs joined_cells) ≡ 5 ∷ 6 ∷ []
unfolding stages joined_cells
joined_order = refl
