-- Labels beside a graph, the streams that they answer and take, and when they meet the graph.
use Rattle.std.specs.Prelude.{◌≡◌, ℕ, ◌-◌, Bool, false, List, [], ◌∷◌, length, map, get_or, take, slice_get, Option, Some, None}
use Rattle.std.specs.List.{AllByRecursion, count_by, range_with_len}
use Rattle.df_values.specs.declared.values.Value.{Value}
use Rattle.df_cells.specs.declared.cells.Cell.{Cell}
use Rattle.df_cells.specs.declared.cells.Feed.{Feed}
use Rattle.df_cells.specs.declared.cells.Feed.TheVariants as feed
use Rattle.df_cells.specs.declared.kinds.Kind.{Kind}
use Rattle.df_cells.specs.declared.kinds.Kind.TheVariants as kind
use Rattle.df_cells.specs.Kinds.{is_input, is_buffer}
use Rattle.df_cells.specs.Cells.{loaded_from}
use Rattle.df_cells.specs.Families.{family}
use Rattle.df_cells.specs.Shifts.{control_values, first_truth, gate_place, merge_place}
use Rattle.df_labels.specs.Graphs.{Graph, Node}
use Rattle.df_labels.specs.Labels.{Turn, later, Firing, turns_of, Stream, stream_values, answered, received, source_list, in_order_from, AreRising, IsRightFiring}
use Rattle.df_labels.specs.declared.graphs.Flow.{Flow}
use Rattle.df_labels.specs.declared.graphs.Flow.TheVariants.{Constant, Cell as Whole}
use Rattle.df_labels.specs.Flows.{arc}

-- the label of one cell
abbrev pub Label : Type 0
Label = List Firing

-- a graph, and a label for each of its cells
pub record Site : Type 0 where
  pub graph : Graph
  pub labels : List Label

abbrev pub site_of : Graph → List Label → Site
site_of graph labels = record { graph = graph; labels = labels }

-- ---- shifts

-- the values of the CTL that feeds port 0 of a node; none where it is fed by something else
abbrev pub pattern_at : Option Node → List Value
pattern_at None = []
pattern_at (Some node) = control_values node.kind

abbrev pub pattern_from : Graph → Option Feed → List Value
pattern_from graph None = []
pattern_from graph (Some (feed.Arc u)) = pattern_at (slice_get graph u.0)
pattern_from graph (Some (feed.Constant v)) = []
pattern_from graph (Some (feed.Loaded u v)) = []

abbrev pub pattern_of : Graph → Node → List Value
pattern_of graph node = pattern_from graph (slice_get node.ports 0)

-- how many turns pass before the first value leaves it, and before the first is taken at its port
abbrev pub gate_of : Graph → Node → ℕ
gate_of graph node = gate_place (family node.kind) (pattern_of graph node)

abbrev pub side_of : Graph → Node → ℕ → ℕ
side_of graph node p = merge_place (family node.kind) p (pattern_of graph node)

-- a stream so many turns later
abbrev pub delayed : ℕ → Stream → Stream
delayed g s = map (λ x. (later g x.0, x.1)) s

-- ---- what comes from a cell

-- a value in each of these turns
abbrev pub stream : List Turn → (Turn → Value) → Stream
stream ts f = map (λ t. (t, f t)) ts

-- what comes over an arc from the cell u, by the turns of the element
pub record Comes (site : Site) (u : ℕ) (s : Stream) : Type 0 where
  pub from : Node
  pub node : slice_get site.graph u ≡ Some from
  pub label : Label
  pub at : slice_get site.labels u ≡ Some label
  pub same : answered label ≡ delayed (gate_of site.graph from) s

-- a CTL of this kind has the first places 0: as a control it shifts nothing
abbrev pub IsPlain : Kind → Type 0
IsPlain it = (side : Bool) → first_truth side (control_values it) ≡ 0

-- what comes from a cell that may be a control
pub record Gives (site : Site) (u : ℕ) (s : Stream) : Type 0 where
  pub comes : Comes site u s
  pub plain : IsPlain comes.from.kind

-- what a built value stands for at these turns: a constant is f at all turns whatever, a cell gives f at just these turns
abbrev pub Stands : Site → Flow → List Turn → (Turn → Value) → Type 0
Stands site (Constant v) ts f = (t : Turn) → f t ≡ v
Stands site (Whole u) ts f = Gives site u (stream ts f)

-- ---- labels that meet the graph

abbrev pub cell_of : Node → Cell
cell_of node = record { kind = node.kind; stage = 0; mark = 0; ports = node.ports; dests = [] }

-- what comes in, and what shall go out
pub record Ends : Type 0 where
  pub inputs : List (List Value)
  pub results : List (List Value)

-- what a cell is given where it is an IN, and what all OUT cells shall receive
pub record Given : Type 0 where
  pub own : List Value
  pub results : List (List Value)

abbrev pub given_of : Ends → ℕ → Given
given_of ends n = record { own = get_or ends.inputs n []; results = ends.results }

-- the values of the IN cell c
abbrev pub values_in : Graph → Ends → ℕ → Given
values_in graph ends c = given_of ends (count_by (λ node. is_input node.kind) (take c graph))

pub record MeetsNode (site : Site) (values : Given) (node : Node) (l : Label) : Type 0 where
  pub sources : (vs : List Value) → source_list node.kind values.own ≡ Some vs → l ≡ in_order_from 0 vs
  pub single : AllByRecursion (λ t. length t ≡ 1) (turns_of l)
  pub rising : AreRising (turns_of l)
  pub arcs : (p u : ℕ) → slice_get node.ports p ≡ Some (arc u)
      → (s : Stream) × Comes site u s × (received p l ≡ delayed (side_of site.graph node p) s)
  pub right : source_list node.kind values.own ≡ None → AllByRecursion (IsRightFiring (cell_of node)) l
  pub outputs : (k n : ℕ) → node.kind ≡ kind.Out k n → length l ≡ n
  pub receives : (k n : ℕ) → node.kind ≡ kind.Out k n → stream_values (received 0 l) ≡ get_or values.results (k - 1) []
  -- no BUF stands in a skeleton
  pub whole : is_buffer node.kind ≡ false
  -- nothing lies at a port before the run
  pub unloaded : (p : ℕ) → loaded_from (slice_get node.ports p) ≡ None

-- all nodes but the open ones meet their equations
pub record Meeting (is_open : ℕ → Bool) (graph : Graph) (inputs : Ends) (labels : List Label) : Type 0 where
  pub long : length labels ≡ length graph
  pub each : (c : ℕ) (node : Node) (l : Label) → slice_get graph c ≡ Some node → slice_get labels c ≡ Some l → is_open c ≡ false
      → MeetsNode (site_of graph labels) (values_in graph inputs c) node l
  -- each control is a node that is there
  pub inside : (u : ℕ) (from : Node) (c : ℕ) → slice_get graph u ≡ Some from → slice_get from.ports 0 ≡ Some (arc c) → (it : Node) × (slice_get graph c ≡ Some it)

-- more nodes and labels, and the old ones have the same shifts
pub record Extends (old new : Site) : Type 0 where
  pub label : (u : ℕ) (m : Label) → slice_get old.labels u ≡ Some m → slice_get new.labels u ≡ Some m
  pub node : (u : ℕ) (from : Node) → slice_get old.graph u ≡ Some from → slice_get new.graph u ≡ Some from
  pub pattern' : (u : ℕ) (from : Node) → slice_get old.graph u ≡ Some from → pattern_of new.graph from ≡ pattern_of old.graph from

-- ---- turns of a block

abbrev pub block_turns : ℕ → ℕ → List Turn
block_turns k n = map (λ j. j ∷ []) (range_with_len k n)
