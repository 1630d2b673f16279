-- The cells of a block. `keep` is what is kept of a node.
use Rattle.std.specs.Prelude.{ℕ, ℤ, suc, pos, ◌-◌, Bool, true, false, if◌then◌else◌, ◌==◌, List, [], ◌∷◌, Option, Some, None}
use Rattle.df_values.specs.declared.kinds.Op.{Op}
use Rattle.df_values.specs.declared.values.Value.{Value}
use Rattle.df_cells.specs.declared.kinds.Kind.TheVariants as kind
use Rattle.df_labels.specs.Graphs.{Graph, Node}
use Rattle.df_labels.specs.Patterns.{steady}
use Rattle.df_labels.specs.declared.graphs.Flow.{Flow}
use Rattle.df_labels.specs.declared.graphs.Flow.TheVariants.{Constant, Cell}
use Rattle.df_core.specs.Meaning.{begun, or_undef, before}
use Rattle.df_core.specs.declared.terms.Term.{Term}
use Rattle.df_core.specs.declared.flat.Body.{Body}
use Rattle.df_core.specs.declared.flat.Body.TheVariants as body
use Rattle.df_build_cond.specs.Gates.{patterned}
use Rattle.df_build_cond.specs.Growth.{Stood, Grown, pushed}
use Rattle.df_build_loops.specs.Folds.{loop_begun, loop_ended}
use Rattle.df_build_loops.specs.Frames.{opened, closed}
use Rattle.df_build_terms.specs.Building as building
use Rattle.df_build_terms.specs.Built.{built}
use Rattle.df_build_terms.specs.declared.building.Outside.{Outside}
use Rattle.df_build_terms.specs.declared.building.Outside.TheVariants.{Single, Many}
use Rattle.df_build_terms.specs.declared.building.Turns.{Turns}

-- a graph with a block in it
pub record Placed : Type 0 where
  pub graph : Graph
  pub outside : Outside

abbrev pub turns_of : ℤ → ℕ → Turns
turns_of lo n = record { lo = lo; n = n; own = None }

-- a scalar has one turn, over the index 0
abbrev pub one_turn : Turns
one_turn = turns_of (pos 0) 1

abbrev pub as_scalar : Grown → Placed
as_scalar w = record { graph = w.graph; outside = Single w.flow }

abbrev pub as_array : ℤ → ℕ → Stood → Placed
as_array lo n s = record { graph = s.graph; outside = Many (record { cell = s.cell; lo = lo; n = n }) }

module _ (keep : Node → Node) where
  -- a term in a block of its own
  unfoldable pub element : Turns → List Outside → Term → Graph → Grown
  element turns outer x graph =
      let e = built keep turns outer x [] (building.begun graph) in record { graph = e.state.graph; flow = e.flow }

  -- a term as a scalar
  abbrev pub alone : List Outside → Term → Graph → Grown
  alone outer x graph = element one_turn outer x graph

  -- a built value of n turns as a cell: a constant has a CTL
  abbrev pub listed : ℕ → Graph → Flow → Stood
  listed n graph (Constant v) = pushed keep graph (kind.Ctl (steady n v)) []
  listed n graph (Cell c) = record { graph = graph; cell = c }

  -- an array of as many elements as turns
  unfoldable pub constructed : Turns → List Outside → Term → Graph → Stood
  constructed turns outer x graph =
      if turns.n == 0 then pushed keep graph (kind.Ctl []) []
      else let e = element turns outer x graph in listed turns.n e.graph e.flow

  -- a fold that begins with a constant: the element is built within the loop
  unfoldable pub folded_from : Value → Op → Turns → List Outside → Term → Graph → Stood
  folded_from v op turns outer x graph =
      let l = loop_begun keep (Constant v) turns.n graph in
      loop_ended keep op l.merge l.gate turns.n (element turns outer x l.graph)

  -- a fold that begins with its first member: the element is built before the loop
  unfoldable pub folded_first : Op → Turns → List Outside → Term → Graph → Stood
  folded_first op turns outer x graph =
      let e = element turns outer x graph in
      let s = listed turns.n e.graph e.flow in
      let parts = (1, true) ∷ (turns.n - 1, false) ∷ [] in
      let first = patterned keep s.graph kind.Tgate (Cell s.cell ∷ []) parts in
      let rest = patterned keep first.graph kind.Fgate (Cell s.cell ∷ []) parts in
      let l = loop_begun keep (Cell first.cell) (turns.n - 1) rest.graph in
      loop_ended keep op l.merge l.gate (turns.n - 1) (record { graph = l.graph; flow = Cell rest.cell })

  abbrev pub folded_by : Option Value → Op → Turns → List Outside → Term → Graph → Stood
  folded_by (Some v) op turns outer x graph = folded_from v op turns outer x graph
  folded_by None op turns outer x graph = folded_first op turns outer x graph

  -- a fold; of nothing it is the constant that it begins with
  unfoldable pub folded : Op → Turns → List Outside → Term → Graph → Grown
  folded op turns outer x graph =
      if turns.n == 0 then record { graph = graph; flow = Constant (or_undef (begun op)) }
      else let s = folded_by (begun op) op turns outer x graph in record { graph = s.graph; flow = Cell s.cell }

  -- the turns of a recurrence after its first element: the array is the MERGE, which the element feeds
  unfoldable pub grown_by : ℤ → ℕ → List Outside → Term → Graph → Flow → Stood
  grown_by lo n outer x graph first =
      let o = opened keep graph first n in
      let e = element (record { lo = lo; n = n; own = Some o.cell }) outer x o.graph in
      record { graph = closed e.graph o.cell e.flow; cell = o.cell }

  unfoldable pub recurred : ℤ → ℕ → List Outside → Term → Term → Graph → Stood
  recurred lo n outer first x graph =
      let e = alone outer first graph in
      if n == 0 then listed 1 e.graph e.flow else grown_by lo n outer x e.graph e.flow

  -- a block
  unfoldable pub placed : List Outside → Body → Graph → Placed
  placed outer (body.Construct lo n x) graph = as_array lo n (constructed (turns_of lo n) outer x graph)
  placed outer (body.Fold op lo n x) graph = as_scalar (folded op (turns_of lo n) outer x graph)
  placed outer (body.Recurrence lo n first x) graph = as_array (before lo) (suc n) (recurred lo n outer first x graph)
  placed outer (body.Scalar x) graph = as_scalar (alone outer x graph)

  -- a constant that is a result has its CTL where its block is
  unfoldable pub shown : Bool → Graph → Outside → Placed
  shown true graph (Single flow) =
      let s = listed 1 graph flow in record { graph = s.graph; outside = Single (Cell s.cell) }
  shown true graph (Many array) = record { graph = graph; outside = Many array }
  shown false graph outside = record { graph = graph; outside = outside }
