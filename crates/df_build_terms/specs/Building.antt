-- What was made and met so far in a block, and what each form of a term adds to it. `keep` is what is kept of a node.
use Rattle.std.specs.Prelude.{ℕ, ℤ, Bool, true, false, if◌then◌else◌, nat_lt, List, [], ◌∷◌, drop, Option, Some, None}
use Rattle.df_values.specs.Tables.{binary_answer, unary_answer}
use Rattle.df_values.specs.declared.kinds.Binary.{Binary}
use Rattle.df_values.specs.declared.kinds.Unary.{Unary}
use Rattle.df_values.specs.declared.values.Value.TheVariants.{Int, Truth, Error}
use Rattle.df_cells.specs.Families.{kind_of, kind_of_one}
use Rattle.df_cells.specs.declared.kinds.Kind.{Kind}
use Rattle.df_cells.specs.declared.kinds.Kind.TheVariants as kind
use Rattle.df_labels.specs.Graphs.{Graph, Node}
use Rattle.df_labels.specs.declared.graphs.Flow.{Flow}
use Rattle.df_labels.specs.declared.graphs.Flow.TheVariants.{Constant, Cell}
use Rattle.df_build_cond.specs.Arms.{Arm, opened, cross}
use Rattle.df_build_cond.specs.Gates.{merged}
use Rattle.df_build_cond.specs.Growth.{Stood, Grown, pushed}
use Rattle.df_build_cond.specs.Noted.{Noted, nothing, noted}
use Rattle.df_build_access.specs.Accesses.{Accessed, no_access, noted_access}
use Rattle.df_build_access.specs.Elements.{windowed}
use Rattle.df_build_access.specs.declared.windows.Array.{Array}
use Rattle.df_build_loops.specs.Frames.{undef, previous}
use Rattle.df_build_loops.specs.Holds.{held}
use Rattle.df_build_terms.specs.Outer.{flow_at, array_at}
use Rattle.df_build_terms.specs.declared.building.Local.{Local}
use Rattle.df_build_terms.specs.declared.building.Outside.{Outside}
use Rattle.df_build_terms.specs.declared.building.Turns.{Turns}

-- what was met in the block, each where first met, outside all arms: its IDX cell, the gate of the element before, the
-- hold of each scalar by its number, and what each access was built to
pub record Met : Type 0 where
  pub index : Option ℕ
  pub previous : Option ℕ
  pub holds : Noted
  pub accesses : Accessed

-- the open arms stand innermost first
pub record Building : Type 0 where
  pub graph : Graph
  pub met : Met
  pub arms : List Arm

-- a building in which a value was built
pub record Built : Type 0 where
  pub state : Building
  pub flow : Flow

abbrev pub at : Building → Flow → Built
at b flow = record { state = b; flow = flow }

-- what a term gives where it stands, under the locals bound so far
abbrev pub Make : Type 0
Make = List Local → Building → Built

-- a block begins with nothing met and outside all arms
abbrev pub begun : Graph → Building
begun graph = record {
  graph = graph;
  met = record { index = None; previous = None; holds = nothing; accesses = no_access };
  arms = [];
}

abbrev pub with_graph : Building → Graph → Building
with_graph b graph = record b { graph = graph }

-- the value is a cell that was made
abbrev pub as_built : Building → Stood → Built
as_built b s = at (with_graph b s.graph) (Cell s.cell)

-- ---- arms

abbrev pub enter : ℕ → Bool → Building → Building
enter control side b = record b { arms = opened control side ∷ b.arms }

abbrev pub leave : Building → Building
leave b = record b { arms = drop 1 b.arms }

-- a value that is built in an arm
abbrev pub in_arm : ℕ → Bool → (Building → Built) → Building → Built
in_arm control side make b = let x = make (enter control side b) in at (leave x.state) x.flow

-- ---- what is met

abbrev pub with_index : Building → Stood → Building
with_index b s = record b { graph = s.graph; met = record b.met { index = Some s.cell } }

abbrev pub with_previous : Building → Stood → Building
with_previous b s = record b { graph = s.graph; met = record b.met { previous = Some s.cell } }

abbrev pub with_hold : Building → ℕ → Stood → Building
with_hold b number s = record b { graph = s.graph; met = record b.met { holds = noted b.met.holds number s.cell } }

abbrev pub with_access : Building → ℕ → ℤ → Grown → Building
with_access b number offset w =
    record b { graph = w.graph; met = record b.met { accesses = noted_access b.met.accesses number offset w.flow } }

module _ (keep : Node → Node) where
  -- one cell more is the value
  abbrev pub added : Building → Kind → List Flow → Built
  added b it flows = as_built b (pushed keep b.graph it flows)

  -- a value that was built where so many arms were open, inside all that are open now
  unfoldable pub crossed : ℕ → Building → Flow → Built
  crossed level b flow =
      let c = cross keep level b.graph b.arms flow in
      at (record b { graph = c.graph; arms = c.arms }) c.flow

  -- ---- forms

  unfoldable pub joined : Binary → Building → Flow → Flow → Built
  joined with b (Constant v) (Constant w) = at b (Constant (binary_answer with v w))
  joined with b (Constant v) (Cell d) = added b (kind_of with) (Constant v ∷ Cell d ∷ [])
  joined with b (Cell c) g = added b (kind_of with) (Cell c ∷ g ∷ [])

  unfoldable pub changed : Unary → Building → Flow → Built
  changed how b (Constant v) = at b (Constant (unary_answer how v))
  changed how b (Cell c) = added b (kind_of_one how) (Cell c ∷ [])

  -- the MERGE of the values of two arms
  unfoldable pub chosen : ℕ → Building → Flow → Flow → Built
  chosen control b x y = as_built b (merged keep b.graph control x y)

  unfoldable pub from_local : Building → Option Local → Built
  from_local b (Some l) = crossed l.arms b l.flow
  from_local b None = at b (Constant undef)

  abbrev pub index_met : Turns → Building → Option ℕ → Built
  index_met turns b (Some c) = crossed 0 b (Cell c)
  index_met turns b None =
      let s = pushed keep b.graph (kind.Idx turns.lo turns.n) [] in crossed 0 (with_index b s) (Cell s.cell)

  -- the index of the block
  unfoldable pub index_built : Turns → Building → Built
  index_built turns b = index_met turns b b.met.index

  abbrev pub hold_met : Turns → ℕ → ℕ → Building → Option ℕ → Built
  hold_met turns number u b (Some h) = crossed 0 b (Cell h)
  hold_met turns number u b None = let s = held keep b.graph u turns.n in crossed 0 (with_hold b number s) (Cell s.cell)

  abbrev pub outer_met : Turns → ℕ → Building → Flow → Built
  outer_met turns number b (Constant v) = at b (Constant v)
  outer_met turns number b (Cell u) =
      if nat_lt 1 turns.n then hold_met turns number u b (b.met.holds number) else crossed 0 b (Cell u)

  -- a scalar from outside: itself where the block has one turn, else its hold
  unfoldable pub outer_built : Turns → List Outside → ℕ → Building → Built
  outer_built turns outer number b = outer_met turns number b (flow_at outer number)

  abbrev pub element_met : Turns → Array → ℕ → ℤ → Building → Option Flow → Built
  element_met turns array number offset b (Some flow) = crossed 0 b flow
  element_met turns array number offset b None =
      let w = windowed keep turns.lo turns.n array offset b.graph in crossed 0 (with_access b number offset w) w.flow

  -- the element of an array at the index and an offset together
  unfoldable pub element_built : Turns → List Outside → ℕ → ℤ → Building → Built
  element_built turns outer number offset b =
      element_met turns (array_at outer number) number offset b (b.met.accesses number offset)

  abbrev pub previous_met : Turns → ℕ → Building → Option ℕ → Built
  previous_met turns m b (Some c) = crossed 0 b (Cell c)
  previous_met turns m b None = let s = previous keep b.graph m turns.n in crossed 0 (with_previous b s) (Cell s.cell)

  abbrev pub previous_of : Turns → Building → Option ℕ → Built
  previous_of turns b (Some m) = previous_met turns m b b.met.previous
  previous_of turns b None = at b (Constant undef)

  -- in the element of a recurrence, the element before its own
  unfoldable pub previous_built : Turns → Building → Built
  previous_built turns b = previous_of turns b turns.own

  -- what a built test chooses: a truth value one of the two, and a cell the MERGE of both, each in an arm of its own
  unfoldable pub decide : (Building → Built) → (Building → Built) → Building → Flow → Built
  decide so otherwise b (Constant (Truth true)) = so b
  decide so otherwise b (Constant (Truth false)) = otherwise b
  decide so otherwise b (Constant (Int i)) = at b (Constant undef)
  decide so otherwise b (Constant (Error e)) = at b (Constant undef)
  decide so otherwise b (Cell c) =
      let x = in_arm c true so b in
      let y = in_arm c false otherwise x.state in
      chosen c y.state x.flow y.flow
