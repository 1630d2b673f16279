-- What a block adds is neither an IN nor an OUT.
use Rattle.std.proofs.Common.{◌≡◌, ◌+◌, ◌-◌, ℕ, ℤ, Bool, true, false, List, [], ◌∷◌, ◌++◌, set, length, Option, Some, None, refl, sym, ap, ◌∙◌, append_assoc}
use Rattle.std.proofs.Math.Seq.{map-set_same}
use Rattle.std.proofs.lemmas.List.{map-append, append-nil}
use Rattle.std.specs.List.{AllByRecursion}
use Rattle.std.specs.Prelude.{if◌then◌else◌, ◌==◌}
use Rattle.df_values.specs.declared.kinds.Binary.TheVariants.{Operation}
use Rattle.df_values.specs.declared.kinds.Op.{Op}
use Rattle.df_values.specs.declared.kinds.Op.TheVariants as op
use Rattle.df_values.specs.declared.values.Value.{Value}
use Rattle.df_cells.specs.Families.{kind_of}
use Rattle.df_cells.specs.declared.cells.Dest.{Dest}
use Rattle.df_cells.specs.declared.cells.Feed.{Feed}
use Rattle.df_cells.specs.declared.kinds.Kind.{Kind}
use Rattle.df_cells.specs.declared.kinds.Kind.TheVariants as kind
use Rattle.df_cells.specs.declared.kinds.Run.{Run}
use Rattle.df_cells.specs.Cells.{port_of}
use Rattle.df_labels.specs.Flows.{feed_of}
use Rattle.df_labels.specs.Graphs.{Graph, Node, no_node, node_at, with_fed}
use Rattle.df_labels.specs.Patterns.{pattern, steady}
use Rattle.df_labels.specs.declared.graphs.Flow.{Flow}
use Rattle.df_labels.specs.declared.graphs.Flow.TheVariants.{Constant, Cell}
use Rattle.df_core.specs.Meaning.{begun, or_undef}
use Rattle.df_core.specs.declared.flat.Body.{Body}
use Rattle.df_core.specs.declared.flat.Body.TheVariants as body
use Rattle.df_core.specs.declared.terms.Term.{Term}
use Rattle.df_build_cond.specs.Gates.{ruled, patterned}
use Rattle.df_build_cond.specs.Growth.{Grown, node, whole, with_cell, pushed}
use Rattle.df_build_loops.specs.Folds.{loop_begun, loop_ended}
use Rattle.df_build_loops.specs.Frames.{opened, closed}
use Rattle.df_build_terms.specs.Building as building
use Rattle.df_build_terms.specs.Made.{IsInner, kinds_of, GrowsInside, TermsAreMade}
use Rattle.df_build_terms.specs.declared.building.Outside.{Outside}
use Rattle.df_build_terms.specs.declared.building.Outside.TheVariants.{Single, Many}
use Rattle.df_build_terms.specs.declared.building.Turns.{Turns}
use Rattle.df_build_elem.specs.Blocks.{one_turn, turns_of, element, alone, listed, constructed, folded_from, folded_first, folded_by, folded, grown_by, recurred, placed, shown}

operation_inner : (o : Op) → IsInner (kind_of (Operation o))
operation_inner op.Add = refl
operation_inner op.Sub = refl
operation_inner op.Mul = refl
operation_inner op.Div = refl
operation_inner op.Mod = refl
operation_inner op.Min = refl
operation_inner op.Max = refl
operation_inner op.And = refl
operation_inner op.Or = refl

-- ---- growth, step by step

nothing_more : (g : Graph) → GrowsInside g g
nothing_more g = record { more = []; kinds = sym (append-nil (kinds_of g)); inner = tt }

all_append : {X : Type 0} (P : X → Type 0) (xs ys : List X) → AllByRecursion P xs → AllByRecursion P ys
    → AllByRecursion P (xs ++ ys)
all_append P [] ys all others = others
all_append P (x ∷ xs) ys all others = (all.0, all_append P xs ys all.1 others)

pub and_then : (g h k : Graph) → GrowsInside g h → GrowsInside h k → GrowsInside g k
and_then g h k first next = record {
  more = first.more ++ next.more;
  kinds = next.kinds ∙ (ap (λ l. l ++ next.more) first.kinds ∙ append_assoc (kinds_of g) first.more next.more);
  inner = all_append IsInner first.more next.more first.inner next.inner;
}

pub with_inner : (g : Graph) (it : Kind) (flows : List Flow) → IsInner it → GrowsInside g (with_cell whole g it flows)
with_inner g it flows inner =
    record { more = it ∷ []; kinds = map-append (λ (n : Node). n.kind) g (node it flows ∷ []); inner = (inner, tt) }

ruled_inside : (g : Graph) (it : Kind) (flows : List Flow) (runs : List Run) → IsInner it
    → GrowsInside g (ruled whole g it flows runs).graph
unfolding ruled
ruled_inside g it flows runs inner =
    let control = Cell (length g + 1) in
    let h = with_cell whole g it (control ∷ flows) in
    and_then g h (with_cell whole h (kind.Ctl runs) []) (with_inner g it (control ∷ flows) inner) (with_inner h (kind.Ctl runs) [] refl)

-- feeding a port changes no kind
fed_kinds : (g : Graph) (d : Dest) (x : Feed) → kinds_of (with_fed g d x) ≡ kinds_of g
fed_kinds g d x =
    let n = node_at g d.cell.0 in
    map-set_same (λ (n : Node). n.kind) g d.cell.0 (record n { ports = set n.ports d.port.0 x }) no_node refl

closed_inside : (g h : Graph) (m : ℕ) (next : Flow) → GrowsInside g h → GrowsInside g (closed h m next)
closed_inside g h m next grows =
    record { more = grows.more; kinds = fed_kinds h (port_of m 2) (feed_of next) ∙ grows.kinds; inner = grows.inner }

begun_inside : (first : Flow) (n : ℕ) (g : Graph) → GrowsInside g (loop_begun whole first n g).graph
unfolding loop_begun
begun_inside first n g =
    let o = opened whole g first n in
    and_then g o.graph _ (ruled_inside g kind.Merge (first ∷ _ ∷ []) (pattern ((1, true) ∷ (n, false) ∷ [])) refl)
    (ruled_inside o.graph kind.Tgate (Cell o.cell ∷ []) (pattern ((n, true) ∷ (1, false) ∷ [])) refl)

ended_inside : (o : Op) (merge gate n : ℕ) (w : Grown) → GrowsInside w.graph (loop_ended whole o merge gate n w).graph
unfolding loop_ended
ended_inside o merge gate n w =
    let joined = pushed whole w.graph (kind_of (Operation o)) (Cell gate ∷ w.flow ∷ []) in
    let fed = closed joined.graph merge (Cell joined.cell) in
    and_then w.graph fed _ (closed_inside w.graph joined.graph merge (Cell joined.cell) (with_inner w.graph (kind_of (Operation o)) (Cell gate ∷ w.flow ∷ []) (operation_inner o)))
    (ruled_inside fed kind.Fgate (Cell merge ∷ []) (pattern ((n, true) ∷ (1, false) ∷ [])) refl)

-- ---- blocks

pub listed_inside : (n : ℕ) (g : Graph) (flow : Flow) → GrowsInside g (listed whole n g flow).graph
listed_inside n g (Constant v) = with_inner g (kind.Ctl (steady n v)) [] refl
listed_inside n g (Cell c) = nothing_more g

module _ (terms : TermsAreMade) where
  element_inside : (turns : Turns) (outer : List Outside) (x : Term) (g : Graph)
      → GrowsInside g (element whole turns outer x g).graph
  unfolding element
  element_inside turns outer x g = terms.inner turns outer x [] (building.begun g)

  element_listed : (turns : Turns) (outer : List Outside) (x : Term) (n : ℕ) (g : Graph)
      → GrowsInside g (let e = element whole turns outer x g in listed whole n e.graph e.flow).graph
  element_listed turns outer x n g =
      let e = element whole turns outer x g in
      and_then g e.graph _ (element_inside turns outer x g) (listed_inside n e.graph e.flow)

  constructed_inside : (turns : Turns) (outer : List Outside) (x : Term) (g : Graph)
      → GrowsInside g (constructed whole turns outer x g).graph
  unfolding constructed
  constructed_inside turns outer x g =
      let e = element whole turns outer x g in
      elim (turns.n == 0) as (λ t. GrowsInside g (if t then pushed whole g (kind.Ctl []) [] else listed whole turns.n e.graph e.flow).graph) [
        | true ↦ with_inner g (kind.Ctl []) [] refl
        | false ↦ element_listed turns outer x turns.n g
      ]

  folded_from_inside : (v : Value) (o : Op) (turns : Turns) (outer : List Outside) (x : Term) (g : Graph)
      → GrowsInside g (folded_from whole v o turns outer x g).graph
  unfolding folded_from
  folded_from_inside v o turns outer x g =
      let l = loop_begun whole (Constant v) turns.n g in
      let w = element whole turns outer x l.graph in
      and_then g w.graph _ (and_then g l.graph w.graph (begun_inside (Constant v) turns.n g) (element_inside turns outer x l.graph))
      (ended_inside o l.merge l.gate turns.n w)

  folded_first_inside : (o : Op) (turns : Turns) (outer : List Outside) (x : Term) (g : Graph)
      → GrowsInside g (folded_first whole o turns outer x g).graph
  unfolding folded_first
  folded_first_inside o turns outer x g =
      let k = turns.n - 1 in
      let parts : List (ℕ × Bool) = (1, true) ∷ (k, false) ∷ [] in
      let e = element whole turns outer x g in
      let s = listed whole turns.n e.graph e.flow in
      let first = patterned whole s.graph kind.Tgate (Cell s.cell ∷ []) parts in
      let rest = patterned whole first.graph kind.Fgate (Cell s.cell ∷ []) parts in
      let l = loop_begun whole (Cell first.cell) k rest.graph in
      and_then g l.graph _
      (and_then g rest.graph l.graph
      (and_then g first.graph rest.graph
      (and_then g s.graph first.graph (element_listed turns outer x turns.n g) (ruled_inside s.graph kind.Tgate (Cell s.cell ∷ []) (pattern parts) refl))
      (ruled_inside first.graph kind.Fgate (Cell s.cell ∷ []) (pattern parts) refl))
      (begun_inside (Cell first.cell) k rest.graph))
      (ended_inside o l.merge l.gate k (record { graph = l.graph; flow = Cell rest.cell }))

  folded_by_inside : (begins : Option Value) (o : Op) (turns : Turns) (outer : List Outside) (x : Term) (g : Graph)
      → GrowsInside g (folded_by whole begins o turns outer x g).graph
  folded_by_inside (Some v) o turns outer x g = folded_from_inside v o turns outer x g
  folded_by_inside None o turns outer x g = folded_first_inside o turns outer x g

  folded_inside : (o : Op) (turns : Turns) (outer : List Outside) (x : Term) (g : Graph)
      → GrowsInside g (folded whole o turns outer x g).graph
  unfolding folded
  folded_inside o turns outer x g =
      let s = folded_by whole (begun o) o turns outer x g in
      let constant : Grown = record { graph = g; flow = Constant (or_undef (begun o)) } in
      let made : Grown = record { graph = s.graph; flow = Cell s.cell } in
      elim (turns.n == 0) as (λ t. GrowsInside g (if◌then◌else◌ {A = Grown} t constant made).graph) [
        | true ↦ nothing_more g
        | false ↦ folded_by_inside (begun o) o turns outer x g
      ]

  grown_by_inside : (lo : ℤ) (n : ℕ) (outer : List Outside) (x : Term) (g : Graph) (first : Flow)
      → GrowsInside g (grown_by whole lo n outer x g first).graph
  unfolding grown_by
  grown_by_inside lo n outer x g first =
      let o = opened whole g first n in
      let turns : Turns = record { lo = lo; n = n; own = Some o.cell } in
      let e = element whole turns outer x o.graph in
      closed_inside g e.graph o.cell e.flow
      (and_then g o.graph e.graph (ruled_inside g kind.Merge (first ∷ _ ∷ []) (pattern ((1, true) ∷ (n, false) ∷ [])) refl) (element_inside turns outer x o.graph))

  recurred_inside : (lo : ℤ) (n : ℕ) (outer : List Outside) (first x : Term) (g : Graph)
      → GrowsInside g (recurred whole lo n outer first x g).graph
  unfolding recurred
  recurred_inside lo n outer first x g =
      let e = alone whole outer first g in
      let eg = element_inside one_turn outer first g in
      elim (n == 0) as (λ t. GrowsInside g (if t then listed whole 1 e.graph e.flow else grown_by whole lo n outer x e.graph e.flow).graph) [
        | true ↦ element_listed one_turn outer first 1 g
        | false ↦ and_then g e.graph _ eg (grown_by_inside lo n outer x e.graph e.flow)
      ]

  pub placed_inside : (outer : List Outside) (b : Body) (g : Graph) → GrowsInside g (placed whole outer b g).graph
  unfolding placed
  placed_inside outer (body.Construct lo n x) g = constructed_inside (turns_of lo n) outer x g
  placed_inside outer (body.Fold o lo n x) g = folded_inside o (turns_of lo n) outer x g
  placed_inside outer (body.Recurrence lo n first x) g = recurred_inside lo n outer first x g
  placed_inside outer (body.Scalar x) g = element_inside one_turn outer x g

  pub shown_inside : (is_result : Bool) (g : Graph) (o : Outside) → GrowsInside g (shown whole is_result g o).graph
  unfolding shown
  shown_inside true g (Single f) = listed_inside 1 g f
  shown_inside true g (Many a) = nothing_more g
  shown_inside false g o = nothing_more g
