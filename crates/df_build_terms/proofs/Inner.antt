-- What a term adds is neither an IN nor an OUT.
use Rattle.std.proofs.Common.{◌≡◌, ℕ, ◌+◌, ◌-◌, Bool, true, false, List, [], ◌∷◌, length, Option, Some, None, refl, ap, ◌∙◌, ◌++◌, append_assoc, sym}
use Rattle.std.proofs.lemmas.List.{map-append, append-nil}
use Rattle.std.specs.Prelude.{if◌then◌else◌, nat_lt}
use Rattle.df_values.specs.declared.kinds.Binary.{Binary}
use Rattle.df_values.specs.declared.kinds.Binary.TheVariants.{Operation, Comparison}
use Rattle.df_values.specs.declared.kinds.Op.TheVariants as op
use Rattle.df_values.specs.declared.kinds.Rel.TheVariants as rel
use Rattle.df_values.specs.declared.kinds.Test.TheVariants as test
use Rattle.df_values.specs.declared.kinds.Unary.{Unary}
use Rattle.df_values.specs.declared.kinds.Unary.TheVariants.{Negation, Inversion, Inquiry}
use Rattle.df_values.specs.declared.values.ErrorValue.TheVariants.{MissElt}
use Rattle.df_values.specs.declared.values.Value.TheVariants.{Error}
use Rattle.df_cells.specs.Families.{kind_of, kind_of_one}
use Rattle.df_cells.specs.WellFormed.{outer_length}
use Rattle.df_cells.specs.declared.kinds.Kind.{Kind}
use Rattle.df_cells.specs.declared.kinds.Kind.TheVariants as kind
use Rattle.df_cells.specs.declared.kinds.Run.{Run}
use Rattle.df_labels.specs.Graphs.{Graph, Node}
use Rattle.df_labels.specs.Patterns.{pattern}
use Rattle.df_labels.specs.declared.graphs.Flow.{Flow}
use Rattle.df_labels.specs.declared.graphs.Flow.TheVariants.{Constant, Cell}
use Rattle.df_build_cond.specs.Arms.{Arm, Crossed, passed, pass, cross}
use Rattle.df_build_cond.specs.Gates.{gate_kind, ruled}
use Rattle.df_build_cond.specs.Growth.{Stood, node, whole, with_cell}
use Rattle.df_build_access.specs.Elements.{cut, filled, windowed_by}
use Rattle.df_build_access.specs.Windows.{window_of}
use Rattle.df_build_access.specs.declared.windows.Array.{Array}
use Rattle.df_build_access.specs.declared.windows.Window.{Window}
use Rattle.df_build_loops.specs.Holds.{held}
use Rattle.df_build_terms.specs.Made.{IsInner, kinds_of, GrowsInside}
use Rattle.df_build_terms.specs.Outer.{array_at}
use Rattle.df_build_terms.specs.declared.building.Outside.{Outside}
use Rattle.df_build_terms.specs.declared.building.Turns.{Turns}
use Rattle.df_build_terms.proofs.Lists.{all_push}
use Rattle.df_build_terms.proofs.Made.{StaysWith}

binary_inner : (how : Binary) → outer_length (kind_of how) ≡ None
binary_inner (Operation op.Add) = refl
binary_inner (Operation op.Sub) = refl
binary_inner (Operation op.Mul) = refl
binary_inner (Operation op.Div) = refl
binary_inner (Operation op.Mod) = refl
binary_inner (Operation op.Min) = refl
binary_inner (Operation op.Max) = refl
binary_inner (Operation op.And) = refl
binary_inner (Operation op.Or) = refl
binary_inner (Comparison rel.Lt) = refl
binary_inner (Comparison rel.Le) = refl
binary_inner (Comparison rel.Gt) = refl
binary_inner (Comparison rel.Ge) = refl
binary_inner (Comparison rel.Eq) = refl
binary_inner (Comparison rel.Ne) = refl

unary_inner : (how : Unary) → outer_length (kind_of_one how) ≡ None
unary_inner Negation = refl
unary_inner Inversion = refl
unary_inner (Inquiry test.Undef) = refl
unary_inner (Inquiry test.MissElt) = refl
unary_inner (Inquiry test.PosOver) = refl
unary_inner (Inquiry test.NegOver) = refl
unary_inner (Inquiry test.Unknown) = refl
unary_inner (Inquiry test.ZeroDivide) = refl
unary_inner (Inquiry test.Error) = refl

gate_inner : (side : Bool) → outer_length (gate_kind side) ≡ None
gate_inner true = refl
gate_inner false = refl

module _ (old : Graph) where
  abbrev Grows : Graph → Type 0
  Grows g = GrowsInside old g

  one_inner : (g : Graph) (it : Kind) (flows : List Flow) → IsInner it → Grows g → Grows (with_cell whole g it flows)
  one_inner g it flows inner w = record {
    more = w.more ++ it ∷ [];
    kinds = map-append (λ (n : Node). n.kind) g (node it flows ∷ [])
        ∙ (ap (λ l. l ++ it ∷ []) w.kinds ∙ append_assoc (kinds_of old) w.more (it ∷ []));
    inner = all_push IsInner w.more it w.inner inner;
  }

  ruled_inner : (g : Graph) (it : Kind) (flows : List Flow) (runs : List Run) → IsInner it → Grows g
      → Grows (ruled whole g it flows runs).graph
  unfolding ruled
  ruled_inner g it flows runs inner all =
      let control = Cell (length g + 1) in
      one_inner (with_cell whole g it (control ∷ flows)) (kind.Ctl runs) [] refl (one_inner g it (control ∷ flows) inner all)

  passed_inner : (arm : Arm) (g : Graph) (u : ℕ) (met : Option ℕ) → Grows g → Grows (passed whole arm g u met).graph
  passed_inner arm g u (Some d) all = all
  passed_inner arm g u None all = one_inner g (gate_kind arm.side) (Cell arm.control ∷ Cell u ∷ []) (gate_inner arm.side) all

  pass_inner : (arm : Arm) (g : Graph) (flow : Flow) → Grows g → Grows (pass whole arm g flow).graph
  pass_inner arm g (Constant v) all = all
  pass_inner arm g (Cell u) all = passed_inner arm g u (arm.gates u) all

  abbrev next : Arm → Crossed → Crossed
  next arm outer = let p = pass whole arm outer.graph outer.flow in record { graph = p.graph; arms = p.arm ∷ outer.arms; flow = p.flow }

  cross_inner : (level : ℕ) (g : Graph) (arms : List Arm) (flow : Flow) → Grows g
      → Grows (cross whole level g arms flow).graph
  cross_inner level g [] flow all = all
  cross_inner level g (arm ∷ arms) flow all =
      let outer = cross whole level g arms flow in
      elim (nat_lt (length arms) level) as (λ t. Grows (if t then record { graph = g; arms = arm ∷ arms; flow = flow } else next arm outer).graph) [
        | true ↦ all
        | false ↦ pass_inner arm outer.graph outer.flow (cross_inner level g arms flow all)
      ]

  held_inner : (g : Graph) (u n : ℕ) → Grows g → Grows (held whole g u n).graph
  held_inner g u n all =
      let m = length g in
      let g1 = with_cell whole g kind.Merge (Cell (m + 1) ∷ Cell u ∷ Cell (m + 2) ∷ []) in
      let g2 = with_cell whole g1 (kind.Ctl (pattern ((1, true) ∷ (n - 1, false) ∷ []))) [] in
      let g3 = with_cell whole g2 kind.Tgate (Cell (m + 3) ∷ Cell m ∷ []) in
      one_inner g3 (kind.Ctl (pattern ((n - 1, true) ∷ (1, false) ∷ []))) [] refl
      (one_inner g2 kind.Tgate (Cell (m + 3) ∷ Cell m ∷ []) refl
      (one_inner g1 (kind.Ctl (pattern ((1, true) ∷ (n - 1, false) ∷ []))) [] refl
      (one_inner g kind.Merge (Cell (m + 1) ∷ Cell u ∷ Cell (m + 2) ∷ []) refl all)))

  cut_inner : (a : Array) (w : Window) (g : Graph) → Grows g → Grows (cut whole a w g).graph
  cut_inner a w g all =
      let runs = pattern ((w.skipped, false) ∷ (w.kept, true) ∷ (a.n - w.skipped - w.kept, false) ∷ []) in
      elim (nat_lt w.kept a.n) as (λ t. Grows (if t then ruled whole g kind.Tgate (Cell a.cell ∷ []) runs else record { graph = g; cell = a.cell }).graph) [
        | true ↦ ruled_inner g kind.Tgate (Cell a.cell ∷ []) runs refl all
        | false ↦ all
      ]

  filled_inner : (n : ℕ) (w : Window) (s : Stood) → Grows s.graph → Grows (filled whole n w s).graph
  filled_inner n w s all =
      let flows = Cell s.cell ∷ Constant (Error MissElt) ∷ [] in
      let runs = pattern ((w.missed, false) ∷ (w.kept, true) ∷ (n - w.missed - w.kept, false) ∷ []) in
      elim (nat_lt w.kept n) as (λ t. Grows (if t then ruled whole s.graph kind.Merge flows runs else s).graph) [
        | true ↦ ruled_inner s.graph kind.Merge flows runs refl all
        | false ↦ all
      ]

  windowed_inner : (n : ℕ) (a : Array) (g : Graph) (w : Option Window) → Grows g
      → Grows (windowed_by whole n a g w).graph
  unfolding windowed_by
  windowed_inner n a g None all = all
  windowed_inner n a g (Some w) all = filled_inner n w (cut whole a w g) (cut_inner a w g all)

pub inner_stays : (old : Graph) (turns : Turns) (outer : List Outside) → StaysWith (GrowsInside old) turns outer
inner_stays old turns outer = record {
  joined_left = λ with c y g all. one_inner old g (kind_of with) (Cell c ∷ y ∷ []) (binary_inner with) all;
  joined_right = λ with x d g all. one_inner old g (kind_of with) (x ∷ Cell d ∷ []) (binary_inner with) all;
  changed = λ how c g all. one_inner old g (kind_of_one how) (Cell c ∷ []) (unary_inner how) all;
  merge = λ control x y g all. one_inner old g kind.Merge (Cell control ∷ x ∷ y ∷ []) refl all;
  index = λ g all. one_inner old g (kind.Idx turns.lo turns.n) [] refl all;
  cross = cross_inner old;
  held = λ u g two all. held_inner old g u turns.n all;
  previous = λ m g all. ruled_inner old g kind.Tgate (Cell m ∷ []) (pattern ((turns.n, true) ∷ (1, false) ∷ [])) refl all;
  windowed = λ number offset g all. windowed_inner old turns.n (array_at outer number) g (window_of turns.lo turns.n (array_at outer number) offset) all;
}

-- as it is
pub nothing_more : (g : Graph) → GrowsInside g g
nothing_more g = record { more = []; kinds = sym (append-nil (kinds_of g)); inner = tt }
