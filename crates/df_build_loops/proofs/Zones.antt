-- Zones of holds: the MERGE and its gate have one zone, above that of the scalar.
use Rattle.std.proofs.Common.{◌≡◌, ◌≤◌, ◌<◌, ◌+◌, ◌-◌, ℕ, zero, suc, true, false, List, [], ◌∷◌, ◌++◌, length, Option, Some, None, refl, sym, subst, ap, inl, inr, arith, ◌∙◌}
use Rattle.std.specs.Prelude.{slice_get}
use Rattle.std.proofs.lemmas.List.{get_or-append-add, get_or_append_left}
use Rattle.df_cells.specs.declared.cells.CellId.{CellId}
use Rattle.df_cells.specs.declared.kinds.Kind.TheVariants as kind
use Rattle.df_cells.specs.Cells.{cell_from}
use Rattle.df_cells.specs.Families.{family}
use Rattle.df_cells.specs.Kinds.{run_values}
use Rattle.df_cells.specs.Shifts.{control_values, gate_place, merge_place, first_truth}
use Rattle.df_labels.specs.declared.graphs.Flow.{Flow}
use Rattle.df_labels.specs.declared.graphs.Flow.TheVariants.{Constant, Cell}
use Rattle.df_labels.specs.Graphs.{Graph, Node, node_at, no_node}
use Rattle.df_labels.specs.Patterns.{pattern}
use Rattle.df_build_cond.specs.Growth.{node, whole}
use Rattle.df_build_cond.specs.Orderly.{zone_at, controls_by, controls_in, gate_in, side_in, KeepsZone, Orderly, IsOrderly}
use Rattle.df_build_cond.specs.Within.{FlowBelow}
use Rattle.df_build_cond.specs.Laws.{GatesAreOrderly}
use Rattle.df_build_loops.specs.Holds.{held}
use Rattle.df_build_loops.specs.Frames as frames
use Rattle.df_build_loops.specs.Laws.{LoopsAreOrderly}

pub no_arc : {A : Type 0} {u : CellId} → None ≡ Some u → A
no_arc e = absurd (none e)
  where
    none : {u : CellId} → None ≡ Some u → ⊥
    none e = cc

pub the_cell : {c : ℕ} {u : CellId} → Some (record { 0 = c }) ≡ Some u → u.0 ≡ c
the_cell e = sym (ap first e)
  where
    first : Option CellId → ℕ
    first (Some u) = u.0
    first None = 0

append_four : (g : Graph) (x y z w : Node) → (((g ++ x ∷ []) ++ y ∷ []) ++ z ∷ []) ++ w ∷ [] ≡ g ++ x ∷ y ∷ z ∷ w ∷ []
append_four [] x y z w = refl
append_four (n ∷ g) x y z w = ap (λ l. n ∷ l) (append_four g x y z w)

module _ (gates : GatesAreOrderly) (g : Graph) (u n : ℕ) (two : 2 ≤ n) where
  abbrev pub m : ℕ
  m = length g

  abbrev pub merge_node : Node
  merge_node = node kind.Merge (Cell (m + 1) ∷ Cell u ∷ Cell (m + 2) ∷ [])

  abbrev pub first_only : Node
  first_only = node (kind.Ctl (pattern ((1, true) ∷ (n - 1, false) ∷ []))) []

  abbrev pub gate_node : Node
  gate_node = node kind.Tgate (Cell (m + 3) ∷ Cell m ∷ [])

  abbrev pub all_but_last : Node
  all_but_last = node (kind.Ctl (pattern ((n - 1, true) ∷ (1, false) ∷ []))) []

  abbrev pub new : Graph
  new = merge_node ∷ first_only ∷ gate_node ∷ all_but_last ∷ []

  abbrev pub h : Graph
  h = g ++ new

  at : (i : ℕ) → node_at h (m + i) ≡ node_at new i
  at i = get_or-append-add g new i no_node

  pub at_merge : node_at h m ≡ merge_node
  at_merge = let e : m + 0 ≡ m = omega arith in ap (node_at h) (sym e) ∙ at 0

  one_less : n - 1 ≡ suc (n - 2)
  one_less = omega (arith, two)

  gate_controls : controls_in h (m + 2) ≡ run_values (pattern ((n - 1, true) ∷ (1, false) ∷ []))
  gate_controls = ap (λ (x : Node). controls_by h (cell_from (slice_get x.ports 0))) (at 2) ∙ ap (λ (x : Node). control_values x.kind) (at 3)

  merge_controls : controls_in h m ≡ run_values (pattern ((1, true) ∷ (n - 1, false) ∷ []))
  merge_controls = ap (λ (x : Node). controls_by h (cell_from (slice_get x.ports 0))) at_merge ∙ ap (λ (x : Node). control_values x.kind) (at 1)

  gate_is : gate_in h (m + 2) ≡ 0
  gate_is =
      ap (λ (x : Node). gate_place (family x.kind) (controls_in h (m + 2))) (at 2)
      ∙ (ap (first_truth true) gate_controls ∙ ap (λ (k : ℕ). first_truth true (run_values (pattern ((k, true) ∷ (1, false) ∷ [])))) one_less)

  side_is : side_in h m 2 ≡ 1
  side_is =
      ap (λ (x : Node). merge_place (family x.kind) 2 (controls_in h m)) at_merge
      ∙ (ap (first_truth false) merge_controls ∙ ap (λ (k : ℕ). first_truth false (run_values (pattern ((1, true) ∷ (k, false) ∷ [])))) one_less)

  pub merge_passes : gate_in h m ≡ 0
  merge_passes = ap (λ (x : Node). gate_place (family x.kind) (controls_in h m)) at_merge

  gate_takes : side_in h (m + 2) 1 ≡ 0
  gate_takes = ap (λ (x : Node). merge_place (family x.kind) 1 (controls_in h (m + 2))) (at 2)

  pub held_is : (held whole g u n).graph ≡ h
  held_is = append_four g merge_node first_only gate_node all_but_last

  module _ (zones : List ℕ) (o : Orderly zones g) (z : ℕ) (less : u < m) (above : zone_at zones u < z) where
    abbrev pub more : List ℕ
    more = z ∷ 0 ∷ z ∷ 0 ∷ []

    zone : (i : ℕ) → zone_at (zones ++ more) (m + i) ≡ zone_at more i
    zone i = subst (λ k. zone_at (zones ++ more) (k + i) ≡ zone_at more i) o.count (get_or-append-add zones more i 0)

    pub zone_merge : zone_at (zones ++ more) m ≡ z
    zone_merge = let e : m + 0 ≡ m = omega arith in ap (zone_at (zones ++ more)) (sym e) ∙ zone 0

    zone_scalar : zone_at (zones ++ more) u ≡ zone_at zones u
    zone_scalar = get_or_append_left zones more 0 u (let count = o.count in omega (arith, less, count))

    -- where the arc begins
    from : {c : ℕ} (i p : ℕ) (v : CellId) → v.0 ≡ c → KeepsZone h (zones ++ more) (m + i) p c → KeepsZone h (zones ++ more) (m + i) p v.0
    from i p v is keeps = subst (KeepsZone h (zones ++ more) (m + i) p) (sym is) keeps

    arcs : (i p : ℕ) (v : CellId) → cell_from (slice_get (node_at new i).ports p) ≡ Some v → (v.0 < m + length new) × KeepsZone h (zones ++ more) (m + i) p v.0
    arcs zero zero v is =
        let e : v.0 ≡ m + 1 = the_cell is in
        let zu = zone 1 in
        let zc = zone 0 in
        (omega (arith, e), from 0 0 v e (inl (omega (arith, zu, zc, above))))
    arcs zero (suc zero) v is =
        let e : v.0 ≡ u = the_cell is in
        let zc = zone 0 in
        (omega (arith, e, less), from 0 1 v e (inl (omega (arith, zone_scalar, zc, above))))
    arcs zero (suc (suc zero)) v is =
        let e : v.0 ≡ m + 2 = the_cell is in
        let k : m + 0 ≡ m = omega arith in
        (omega (arith, e), from 0 2 v e (inr (zone 2 ∙ sym (zone 0), inr (inl (gate_is, ap (λ j. side_in h j 2) k ∙ side_is, omega arith)))))
    arcs zero (suc (suc (suc p))) v is = no_arc is
    arcs (suc zero) p v is = no_arc is
    arcs (suc (suc zero)) zero v is =
        let e : v.0 ≡ m + 3 = the_cell is in
        let zu = zone 3 in
        let zc = zone 2 in
        (omega (arith, e), from 2 0 v e (inl (omega (arith, zu, zc, above))))
    arcs (suc (suc zero)) (suc zero) v is =
        let e : v.0 ≡ m = the_cell is in
        (omega (arith, e), from 2 1 v e (inr (zone_merge ∙ sym (zone 2), inl (merge_passes, gate_takes, omega arith))))
    arcs (suc (suc zero)) (suc (suc p)) v is = no_arc is
    arcs (suc (suc (suc zero))) p v is = no_arc is
    arcs (suc (suc (suc (suc i)))) p v is = no_arc is

    pub held_in : Orderly (zones ++ more) (held whole g u n).graph
    held_in = subst (Orderly (zones ++ more)) (sym held_is) (gates.extended g new zones more o refl arcs)

-- ---- with a zone above all others

module _ (gates : GatesAreOrderly) where
  held_orderly : (g : Graph) (u n : ℕ) → 2 ≤ n → u < length g → IsOrderly g → IsOrderly (held whole g u n).graph
  held_orderly g u n two less o = let z = gates.above o.0 in (o.0 ++ z.0 ∷ 0 ∷ z.0 ∷ 0 ∷ [], held_in gates g u n two o.0 o.1 z.0 less (z.1 u))

  opened_orderly : (g : Graph) (first : Flow) (n : ℕ) → FlowBelow (length g) first → IsOrderly g → IsOrderly (frames.opened whole g first n).graph
  opened_orderly g first n below o = gates.ruled g kind.Merge (first ∷ Constant frames.undef ∷ []) (pattern ((1, true) ∷ (n, false) ∷ [])) (below, (tt, tt)) o

  previous_orderly : (g : Graph) (merge n : ℕ) → merge < length g → IsOrderly g → IsOrderly (frames.previous whole g merge n).graph
  previous_orderly g merge n less o = gates.ruled g kind.Tgate (Cell merge ∷ []) (pattern ((n, true) ∷ (1, false) ∷ [])) (less, tt) o

  last_orderly : (g : Graph) (all n : ℕ) → all < length g → IsOrderly g → IsOrderly (frames.last whole g all n).graph
  last_orderly g all n less o = gates.ruled g kind.Fgate (Cell all ∷ []) (pattern ((n, true) ∷ (1, false) ∷ [])) (less, tt) o

pub loops_are_orderly : GatesAreOrderly → LoopsAreOrderly
loops_are_orderly gates = record { held = held_orderly gates; opened = opened_orderly gates; previous = previous_orderly gates; last = last_orderly gates }
