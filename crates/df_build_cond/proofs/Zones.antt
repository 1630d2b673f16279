-- Zones of a graph with more cells.
use Rattle.std.proofs.Common.{◌⊎◌, ◌≡◌, ◌≤◌, ◌<◌, ◌+◌, ◌-◌, ℕ, zero, suc, Bool, true, false, List, [], ◌∷◌, ◌++◌, length, Option, Some, None, refl, sym, subst, ap, inl, inr, arith, ◌∙◌}
use Rattle.std.specs.Prelude.{nat_lt, slice_get, if◌then◌else◌}
use Rattle.std.specs.List.{AllByRecursion}
use Rattle.std.proofs.lemmas.List.{length-append, get_or_append_left, get_or-append-add}
use Rattle.df_cells.specs.declared.cells.CellId.{CellId}
use Rattle.df_cells.specs.declared.kinds.Kind.{Kind}
use Rattle.df_cells.specs.declared.kinds.Kind.TheVariants as kind
use Rattle.df_cells.specs.declared.kinds.Run.{Run}
use Rattle.df_cells.specs.Cells.{cell_from}
use Rattle.df_cells.specs.Families.{family}
use Rattle.df_cells.specs.Shifts.{control_values, gate_place, merge_place}
use Rattle.df_labels.specs.declared.graphs.Flow.{Flow}
use Rattle.df_labels.specs.declared.graphs.Flow.TheVariants.{Constant, Cell}
use Rattle.df_labels.specs.Graphs.{Graph, Node, HasArcs, node_at, no_node}
use Rattle.df_build_cond.specs.Growth as grow
use Rattle.df_build_cond.specs.Growth.{node, whole}
use Rattle.df_build_cond.specs.Gates as gates
use Rattle.df_build_cond.specs.Gates.{gate_kind}
use Rattle.df_build_cond.specs.Arms as arms
use Rattle.df_build_cond.specs.Arms.{Arm}
use Rattle.df_build_cond.specs.Within.{ArcsBelow, FlowBelow, ArmBelow}
use Rattle.df_build_cond.specs.Laws.{GatesAreOrderly}
use Rattle.df_build_cond.proofs.Arcs.{node_below, port_below, arm_more, cross_after, next}
use Rattle.df_build_cond.specs.Orderly.{zone_at, controls_by, controls_in, gate_in, side_in, AreNeverFalse, StaysIn, KeepsZone, IsOrderly, ZonesExtend}

-- ---- old cells in a longer graph

pub old_node : (g new : Graph) (c : ℕ) → c < length g → node_at (g ++ new) c ≡ node_at g c
old_node g new c less = get_or_append_left g new no_node c less

pub new_node : (g new : Graph) (i : ℕ) → node_at (g ++ new) (length g + i) ≡ node_at new i
new_node g new i = get_or-append-add g new i no_node

pub old_controls : (g new : Graph) → HasArcs g → (c : ℕ) → c < length g → controls_in (g ++ new) c ≡ controls_in g c
old_controls g new there c less =
    ap (λ (n : Node). controls_by (g ++ new) (cell_from (slice_get n.ports 0))) (old_node g new c less) ∙ go (cell_from (slice_get (node_at g c).ports 0)) refl
  where
    go : (o : Option CellId) → cell_from (slice_get (node_at g c).ports 0) ≡ o → controls_by (g ++ new) o ≡ controls_by g o
    go None is = refl
    go (Some w) is = ap (λ (n : Node). control_values n.kind) (old_node g new w.0 (there c 0 w is))

pub old_gate : (g new : Graph) → HasArcs g → (u : ℕ) → u < length g → gate_in (g ++ new) u ≡ gate_in g u
old_gate g new there u less =
    ap (λ (n : Node). gate_place (family n.kind) (controls_in (g ++ new) u)) (old_node g new u less)
    ∙ ap (gate_place (family (node_at g u).kind)) (old_controls g new there u less)

old_side : (g new : Graph) → HasArcs g → (c p : ℕ) → c < length g → side_in (g ++ new) c p ≡ side_in g c p
old_side g new there c p less =
    ap (λ (n : Node). merge_place (family n.kind) p (controls_in (g ++ new) c)) (old_node g new c less)
    ∙ ap (merge_place (family (node_at g c).kind) p) (old_controls g new there c less)

old_stays : (g new : Graph) → HasArcs g → (c p u : ℕ) → c < length g → u < length g → StaysIn g c p u → StaysIn (g ++ new) c p u
old_stays g new there c p u less below (inl f) = inl (old_gate g new there u below ∙ f.0, old_side g new there c p less ∙ f.1, f.2)
old_stays g new there c p u less below (inr (inl f)) = inr (inl (old_gate g new there u below ∙ f.0, old_side g new there c p less ∙ f.1, f.2))
old_stays g new there c p u less below (inr (inr f)) =
    inr (inr (f.0, f.1, subst AreNeverFalse (sym (old_controls g new there c less)) f.2))

-- ---- a graph with more cells

pub old_zone : (zones more : List ℕ) (c : ℕ) → c < length zones → zone_at (zones ++ more) c ≡ zone_at zones c
old_zone zones more c less = get_or_append_left zones more 0 c less

pub new_zone : (zones more : List ℕ) (n i : ℕ) → length zones ≡ n → zone_at (zones ++ more) (n + i) ≡ zone_at more i
new_zone zones more n i count = subst (λ k. zone_at (zones ++ more) (k + i) ≡ zone_at more i) count (get_or-append-add zones more i 0)

pub zones_extend : ZonesExtend
zones_extend g new zones more o same arcs =
    let count = o.count in
    let longer : length (g ++ new) ≡ length g + length new = length-append g new in
    let zones_longer : length (zones ++ more) ≡ length zones + length more = length-append zones more in
    record {
      count = omega (arith, count, longer, zones_longer, same);
      there = λ c p u is. elim (split c) [
        | inl less ↦ (let l = o.there c p u (old_arc c p u less is) in omega (arith, l, longer))
        | inr i ↦ (let l = (arcs i.0 p u (new_arc c i.0 p u i.1 is)).0 in omega (arith, l, longer))
      ];
      arcs = λ c p u is. elim (split c) [
        | inl less ↦ old c p u less is
        | inr i ↦ subst (λ k. KeepsZone (g ++ new) (zones ++ more) k p u.0) (sym i.1) (arcs i.0 p u (new_arc c i.0 p u i.1 is)).1
      ];
    }
  where
    split : (c : ℕ) → (c < length g) ⊎ ((i : ℕ) × (c ≡ length g + i))
    split c = go (nat_lt c (length g)) refl
      where
        go : (t : Bool) → nat_lt c (length g) ≡ t → (c < length g) ⊎ ((i : ℕ) × (c ≡ length g + i))
        go true is = inl (grind (arith, is))
        go false is = let le : length g ≤ c = grind (arith, is) in inr (c - length g, omega (arith, le))

    old_arc : (c p : ℕ) (u : CellId) → c < length g → cell_from (slice_get (node_at (g ++ new) c).ports p) ≡ Some u → cell_from (slice_get (node_at g c).ports p) ≡ Some u
    old_arc c p u less is = subst (λ (n : Node). cell_from (slice_get n.ports p) ≡ Some u) (old_node g new c less) is

    new_arc : (c i p : ℕ) (u : CellId) → c ≡ length g + i → cell_from (slice_get (node_at (g ++ new) c).ports p) ≡ Some u → cell_from (slice_get (node_at new i).ports p) ≡ Some u
    new_arc c i p u at is = subst (λ (n : Node). cell_from (slice_get n.ports p) ≡ Some u) (ap (node_at (g ++ new)) at ∙ new_node g new i) is

    old : (c p : ℕ) (u : CellId) → c < length g → cell_from (slice_get (node_at (g ++ new) c).ports p) ≡ Some u → KeepsZone (g ++ new) (zones ++ more) c p u.0
    old c p u less is =
        let was = old_arc c p u less is in
        let below = o.there c p u was in
        let count = o.count in
        let zc = old_zone zones more c (omega (arith, less, count)) in
        let zu = old_zone zones more u.0 (omega (arith, below, count)) in
        elim (o.arcs c p u was) [ inl lower ↦ inl (omega (arith, lower, zc, zu)) | inr both ↦ inr (zu ∙ both.0 ∙ sym zc, old_stays g new o.there c p u.0 less below both.1) ]

-- ---- zones above all others

-- the zones together
abbrev pub total : List ℕ → ℕ
total [] = 0
total (x ∷ zones) = x + total zones

pub under_total : (zones : List ℕ) (c : ℕ) → zone_at zones c ≤ total zones
under_total [] c = omega arith
under_total (x ∷ zones) zero = omega arith
under_total (x ∷ zones) (suc c) = let l = under_total zones c in omega (arith, l)

-- an old cell's zone is below a new one's that is above all
rises : (g : Graph) (zones more : List ℕ) (u i : ℕ) → length zones ≡ length g → u < length g → total zones < zone_at more i → zone_at (zones ++ more) u < zone_at (zones ++ more) (length g + i)
rises g zones more u i count less above =
    let zu = old_zone zones more u (omega (arith, count, less)) in
    let zc = new_zone zones more (length g) i count in
    let low = under_total zones u in
    omega (arith, zu, zc, low, above)

pub no_arc : {A : Type 0} {u : CellId} → None ≡ Some u → A
no_arc e = absurd (none e)
  where
    none : {u : CellId} → None ≡ Some u → ⊥
    none e = cc

pub the_cell : {c : ℕ} {u : CellId} → Some (record { 0 = c }) ≡ Some u → u.0 ≡ c
the_cell e = sym (ap first e)
  where
    first : Option CellId → ℕ
    first (Some u) = u.0
    first None = 0

-- a cell whose arcs come from before
pub cell_orderly : (g : Graph) (it : Kind) (flows : List Flow) → AllByRecursion (FlowBelow (length g)) flows → IsOrderly g → IsOrderly (grow.with_cell whole g it flows)
cell_orderly g it flows all o = (o.0 ++ more, zones_extend g new o.0 more o.1 refl arcs)
  where
    new : Graph
    new = node it flows ∷ []

    more : List ℕ
    more = (total o.0 + 1) ∷ []

    arcs : (i p : ℕ) (u : CellId) → cell_from (slice_get (node_at new i).ports p) ≡ Some u → (u.0 < length g + length new) × KeepsZone (g ++ new) (o.0 ++ more) (length g + i) p u.0
    arcs zero p u is =
        let below = port_below (length g) (node it flows).ports (node_below (length g) it flows all) p u is in
        (omega (arith, below), inl (rises g o.0 more u.0 0 o.1.count below (omega arith)))
    arcs (suc i) p u is = no_arc is

pub append_twice : (g : Graph) (x y : Node) → (g ++ x ∷ []) ++ y ∷ [] ≡ g ++ x ∷ y ∷ []
append_twice [] x y = refl
append_twice (n ∷ g) x y = ap (λ l. n ∷ l) (append_twice g x y)

-- a cell and a CTL of its own behind it
pub ruled_orderly : (g : Graph) (it : Kind) (flows : List Flow) (runs : List Run) → AllByRecursion (FlowBelow (length g)) flows → IsOrderly g → IsOrderly (gates.ruled whole g it flows runs).graph
unfolding gates.ruled
ruled_orderly g it flows runs all o = subst IsOrderly (sym (append_twice g (node it (Cell (length g + 1) ∷ flows)) (node (kind.Ctl runs) []))) (o.0 ++ more, zones_extend g new o.0 more o.1 refl arcs)
  where
    new : Graph
    new = node it (Cell (length g + 1) ∷ flows) ∷ node (kind.Ctl runs) [] ∷ []

    more : List ℕ
    more = (total o.0 + 1) ∷ 0 ∷ []

    arcs : (i p : ℕ) (u : CellId) → cell_from (slice_get (node_at new i).ports p) ≡ Some u → (u.0 < length g + length new) × KeepsZone (g ++ new) (o.0 ++ more) (length g + i) p u.0
    arcs zero zero u is =
        let e : u.0 ≡ length g + 1 = the_cell is in
        let zc = new_zone o.0 more (length g) 0 o.1.count in
        let zu : zone_at (o.0 ++ more) u.0 ≡ 0 = ap (zone_at (o.0 ++ more)) e ∙ new_zone o.0 more (length g) 1 o.1.count in
        (omega (arith, e), inl (omega (arith, zc, zu)))
    arcs zero (suc p) u is =
        let below = port_below (length g) (node it flows).ports (node_below (length g) it flows all) p u is in
        (omega (arith, below), inl (rises g o.0 more u.0 0 o.1.count below (omega arith)))
    arcs (suc zero) p u is = no_arc is
    arcs (suc (suc i)) p u is = no_arc is

-- ---- arms

passed_orderly : (arm : Arm) (g : Graph) (u : ℕ) (met : Option ℕ) → ArmBelow (length g) arm → u < length g → IsOrderly g → IsOrderly (arms.passed whole arm g u met).graph
passed_orderly arm g u (Some d) below less o = o
passed_orderly arm g u None below less o = cell_orderly g (gate_kind arm.side) (Cell arm.control ∷ Cell u ∷ []) (below.control, (less, tt)) o

pass_orderly : (arm : Arm) (g : Graph) (flow : Flow) → ArmBelow (length g) arm → FlowBelow (length g) flow → IsOrderly g → IsOrderly (arms.pass whole arm g flow).graph
pass_orderly arm g (Constant v) below there o = o
pass_orderly arm g (Cell u) below less o = passed_orderly arm g u (arm.gates u) below less o

cross_orderly : (level : ℕ) (g : Graph) (open_arms : List Arm) (flow : Flow) → ArcsBelow (length g) g → AllByRecursion (ArmBelow (length g)) open_arms → FlowBelow (length g) flow
    → IsOrderly g → IsOrderly (arms.cross whole level g open_arms flow).graph
cross_orderly level g [] flow arcs all below o = o
cross_orderly level g (arm ∷ rest) flow arcs all below o =
    let outer = arms.cross whole level g rest flow in
    let good = cross_after level g rest flow arcs all.1 below in
    elim (nat_lt (length rest) level) as (λ t. IsOrderly (if t then record { graph = g; arms = arm ∷ rest; flow = flow } else next arm outer).graph) [
      | true ↦ o
      | false ↦ pass_orderly arm outer.graph outer.flow (arm_more (length g) _ good.more arm all.0) good.flow (cross_orderly level g rest flow arcs all.1 below o)
    ]

above : (zones : List ℕ) → (z : ℕ) × ((c : ℕ) → zone_at zones c < z)
above zones = (total zones + 1, λ c. let l = under_total zones c in omega (arith, l))

pub gates_are_orderly : GatesAreOrderly
gates_are_orderly = record { extended = zones_extend; above = above; cell = cell_orderly; ruled = ruled_orderly; pass = pass_orderly; cross = cross_orderly }
