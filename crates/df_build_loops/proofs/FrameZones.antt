-- Zones of holds and frames: the MERGE, its gate and what feeds it have one zone.
use Rattle.std.proofs.Common.{◌≡◌, ◌≤◌, ◌<◌, ◌+◌, ℕ, zero, suc, true, false, List, [], ◌∷◌, ◌++◌, length, Some, refl, sym, subst, ap, inl, inr, arith, ◌∙◌}
use Rattle.std.specs.Prelude.{slice_get}
use Rattle.std.proofs.lemmas.List.{length-append, get_or-append-add}
use Rattle.df_values.specs.declared.kinds.Op.{Op}
use Rattle.df_values.specs.declared.kinds.Binary.TheVariants.{Operation}
use Rattle.df_cells.specs.declared.cells.CellId.{CellId}
use Rattle.df_cells.specs.declared.kinds.Kind.{Kind}
use Rattle.df_cells.specs.declared.kinds.Kind.TheVariants as kind
use Rattle.df_cells.specs.Cells.{cell_from}
use Rattle.df_cells.specs.Families.{family, kind_of}
use Rattle.df_cells.specs.Kinds.{run_values}
use Rattle.df_cells.specs.Shifts.{control_values, first_truth, gate_place, merge_place}
use Rattle.df_labels.specs.declared.graphs.Flow.{Flow}
use Rattle.df_labels.specs.declared.graphs.Flow.TheVariants.{Constant, Cell}
use Rattle.df_labels.specs.Graphs.{Graph, Node, node_at, no_node}
use Rattle.df_labels.specs.Patterns.{pattern}
use Rattle.df_build_cond.specs.Growth.{Grown, node, whole, pushed}
use Rattle.df_build_cond.specs.Gates.{ruled}
use Rattle.df_build_cond.specs.Orderly.{zone_at, controls_by, controls_in, gate_in, side_in, KeepsZone, Orderly}
use Rattle.df_build_cond.specs.InZone.{IsSteady, Suits, FlowSuits, FlowUnder, KeepsCells, StandsInZone}
use Rattle.df_build_cond.specs.Laws.{GatesAreOrderly, GatesStayInZone}
use Rattle.df_build_loops.specs.Holds.{held}
use Rattle.df_build_loops.specs.Frames as frames
use Rattle.df_build_loops.specs.Frames.{undef, closed}
use Rattle.df_build_loops.specs.Folds as folds
use Rattle.df_build_loops.specs.Laws.{IsOpen, OpensInZone, BeginsInZone, EndsAboveZone, LoopsStayInZone}
use Rattle.df_build_loops.proofs.Zones.{no_arc, the_cell, new as hold_cells, held_is, held_in, at_merge, zone_merge, merge_passes as merge_passes'}
use Rattle.df_build_loops.proofs.Closing.{open_more, closed_in}

-- the gate of the values before passes the first at once
first_at_once : (n : ℕ) → first_truth true (run_values (pattern ((n, true) ∷ (1, false) ∷ []))) ≡ 0
first_at_once zero = refl
first_at_once (suc n) = refl

append_two : (g : Graph) (a b : Node) → (g ++ a ∷ []) ++ b ∷ [] ≡ g ++ a ∷ b ∷ []
append_two [] a b = refl
append_two (n ∷ g) a b = ap (λ l. n ∷ l) (append_two g a b)

module _ (orders : GatesAreOrderly) (gates : GatesStayInZone) where
  opened_in : (g : Graph) (first : Flow) (n : ℕ) (zones : List ℕ) (z : ℕ) → Orderly zones g → 0 < z → FlowUnder g zones z first → OpensInZone g zones z n (frames.opened whole g first n)
  opened_in g first n zones z o some below =
      let r = gates.ruled g kind.Merge (first ∷ Constant undef ∷ []) (pattern ((1, true) ∷ (n, false) ∷ [])) zones z o some (below, (tt, tt)) in
      record { more = r.more; orderly = r.orderly; kept = r.kept; cell = r.cell; opens = record { there = r.there; merges = r.kind; zone = r.zone; controls = r.controls } }

  module _ (g : Graph) (merge n : ℕ) (zones : List ℕ) (z : ℕ) (o : Orderly zones g) (some : 0 < z) (k : ℕ) (opens : IsOpen g zones z k merge) where
    abbrev m : ℕ
    m = length g

    abbrev gate_node : Node
    gate_node = node kind.Tgate (Cell (m + 1) ∷ Cell merge ∷ [])

    abbrev control_node : Node
    control_node = node (kind.Ctl (pattern ((n, true) ∷ (1, false) ∷ []))) []

    abbrev new : Graph
    new = gate_node ∷ control_node ∷ []

    abbrev h : Graph
    h = g ++ new

    abbrev zs : List ℕ
    zs = z ∷ 0 ∷ []

    kept_new : KeepsCells g zones h (zones ++ zs)
    kept_new = gates.appended g new zones zs o

    at : (i : ℕ) → node_at h (m + i) ≡ node_at new i
    at i = get_or-append-add g new i no_node

    zone : (i : ℕ) → zone_at (zones ++ zs) (m + i) ≡ zone_at zs i
    zone i = subst (λ j. zone_at (zones ++ zs) (j + i) ≡ zone_at zs i) o.count (get_or-append-add zones zs i 0)

    merge_passes : gate_in h merge ≡ 0
    merge_passes = ap (λ (it : Kind). gate_place (family it) (controls_in h merge)) (kept_new.kind merge opens.there ∙ opens.merges)

    gate_takes : side_in h (m + 0) 1 ≡ 0
    gate_takes = ap (λ (x : Node). merge_place (family x.kind) 1 (controls_in h (m + 0))) (at 0)

    gate_controls : controls_in h (m + 0) ≡ run_values (pattern ((n, true) ∷ (1, false) ∷ []))
    gate_controls = ap (λ (x : Node). controls_by h (cell_from (slice_get x.ports 0))) (at 0) ∙ ap (λ (x : Node). control_values x.kind) (at 1)

    gate_passes : gate_in h (m + 0) ≡ 0
    gate_passes = ap (λ (x : Node). gate_place (family x.kind) (controls_in h (m + 0))) (at 0) ∙ (ap (first_truth true) gate_controls ∙ first_at_once n)

    arcs : (i p : ℕ) (u : CellId) → cell_from (slice_get (node_at new i).ports p) ≡ Some u → (u.0 < m + length new) × KeepsZone h (zones ++ zs) (m + i) p u.0
    arcs zero zero u is =
        let e : u.0 ≡ m + 1 = the_cell is in
        let zu = zone 1 in
        let zc = zone 0 in
        (omega (arith, e), subst (KeepsZone h (zones ++ zs) (m + 0) 0) (sym e) (inl (omega (arith, zu, zc, some))))
    arcs zero (suc zero) u is =
        let e : u.0 ≡ merge = the_cell is in
        let less = opens.there in
        let same : zone_at (zones ++ zs) merge ≡ z = kept_new.zone merge less ∙ opens.zone in
        (omega (arith, e, less), subst (KeepsZone h (zones ++ zs) (m + 0) 1) (sym e) (inr (same ∙ sym (zone 0), inl (merge_passes, gate_takes, omega (arith, less)))))
    arcs zero (suc (suc p)) u is = no_arc is
    arcs (suc zero) p u is = no_arc is
    arcs (suc (suc i)) p u is = no_arc is

    previous_in : (first : ℕ) → first ≤ length g → StandsInZone g zones z first (frames.previous whole g merge n)
    unfolding ruled
    previous_in first many =
        let is : (frames.previous whole g merge n).graph ≡ h = append_two g gate_node control_node in
        let e : m + 0 ≡ m = omega arith in
        let longer : length h ≡ m + 2 = length-append g new in
        let same = ap length is in
        record {
          more = zones ++ zs;
          orderly = subst (Orderly (zones ++ zs)) (sym is) (orders.extended g new zones zs o refl arcs);
          kept = subst (λ (x : Graph). KeepsCells g zones x (zones ++ zs)) (sym is) kept_new;
          cell = record {
            there = omega (arith, same, longer);
            steady = subst (λ (x : Graph). IsSteady (node_at x m).kind) (sym is) (subst (λ j. IsSteady (node_at h j).kind) e (subst (λ (x : Node). IsSteady x.kind) (sym (at 0)) (λ side. refl)));
            zone = inr (ap (zone_at (zones ++ zs)) (sym e) ∙ zone 0, ap (λ (x : Graph). gate_in x m) is ∙ (ap (gate_in h) (sym e) ∙ gate_passes), many);
          };
        }

  begun_in : (first : Flow) (n : ℕ) (g : Graph) (zones : List ℕ) (z : ℕ) → Orderly zones g → 0 < z → FlowUnder g zones z first → BeginsInZone g zones z n (folds.loop_begun whole first n g)
  unfolding folds.loop_begun
  begun_in first n g zones z o some below =
      let a = frames.opened whole g first n in
      let r = opened_in g first n zones z o some below in
      let less = (r.opens).there in
      let p = frames.previous whole a.graph a.cell n in
      let q = previous_in a.graph a.cell n r.more z r.orderly some n r.opens (a.cell + 1) (omega (arith, less)) in
      record {
        more = q.more;
        orderly = q.orderly;
        kept = gates.kept_trans g a.graph p.graph zones r.more q.more r.kept q.kept;
        merge = r.cell;
        opens = open_more a.graph p.graph r.more q.more z n a.cell q.kept r.opens;
        gate = q.cell;
      }

  ended_in : (op : Op) (merge gate n : ℕ) (body : Grown) (zones : List ℕ) (z : ℕ) → Orderly zones body.graph → IsOpen body.graph zones z n merge
      → Suits body.graph zones z (merge + 1) gate → FlowSuits body.graph zones z (merge + 1) body.flow → EndsAboveZone body.graph zones (folds.loop_ended whole op merge gate n body)
  unfolding folds.loop_ended
  ended_in op merge gate n body zones z o opens g b =
      let less = opens.there in
      let it = kind_of (Operation op) in
      let flows = Cell gate ∷ body.flow ∷ [] in
      let j = pushed whole body.graph it flows in
      let r = gates.pushed body.graph it flows zones z (merge + 1) o (omega (arith, less)) (g, (b, tt)) (gates.joined (Operation op)) in
      let opens' = open_more body.graph j.graph zones r.more z n merge r.kept opens in
      let c = closed j.graph merge (Cell j.cell) in
      let d = closed_in j.graph merge (Cell j.cell) r.more z n r.orderly opens' r.cell in
      let opens'' = open_more j.graph c r.more r.more z n merge d.1 opens' in
      let at = opens''.zone in
      let l = frames.last whole c merge n in
      let e = gates.ruled c kind.Fgate (Cell merge ∷ []) (pattern ((n, true) ∷ (1, false) ∷ [])) r.more (z + 1) d.0 (omega arith) ((opens''.there, omega (arith, at)), tt) in
      record {
        more = e.more;
        orderly = e.orderly;
        kept = gates.kept_trans body.graph c l.graph zones r.more e.more (gates.kept_trans body.graph j.graph c zones r.more r.more r.kept d.1) e.kept;
        there = e.there;
        steady = subst IsSteady (sym e.kind) (λ side. refl);
      }

  held_stays : (g : Graph) (u n : ℕ) (zones : List ℕ) (z first : ℕ) → Orderly zones g → first ≤ length g → 2 ≤ n → u < length g → zone_at zones u < z
      → StandsInZone g zones z first (held whole g u n)
  held_stays g u n zones z first o many two less lower =
      let h = g ++ hold_cells orders g u n two in
      let zs = z ∷ 0 ∷ z ∷ 0 ∷ [] in
      let is : (held whole g u n).graph ≡ h = held_is orders g u n two in
      let longer : length h ≡ length g + 4 = length-append g (hold_cells orders g u n two) in
      let same = ap length is in
      record {
        more = zones ++ zs;
        orderly = held_in orders g u n two zones o z less lower;
        kept = subst (λ (x : Graph). KeepsCells g zones x (zones ++ zs)) (sym is) (gates.appended g (hold_cells orders g u n two) zones zs o);
        cell = record {
          there = omega (arith, same, longer);
          steady = subst (λ (x : Graph). IsSteady (node_at x (length g)).kind) (sym is) (subst (λ (x : Node). IsSteady x.kind) (sym (at_merge orders g u n two)) (λ side. refl));
          zone = inr (zone_merge orders g u n two zones o z less lower, ap (λ (x : Graph). gate_in x (length g)) is ∙ merge_passes' orders g u n two, many);
        };
      }

pub loops_stay_in_zone : GatesAreOrderly → GatesStayInZone → LoopsStayInZone
loops_stay_in_zone orders gates = record {
  open_more = open_more;
  held = held_stays orders gates;
  opened = opened_in orders gates;
  previous = λ g merge n zones z first o some many opens. previous_in orders gates g merge n zones z o some n opens first many;
  closed = closed_in;
  begun = begun_in orders gates;
  ended = ended_in orders gates;
}
