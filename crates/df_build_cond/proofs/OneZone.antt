-- Cells of one zone.
use Rattle.std.proofs.Common.{◌≡◌, ◌≤◌, ◌<◌, ◌+◌, ℕ, zero, suc, Bool, true, false, List, [], ◌∷◌, ◌++◌, map, length, Option, Some, None, refl, sym, subst, ap, inl, inr, arith, ◌∙◌}
use Rattle.std.specs.Prelude.{nat_lt, slice_get, cond, replicate, ◌==◌, if◌then◌else◌}
use Rattle.std.specs.List.{AllByRecursion}
use Rattle.std.proofs.lemmas.List.{length-append}
use Rattle.df_values.specs.declared.values.Value.{Value}
use Rattle.df_values.specs.declared.kinds.Binary.{Binary}
use Rattle.df_values.specs.declared.kinds.Binary.TheVariants.{Operation, Comparison}
use Rattle.df_values.specs.declared.kinds.Unary.{Unary}
use Rattle.df_values.specs.declared.kinds.Unary.TheVariants.{Negation, Inversion, Inquiry}
use Rattle.df_values.specs.declared.kinds.Op.TheVariants as op
use Rattle.df_values.specs.declared.kinds.Rel.TheVariants as rel
use Rattle.df_values.specs.declared.kinds.Test.TheVariants as test
use Rattle.df_cells.specs.declared.cells.CellId.{CellId}
use Rattle.df_cells.specs.declared.kinds.Family.{Family}
use Rattle.df_cells.specs.declared.kinds.Family.TheVariants as of
use Rattle.df_cells.specs.declared.kinds.Kind.{Kind}
use Rattle.df_cells.specs.declared.kinds.Kind.TheVariants as kind
use Rattle.df_cells.specs.declared.kinds.Run.{Run}
use Rattle.df_cells.specs.Cells.{cell_from}
use Rattle.df_cells.specs.Families.{family, kind_of, kind_of_one}
use Rattle.df_cells.specs.Kinds.{run_values}
use Rattle.df_cells.specs.Shifts.{control_values, is_truth, first_from, first_truth, gate_place, side_place, merge_place}
use Rattle.df_labels.specs.declared.graphs.Flow.{Flow}
use Rattle.df_labels.specs.declared.graphs.Flow.TheVariants.{Constant, Cell}
use Rattle.df_labels.specs.Flows.{feed_of}
use Rattle.df_labels.specs.Patterns.{steady}
use Rattle.df_labels.specs.Graphs.{Graph, Node, node_at}
use Rattle.df_build_cond.specs.Growth as grow
use Rattle.df_build_cond.specs.Growth.{node, whole}
use Rattle.df_build_cond.specs.Gates as gates
use Rattle.df_build_cond.specs.Gates.{gate_kind}
use Rattle.df_build_cond.specs.Arms as arms
use Rattle.df_build_cond.specs.Arms.{Arm, Crossed}
use Rattle.df_build_cond.specs.Orderly.{zone_at, controls_by, controls_in, gate_in, side_in, KeepsZone, Orderly}
use Rattle.df_build_cond.specs.InZone.{IsSteady, Suits, FlowSuits, FlowUnder, ArmSuits, KeepsCells, StandsInZone, PassesInZone, CrossesInZone, StandsAtZone}
use Rattle.df_build_cond.specs.Laws.{GatesStayInZone}
use Rattle.df_build_cond.proofs.Lists.{all_map}
use Rattle.df_build_cond.proofs.Arcs.{length_cell, noted_all, next}
use Rattle.df_build_cond.proofs.Zones.{old_node, new_node, old_controls, old_zone, new_zone, zones_extend, no_arc, the_cell, append_twice}

-- ---- old cells

pub kept_refl : (g : Graph) (x : List ℕ) → KeepsCells g x g x
kept_refl g x = record { longer = omega arith; zone = λ c less. refl; kind = λ c less. refl; controls = λ c less. refl }

pub kept_trans : (g h k : Graph) (x y z : List ℕ) → KeepsCells g x h y → KeepsCells h y k z → KeepsCells g x k z
kept_trans g h k x y z a b =
    let la = a.longer in
    let lb = b.longer in
    record {
      longer = omega (arith, la, lb);
      zone = λ c less. b.zone c (omega (arith, less, la)) ∙ a.zone c less;
      kind = λ c less. b.kind c (omega (arith, less, la)) ∙ a.kind c less;
      controls = λ c less. b.controls c (omega (arith, less, la)) ∙ a.controls c less;
    }

-- more cells at the end
pub kept_append : (g new : Graph) (zones more : List ℕ) → Orderly zones g → KeepsCells g zones (g ++ new) (zones ++ more)
kept_append g new zones more o =
    let count = o.count in
    let longer : length (g ++ new) ≡ length g + length new = length-append g new in
    record {
      longer = omega (arith, longer);
      zone = λ c less. old_zone zones more c (omega (arith, less, count));
      kind = λ c less. ap (λ (n : Node). n.kind) (old_node g new c less);
      controls = λ c less. old_controls g new o.there c less;
    }

gate_kept : (g h : Graph) (x y : List ℕ) (c : ℕ) → KeepsCells g x h y → c < length g → gate_in h c ≡ gate_in g c
gate_kept g h x y c k less = ap (λ (it : Kind). gate_place (family it) (controls_in h c)) (k.kind c less) ∙ ap (gate_place (family (node_at g c).kind)) (k.controls c less)

pub suits_more : (g h : Graph) (x y : List ℕ) (z first c : ℕ) → KeepsCells g x h y → Suits g x z first c → Suits h y z first c
suits_more g h x y z first c k s =
    let less = s.there in
    let longer = k.longer in
    let same = k.zone c less in
    record {
      there = omega (arith, less, longer);
      steady = subst IsSteady (sym (k.kind c less)) s.steady;
      zone = elim s.zone [ inl lower ↦ inl (omega (arith, same, lower)) | inr both ↦ inr (same ∙ both.0, gate_kept g h x y c k less ∙ both.1, both.2) ];
    }

pub flow_more : (g h : Graph) (x y : List ℕ) (z first : ℕ) (flow : Flow) → KeepsCells g x h y → FlowSuits g x z first flow → FlowSuits h y z first flow
flow_more g h x y z first (Constant v) k s = tt
flow_more g h x y z first (Cell c) k s = suits_more g h x y z first c k s

arm_more : (g h : Graph) (x y : List ℕ) (z first : ℕ) (arm : Arm) → KeepsCells g x h y → ArmSuits g x z first arm → ArmSuits h y z first arm
arm_more g h x y z first arm k s = record {
  control = suits_more g h x y z first arm.control k s.control;
  gates = λ u d is. suits_more g h x y z first d k (s.gates u d is);
}

pub arms_more : (g h : Graph) (x y : List ℕ) (z first : ℕ) (open_arms : List Arm) → KeepsCells g x h y → AllByRecursion (ArmSuits g x z first) open_arms → AllByRecursion (ArmSuits h y z first) open_arms
arms_more g h x y z first open_arms k all = all_map (ArmSuits g x z first) (ArmSuits h y z first) (λ arm s. arm_more g h x y z first arm k s) open_arms all

-- ---- under a steady control nothing is late

gate_steady : (f : Family) (values : List Value) → ((side : Bool) → first_truth side values ≡ 0) → gate_place f values ≡ 0
gate_steady of.Source values steady = refl
gate_steady (of.Two how) values steady = refl
gate_steady (of.One how) values steady = refl
gate_steady (of.Gate side) values steady = steady side
gate_steady of.Merge values steady = refl
gate_steady of.Buf values steady = refl
gate_steady of.Out values steady = refl

side_steady : (p : ℕ) (values : List Value) → ((side : Bool) → first_truth side values ≡ 0) → side_place p values ≡ 0
side_steady p values steady = go (p == 1) (p == 2)
  where
    go : (one two : Bool) → cond one (first_truth true values) (cond two (first_truth false values) 0) ≡ 0
    go true two = steady true
    go false true = steady false
    go false false = refl

merge_steady : (f : Family) (p : ℕ) (values : List Value) → ((side : Bool) → first_truth side values ≡ 0) → merge_place f p values ≡ 0
merge_steady of.Source p values steady = refl
merge_steady (of.Two how) p values steady = refl
merge_steady (of.One how) p values steady = refl
merge_steady (of.Gate side) p values steady = refl
merge_steady of.Merge p values steady = side_steady p values steady
merge_steady of.Buf p values steady = refl
merge_steady of.Out p values steady = refl

-- ---- kinds that are steady

joined_steady : (how : Binary) → IsSteady (kind_of how)
joined_steady (Operation op.Add) side = refl
joined_steady (Operation op.Sub) side = refl
joined_steady (Operation op.Mul) side = refl
joined_steady (Operation op.Div) side = refl
joined_steady (Operation op.Mod) side = refl
joined_steady (Operation op.Min) side = refl
joined_steady (Operation op.Max) side = refl
joined_steady (Operation op.And) side = refl
joined_steady (Operation op.Or) side = refl
joined_steady (Comparison rel.Lt) side = refl
joined_steady (Comparison rel.Le) side = refl
joined_steady (Comparison rel.Gt) side = refl
joined_steady (Comparison rel.Ge) side = refl
joined_steady (Comparison rel.Eq) side = refl
joined_steady (Comparison rel.Ne) side = refl

changed_steady : (how : Unary) → IsSteady (kind_of_one how)
changed_steady Negation side = refl
changed_steady Inversion side = refl
changed_steady (Inquiry test.Undef) side = refl
changed_steady (Inquiry test.MissElt) side = refl
changed_steady (Inquiry test.PosOver) side = refl
changed_steady (Inquiry test.NegOver) side = refl
changed_steady (Inquiry test.Unknown) side = refl
changed_steady (Inquiry test.ZeroDivide) side = refl
changed_steady (Inquiry test.Error) side = refl

-- where the value is no such truth value, none of the list is
none_passes : (side : Bool) (v : Value) → is_truth side v ≡ false → (k m : ℕ) → first_from (is_truth side) m (replicate k v ++ []) ≡ 0
none_passes side v is zero m = refl
none_passes side v is (suc k) m = ap (λ b. cond b m (first_from (is_truth side) (m + 1) (replicate k v ++ []))) is ∙ none_passes side v is k (m + 1)

listed_steady : (n : ℕ) (v : Value) → IsSteady (kind.Ctl (steady n v))
listed_steady zero v side = refl
listed_steady (suc k) v side = go (is_truth side v) refl
  where
    go : (b : Bool) → is_truth side v ≡ b → cond b 0 (first_from (is_truth side) (0 + 1) (replicate k v ++ [])) ≡ 0
    go true is = refl
    go false is = none_passes side v is k (0 + 1)

-- ---- a cell of the zone

suits_from : (g : Graph) (zones : List ℕ) (z first : ℕ) (flows : List Flow) → AllByRecursion (FlowSuits g zones z first) flows
    → (p : ℕ) (u : CellId) → cell_from (slice_get (map feed_of flows) p) ≡ Some u → Suits g zones z first u.0
suits_from g zones z first [] all p u is = no_arc is
suits_from g zones z first (Constant v ∷ flows) all zero u is = no_arc is
suits_from g zones z first (Cell c ∷ flows) all zero u is = subst (Suits g zones z first) (sym (the_cell is)) all.0
suits_from g zones z first (x ∷ flows) all (suc p) u is = suits_from g zones z first flows all.1 p u is

under_from : (g : Graph) (zones : List ℕ) (z : ℕ) (flows : List Flow) → AllByRecursion (FlowUnder g zones z) flows
    → (p : ℕ) (u : CellId) → cell_from (slice_get (map feed_of flows) p) ≡ Some u → FlowUnder g zones z (Cell u.0)
under_from g zones z [] all p u is = no_arc is
under_from g zones z (Constant v ∷ flows) all zero u is = no_arc is
under_from g zones z (Cell c ∷ flows) all zero u is = subst (λ k. FlowUnder g zones z (Cell k)) (sym (the_cell is)) all.0
under_from g zones z (x ∷ flows) all (suc p) u is = under_from g zones z flows all.1 p u is

module _ (g : Graph) (it : Kind) (flows : List Flow) (zones : List ℕ) (z first : ℕ) (o : Orderly zones g) (all : AllByRecursion (FlowSuits g zones z first) flows) where
  abbrev new : Graph
  new = node it flows ∷ []

  abbrev h : Graph
  h = g ++ new

  abbrev more : List ℕ
  more = zones ++ z ∷ []

  kept : KeepsCells g zones h more
  kept = kept_append g new zones (z ∷ []) o

  at : node_at h (length g + 0) ≡ node it flows
  at = new_node g new 0

  -- its control is steady
  control : (side : Bool) → first_truth side (controls_in h (length g + 0)) ≡ 0
  control side = ap (λ (x : Node). first_truth side (controls_by h (cell_from (slice_get x.ports 0)))) at ∙ go flows all
    where
      go : (fs : List Flow) → AllByRecursion (FlowSuits g zones z first) fs → first_truth side (controls_by h (cell_from (slice_get (map feed_of fs) 0))) ≡ 0
      go [] a = refl
      go (Constant v ∷ fs) a = refl
      go (Cell c ∷ fs) a = let s = suits_more g h zones more z first c kept a.0 in s.steady side

  side : (p : ℕ) → side_in h (length g + 0) p ≡ 0
  side p = merge_steady (family (node_at h (length g + 0)).kind) p (controls_in h (length g + 0)) control

  gate : gate_in h (length g + 0) ≡ 0
  gate = gate_steady (family (node_at h (length g + 0)).kind) (controls_in h (length g + 0)) control

  arcs : (i p : ℕ) (u : CellId) → cell_from (slice_get (node_at new i).ports p) ≡ Some u → (u.0 < length g + length new) × KeepsZone h more (length g + i) p u.0
  arcs zero p u is =
      let s = suits_from g zones z first flows all p u is in
      let t = suits_more g h zones more z first u.0 kept s in
      let less = s.there in
      let zc = new_zone zones (z ∷ []) (length g) 0 o.count in
      (omega (arith, less), elim t.zone [ inl lower ↦ inl (omega (arith, lower, zc)) | inr both ↦ inr (both.0 ∙ sym zc, inl (both.1, side p, omega (arith, less))) ])
  arcs (suc i) p u is = no_arc is

  pub in_zone : first ≤ length g → IsSteady it → StandsInZone g zones z first (grow.pushed whole g it flows)
  in_zone many steady =
      let count = length_cell g it flows in
      let e : length g + 0 ≡ length g = omega arith in
      record {
        more = more;
        orderly = zones_extend g new zones (z ∷ []) o refl arcs;
        kept = kept;
        cell = record {
          there = omega (arith, count);
          steady = subst (λ k. IsSteady (node_at h k).kind) e (subst (λ (n : Node). IsSteady n.kind) (sym at) steady);
          zone = inr (ap (zone_at more) (sym e) ∙ new_zone zones (z ∷ []) (length g) 0 o.count, ap (gate_in h) (sym e) ∙ gate, many);
        };
      }

-- ---- a cell with a CTL of its own

module _ (g : Graph) (it : Kind) (flows : List Flow) (runs : List Run) (zones : List ℕ) (z : ℕ) (o : Orderly zones g) (some : 0 < z)
    (all : AllByRecursion (FlowUnder g zones z) flows) where
  abbrev pair : Graph
  pair = node it (Cell (length g + 1) ∷ flows) ∷ node (kind.Ctl runs) [] ∷ []

  abbrev pair_zones : List ℕ
  pair_zones = z ∷ 0 ∷ []

  pair_arcs : (i p : ℕ) (u : CellId) → cell_from (slice_get (node_at pair i).ports p) ≡ Some u
      → (u.0 < length g + length pair) × KeepsZone (g ++ pair) (zones ++ pair_zones) (length g + i) p u.0
  pair_arcs zero zero u is =
      let e : u.0 ≡ length g + 1 = the_cell is in
      let zc = new_zone zones pair_zones (length g) 0 o.count in
      let zu : zone_at (zones ++ pair_zones) u.0 ≡ 0 = ap (zone_at (zones ++ pair_zones)) e ∙ new_zone zones pair_zones (length g) 1 o.count in
      (omega (arith, e), inl (omega (arith, zc, zu, some)))
  pair_arcs zero (suc p) u is =
      let below = under_from g zones z flows all p u is in
      let less = below.0 in
      let lower = below.1 in
      let count = o.count in
      let zc = new_zone zones pair_zones (length g) 0 o.count in
      let zu = old_zone zones pair_zones u.0 (omega (arith, less, count)) in
      (omega (arith, less), inl (omega (arith, zc, zu, lower)))
  pair_arcs (suc zero) p u is = no_arc is
  pair_arcs (suc (suc i)) p u is = no_arc is

  pair_at : node_at (g ++ pair) (length g) ≡ node it (Cell (length g + 1) ∷ flows)
  pair_at = let e : length g + 0 ≡ length g = omega arith in ap (node_at (g ++ pair)) (sym e) ∙ new_node g pair 0

  pair_controls : controls_in (g ++ pair) (length g) ≡ run_values runs
  pair_controls =
      ap (λ (x : Node). controls_by (g ++ pair) (cell_from (slice_get x.ports 0))) pair_at
      ∙ ap (λ (x : Node). control_values x.kind) (new_node g pair 1)

  pub at_zone : StandsAtZone g zones it runs z (gates.ruled whole g it flows runs)
  unfolding gates.ruled
  at_zone =
      let is : (gates.ruled whole g it flows runs).graph ≡ g ++ pair = append_twice g (node it (Cell (length g + 1) ∷ flows)) (node (kind.Ctl runs) []) in
      let e : length g + 0 ≡ length g = omega arith in
      let longer : length (g ++ pair) ≡ length g + 2 = length-append g pair in
      let same = ap length is in
      record {
        more = zones ++ pair_zones;
        orderly = subst (Orderly (zones ++ pair_zones)) (sym is) (zones_extend g pair zones pair_zones o refl pair_arcs);
        kept = subst (λ (x : Graph). KeepsCells g zones x (zones ++ pair_zones)) (sym is) (kept_append g pair zones pair_zones o);
        cell = refl;
        there = omega (arith, same, longer);
        zone = ap (zone_at (zones ++ pair_zones)) (sym e) ∙ new_zone zones pair_zones (length g) 0 o.count;
        kind = ap (λ (n : Node). n.kind) (ap (λ (x : Graph). node_at x (length g)) is ∙ pair_at);
        controls = ap (λ (x : Graph). controls_in x (length g)) is ∙ pair_controls;
      }

-- ---- arms

gate_kind_steady : (side : Bool) → IsSteady (gate_kind side)
gate_kind_steady true side = refl
gate_kind_steady false side = refl

passed_in : (arm : Arm) (g : Graph) (u : ℕ) (met : Option ℕ) (zones : List ℕ) (z first : ℕ) → arm.gates u ≡ met → Orderly zones g → first ≤ length g
    → ArmSuits g zones z first arm → Suits g zones z first u → PassesInZone g zones z first (arms.passed whole arm g u met)
passed_in arm g u (Some d) zones z first is o many a s = record { more = zones; orderly = o; kept = kept_refl g zones; arm = a; flow = a.gates u d is }
passed_in arm g u None zones z first is o many a s =
    let flows = Cell arm.control ∷ Cell u ∷ [] in
    let r = in_zone g (gate_kind arm.side) flows zones z first o (a.control, (s, tt)) many (gate_kind_steady arm.side) in
    let h = grow.with_cell whole g (gate_kind arm.side) flows in
    let b = arm_more g h zones r.more z first arm r.kept a in
    record {
      more = r.more;
      orderly = r.orderly;
      kept = r.kept;
      arm = record { control = b.control; gates = noted_all (Suits h r.more z first) arm.gates u (length g) r.cell b.gates };
      flow = r.cell;
    }

pub pass_in : (arm : Arm) (g : Graph) (flow : Flow) (zones : List ℕ) (z first : ℕ) → Orderly zones g → first ≤ length g → ArmSuits g zones z first arm
    → FlowSuits g zones z first flow → PassesInZone g zones z first (arms.pass whole arm g flow)
pass_in arm g (Constant v) zones z first o many a s = record { more = zones; orderly = o; kept = kept_refl g zones; arm = a; flow = tt }
pass_in arm g (Cell u) zones z first o many a s = passed_in arm g u (arm.gates u) zones z first refl o many a s

next_in : (arm : Arm) (g : Graph) (outer : Crossed) (zones : List ℕ) (z first : ℕ) → first ≤ length g → ArmSuits g zones z first arm
    → CrossesInZone g zones z first outer → CrossesInZone g zones z first (next arm outer)
next_in arm g outer zones z first many a c =
    let longer = c.kept.longer in
    let h = outer.graph in
    let p = pass_in arm h outer.flow c.more z first c.orderly (omega (arith, many, longer)) (arm_more g h zones c.more z first arm c.kept a) c.flow in
    let k = (next arm outer).graph in
    record {
      more = p.more;
      orderly = p.orderly;
      kept = kept_trans g h k zones c.more p.more c.kept p.kept;
      arms = (p.arm, arms_more h k c.more p.more z first outer.arms p.kept c.arms);
      flow = p.flow;
    }

cross_in : (level : ℕ) (g : Graph) (open_arms : List Arm) (flow : Flow) (zones : List ℕ) (z first : ℕ) → Orderly zones g → first ≤ length g
    → AllByRecursion (ArmSuits g zones z first) open_arms → FlowSuits g zones z first flow → CrossesInZone g zones z first (arms.cross whole level g open_arms flow)
cross_in level g [] flow zones z first o many all s = record { more = zones; orderly = o; kept = kept_refl g zones; arms = tt; flow = s }
cross_in level g (arm ∷ rest) flow zones z first o many all s =
    let outer = arms.cross whole level g rest flow in
    elim (nat_lt (length rest) level) as (λ t. CrossesInZone g zones z first (if t then record { graph = g; arms = arm ∷ rest; flow = flow } else next arm outer)) [
      | true ↦ record { more = zones; orderly = o; kept = kept_refl g zones; arms = all; flow = s }
      | false ↦ next_in arm g outer zones z first many all.0 (cross_in level g rest flow zones z first o many all.1 s)
    ]

pub gates_stay_in_zone : GatesStayInZone
gates_stay_in_zone = record {
  joined = joined_steady;
  changed = changed_steady;
  listed = listed_steady;
  kept_refl = kept_refl;
  kept_trans = kept_trans;
  suits_more = suits_more;
  flow_more = flow_more;
  arms_more = arms_more;
  appended = kept_append;
  pushed = λ g it flows zones z first o many all steady. in_zone g it flows zones z first o all many steady;
  ruled = at_zone;
  pass = pass_in;
  cross = cross_in;
}
