-- Arcs come from cells that are there.
use Rattle.std.proofs.Common.{◌≡◌, ◌≤◌, ◌<◌, ◌+◌, ℕ, zero, suc, Bool, true, false, List, [], ◌∷◌, length, Option, Some, None, refl, subst, ap, arith}
use Rattle.std.specs.Prelude.{if◌then◌else◌, nat_lt, ◌==◌, slice_get}
use Rattle.std.specs.List.{AllByRecursion}
use Rattle.std.proofs.lemmas.List.{length_push}
use Rattle.df_cells.specs.declared.cells.CellId.{CellId}
use Rattle.df_cells.specs.declared.cells.Feed.{Feed}
use Rattle.df_cells.specs.declared.kinds.Kind.{Kind}
use Rattle.df_cells.specs.declared.kinds.Kind.TheVariants as kind
use Rattle.df_cells.specs.declared.kinds.Run.{Run}
use Rattle.df_cells.specs.Cells.{cell_from}
use Rattle.df_labels.specs.declared.graphs.Flow.{Flow}
use Rattle.df_labels.specs.declared.graphs.Flow.TheVariants.{Constant, Cell}
use Rattle.df_labels.specs.Flows.{feed_of}
use Rattle.df_labels.specs.Graphs.{Graph, ComesFrom, HasArcs, node_at}
use Rattle.df_build_cond.specs.Growth as grow
use Rattle.df_build_cond.specs.Growth.{Stood, node, whole}
use Rattle.df_build_cond.specs.Gates as gates
use Rattle.df_build_cond.specs.Gates.{gate_kind}
use Rattle.df_build_cond.specs.Noted.{Noted, noted}
use Rattle.df_build_cond.specs.Arms as arms
use Rattle.df_build_cond.specs.Arms.{Arm, Passed, Crossed}
use Rattle.df_build_cond.specs.Within.{NodeBelow, ArcsBelow, FlowBelow, ArmBelow, StandsAfter, PassesAfter, CrossesAfter}
use Rattle.df_build_cond.specs.Laws.{GatesHaveArcs}
use Rattle.df_build_cond.proofs.Lists.{all_map, all_over, all_push}

-- ---- what is among the first n cells is among the first m

comes_more : (n m : ℕ) → n ≤ m → (x : Feed) → ComesFrom n x → ComesFrom m x
comes_more n m le x comes u is = let less = comes u is in omega (arith, le, less)

pub arcs_more : (n m : ℕ) → n ≤ m → (g : Graph) → ArcsBelow n g → ArcsBelow m g
arcs_more n m le g arcs = all_map (NodeBelow n) (NodeBelow m) (λ node all. all_map (ComesFrom n) (ComesFrom m) (comes_more n m le) node.ports all) g arcs

pub flow_more : (n m : ℕ) → n ≤ m → (f : Flow) → FlowBelow n f → FlowBelow m f
flow_more n m le (Constant v) below = tt
flow_more n m le (Cell c) below = omega (arith, le, below)

pub flows_more : (n m : ℕ) → n ≤ m → (fs : List Flow) → AllByRecursion (FlowBelow n) fs → AllByRecursion (FlowBelow m) fs
flows_more n m le fs all = all_map (FlowBelow n) (FlowBelow m) (flow_more n m le) fs all

pub arm_more : (n m : ℕ) → n ≤ m → (a : Arm) → ArmBelow n a → ArmBelow m a
arm_more n m le a below =
    let c = below.control in
    record { control = omega (arith, le, c); gates = λ u d is. let e = below.gates u d is in omega (arith, le, e) }

pub arms_more : (n m : ℕ) → n ≤ m → (open_arms : List Arm) → AllByRecursion (ArmBelow n) open_arms → AllByRecursion (ArmBelow m) open_arms
arms_more n m le open_arms all = all_map (ArmBelow n) (ArmBelow m) (arm_more n m le) open_arms all

-- ---- a cell more

comes_flow : (n : ℕ) (f : Flow) → FlowBelow n f → ComesFrom n (feed_of f)
comes_flow n (Constant v) below u is = absurd (none is)
  where
    none : {u : CellId} → None ≡ Some u → ⊥
    none e = cc
comes_flow n (Cell c) below u is = let e : c ≡ u.0 = ap first is in omega (arith, below, e)
  where
    first : Option CellId → ℕ
    first (Some u) = u.0
    first None = 0

pub node_below : (n : ℕ) (it : Kind) (flows : List Flow) → AllByRecursion (FlowBelow n) flows → NodeBelow n (node it flows)
node_below n it flows all = all_over feed_of (FlowBelow n) (ComesFrom n) (comes_flow n) flows all

pub cell_arcs : (n : ℕ) (g : Graph) (it : Kind) (flows : List Flow) → ArcsBelow n g → AllByRecursion (FlowBelow n) flows → ArcsBelow n (grow.with_cell whole g it flows)
cell_arcs n g it flows arcs all = all_push (NodeBelow n) g (node it flows) arcs (node_below n it flows all)

pub length_cell : (g : Graph) (it : Kind) (flows : List Flow) → length (grow.with_cell whole g it flows) ≡ length g + 1
length_cell g it flows = length_push g (node it flows)

pub pushed_after : (g : Graph) (it : Kind) (flows : List Flow) → ArcsBelow (length g) g → AllByRecursion (FlowBelow (length g)) flows → StandsAfter g (grow.pushed whole g it flows)
pushed_after g it flows arcs all =
    let count = length_cell g it flows in
    let le : length g ≤ length (grow.with_cell whole g it flows) = omega (arith, count) in
    record { more = le; arcs = arcs_more (length g) _ le _ (cell_arcs (length g) g it flows arcs all); cell = omega (arith, count) }

pub ruled_after : (g : Graph) (it : Kind) (flows : List Flow) (runs : List Run) → ArcsBelow (length g) g → AllByRecursion (FlowBelow (length g)) flows
    → StandsAfter g (gates.ruled whole g it flows runs)
unfolding gates.ruled
ruled_after g it flows runs arcs all =
    let m = length g in
    let g1 = grow.with_cell whole g it (Cell (m + 1) ∷ flows) in
    let g2 = grow.with_cell whole g1 (kind.Ctl runs) [] in
    let e1 : length g1 ≡ m + 1 = length_cell g it (Cell (m + 1) ∷ flows) in
    let e2 : length g2 ≡ length g1 + 1 = length_cell g1 (kind.Ctl runs) [] in
    let l = length g2 in
    let le : m ≤ l = omega (arith, e1, e2) in
    record {
      more = le;
      arcs = cell_arcs l g1 (kind.Ctl runs) []
          (cell_arcs l g it (Cell (m + 1) ∷ flows) (arcs_more m l le g arcs) (omega (arith, e1, e2), flows_more m l le flows all)) tt;
      cell = omega (arith, e1, e2);
    }

-- ---- arms

pub noted_all : (P : ℕ → Type 0) (table : Noted) (v c : ℕ) → P c → ((u d : ℕ) → table u ≡ Some d → P d) → (u d : ℕ) → noted table v c u ≡ Some d → P d
unfolding noted
noted_all P table v c new old u d = go (v == u)
  where
    go : (t : Bool) → (if t then Some c else table u) ≡ Some d → P d
    go true is = let e : c ≡ d = cc in subst P e new
    go false is = old u d is

passed_after : (arm : Arm) (g : Graph) (u : ℕ) (met : Option ℕ) → arm.gates u ≡ met → ArcsBelow (length g) g → ArmBelow (length g) arm → u < length g
    → PassesAfter g (arms.passed whole arm g u met)
passed_after arm g u (Some d) is arcs below less = record { more = omega arith; arcs = arcs; arm = below; flow = below.gates u d is }
passed_after arm g u None is arcs below less =
    let flows = Cell arm.control ∷ Cell u ∷ [] in
    let s = pushed_after g (gate_kind arm.side) flows arcs (below.control, (less, tt)) in
    let n = length (grow.with_cell whole g (gate_kind arm.side) flows) in
    let more = arm_more (length g) n s.more arm below in
    record { more = s.more; arcs = s.arcs; arm = record { control = more.control; gates = noted_all (λ d. d < n) arm.gates u (length g) s.cell more.gates }; flow = s.cell }

pub pass_after : (arm : Arm) (g : Graph) (flow : Flow) → ArcsBelow (length g) g → ArmBelow (length g) arm → FlowBelow (length g) flow → PassesAfter g (arms.pass whole arm g flow)
pass_after arm g (Constant v) arcs below there = record { more = omega arith; arcs = arcs; arm = below; flow = tt }
pass_after arm g (Cell u) arcs below less = passed_after arm g u (arm.gates u) refl arcs below less

abbrev pub next : Arm → Crossed → Crossed
next arm outer = let p = arms.pass whole arm outer.graph outer.flow in record { graph = p.graph; arms = p.arm ∷ outer.arms; flow = p.flow }

next_after : (arm : Arm) (g : Graph) (outer : Crossed) → ArmBelow (length g) arm → CrossesAfter g outer → CrossesAfter g (next arm outer)
next_after arm g outer below good =
    let p = pass_after arm outer.graph outer.flow good.arcs (arm_more _ _ good.more arm below) good.flow in
    let le = good.more in
    let le' = p.more in
    record { more = omega (arith, le, le'); arcs = p.arcs; arms = (p.arm, arms_more _ _ p.more outer.arms good.arms); flow = p.flow }

pub cross_after : (level : ℕ) (g : Graph) (open_arms : List Arm) (flow : Flow) → ArcsBelow (length g) g → AllByRecursion (ArmBelow (length g)) open_arms
    → FlowBelow (length g) flow → CrossesAfter g (arms.cross whole level g open_arms flow)
cross_after level g [] flow arcs all below = record { more = omega arith; arcs = arcs; arms = tt; flow = below }
cross_after level g (arm ∷ rest) flow arcs all below =
    elim (nat_lt (length rest) level) as (λ t. CrossesAfter g (if t then record { graph = g; arms = arm ∷ rest; flow = flow } else next arm (arms.cross whole level g rest flow))) [
      | true ↦ record { more = omega arith; arcs = arcs; arms = all; flow = below }
      | false ↦ next_after arm g (arms.cross whole level g rest flow) all.0 (cross_after level g rest flow arcs all.1 below)
    ]

-- ---- by numbers

node_at_below : (n : ℕ) (g : Graph) (c : ℕ) → ArcsBelow n g → NodeBelow n (node_at g c)
node_at_below n [] c arcs = tt
node_at_below n (x ∷ g) zero arcs = arcs.0
node_at_below n (x ∷ g) (suc c) arcs = node_at_below n g c arcs.1

pub port_below : (n : ℕ) (ports : List Feed) → AllByRecursion (ComesFrom n) ports → (p : ℕ) (u : CellId) → cell_from (slice_get ports p) ≡ Some u → u.0 < n
port_below n [] all p u is = absurd (none is)
  where
    none : None ≡ Some u → ⊥
    none e = cc
port_below n (x ∷ ports) all zero u is = all.0 u is
port_below n (x ∷ ports) all (suc p) u is = port_below n ports all.1 p u is

pub has_arcs : (g : Graph) → ArcsBelow (length g) g → HasArcs g
has_arcs g arcs c p u is = port_below (length g) (node_at g c).ports (node_at_below (length g) g c arcs) p u is

pub gates_have_arcs : GatesHaveArcs
gates_have_arcs = record {
  flow_more = flow_more;
  arcs_more = arcs_more;
  arms_more = arms_more;
  cell = cell_arcs;
  pushed = pushed_after;
  ruled = ruled_after;
  pass = pass_after;
  cross = cross_after;
  there = has_arcs;
}
