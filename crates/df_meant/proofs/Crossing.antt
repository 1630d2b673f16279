-- Values that go into arms, through gates.
use Rattle.std.proofs.Common.{◌≡◌, ℕ, suc, ◌≤◌, Bool, true, false, List, [], ◌∷◌, ◌++◌, length, Option, Some, None, refl, sym, ◌∙◌, ap, subst, arith}
use Rattle.std.specs.Prelude.{nat_lt, if◌then◌else◌, ◌==◌}
use Rattle.std.proofs.lemmas.Bool.{lt-ltb, le-ltb, eqb-true}
use Rattle.df_values.specs.declared.values.Value.{Value}
use Rattle.df_cells.specs.Shifts.{is_truth}
use Rattle.df_labels.specs.Graphs.{Graph}
use Rattle.df_labels.specs.Labels.{Turn}
use Rattle.df_labels.specs.declared.graphs.Flow.{Flow}
use Rattle.df_labels.specs.declared.graphs.Flow.TheVariants.{Constant, Cell}
use Rattle.df_build_terms.specs.declared.building.Local.{Local}
use Rattle.df_labels.specs.Flows.{arc}
use Rattle.df_build_cond.specs.Noted.{noted}
use Rattle.df_build_cond.specs.Arms.{Arm, Crossed, pass, passed, cross}
use Rattle.df_build_cond.specs.Gates.{gate_kind as gate}
use Rattle.df_meant.specs.Sites.{Ends, Label, Site, site_of, Stands, Meeting, Extends}
use Rattle.df_meant.specs.Arms.{Setting, Under, turns, turns_at, IsMet, ArmHolds, ArmsHold, Kept, Known}
use Rattle.df_build_cond.specs.Growth.{whole}
use Rattle.df_meant.proofs.Streams.{AreTurns, turns_kept}
use Rattle.df_meant.proofs.Groups.{same_some, extends_same, extends_both, stands_more, gate_stands}
use Rattle.df_meant.proofs.Fed.{IsMade}
use Rattle.df_meant.proofs.Cells.{gate_made}

pub turns_are : (all : List Turn) (s : List Setting) → AreTurns all → AreTurns (turns all s)
turns_are all [] r = r
turns_are all (Under g side ∷ s) r = turns_kept (λ t. is_truth side (g t)) (turns all s) (turns_are all s r)

-- ---- a longer graph

met_more : (old new : Site) (outer inner : List Turn) (arm : Arm) → Extends old new → IsMet old outer inner arm → IsMet new outer inner arm
met_more old new outer inner arm e met u d is = let m = met u d is in (m.0, stands_more old new (Cell u) outer m.0 e m.1, stands_more old new (Cell d) inner m.0 e m.2)

arm_more : (old new : Site) (outer inner : List Turn) (arm : Arm) (g : Turn → Value) (side : Bool) → Extends old new → ArmHolds old outer inner arm g side → ArmHolds new outer inner arm g side
arm_more old new outer inner arm g side e h =
    record { side = h.side; control = stands_more old new (Cell arm.control) outer g e h.control; gates = met_more old new outer inner arm e h.gates }

pub arms_more : (old new : Site) (all : List Turn) (arms : List Arm) (s : List Setting) → Extends old new → ArmsHold old all arms s → ArmsHold new all arms s
arms_more old new all [] [] e h = tt
arms_more old new all (arm ∷ arms) (Under g side ∷ s) e h = (arm_more old new (turns all s) (turns all (Under g side ∷ s)) arm g side e h.0, arms_more old new all arms s e h.1)
arms_more old new all [] (x ∷ s) e h = absurd h
arms_more old new all (arm ∷ arms) [] e h = absurd h

pub arms_count : (site : Site) (all : List Turn) (arms : List Arm) (s : List Setting) → ArmsHold site all arms s → length arms ≡ length s
arms_count site all [] [] h = refl
arms_count site all (arm ∷ arms) (Under g side ∷ s) h = ap suc (arms_count site all arms s h.1)
arms_count site all [] (x ∷ s) h = absurd h
arms_count site all (arm ∷ arms) [] h = absurd h

-- ---- levels

-- at the present depth all settings pass
pub turns_here : (level : ℕ) (all : List Turn) (s : List Setting) → length s ≤ level → turns_at level all s ≡ turns all s
turns_here level all [] h = refl
turns_here level all (x ∷ s) h =
    ap (λ b. if b then turns all (x ∷ s) else turns_at level all s) (lt-ltb (length s) level (omega (arith, h)))

-- one arm more doesn't count for what was made outside it
pub turns_inside : (level : ℕ) (all : List Turn) (x : Setting) (s : List Setting) → level ≤ length s → turns_at level all (x ∷ s) ≡ turns_at level all s
turns_inside level all x s h = ap (λ b. if b then turns all (x ∷ s) else turns_at level all s) (le-ltb (length s) level h)

-- at level 0 none passes
pub turns_outside : (all : List Turn) (s : List Setting) → turns_at 0 all s ≡ all
turns_outside all [] = refl
turns_outside all (x ∷ s) = turns_inside 0 all x s (omega arith) ∙ turns_outside all s

-- ---- one arm

-- labels of what was passed, or crossed
abbrev pub IsReached : (ℕ → Bool) → Ends → List Turn → List Setting → Graph → List Label → Graph → List Arm → Flow → (Turn → Value) → Type 0
IsReached is_open inputs all s graph labels reached arms flow f =
    (more : List Label) × Extends (site_of graph labels) (site_of reached more) × Meeting is_open reached inputs more
    × ArmsHold (site_of reached more) all arms s × Stands (site_of reached more) flow (turns all s) f

-- a gate more in the table of an arm
noted_met : (site : Site) (outer inner : List Turn) (arm : Arm) (u d : ℕ) (f : Turn → Value) → IsMet site outer inner arm → Stands site (Cell u) outer f → Stands site (Cell d) inner f
    → IsMet site outer inner (record arm { gates = noted arm.gates u d })
unfolding noted
noted_met site outer inner arm u d f met su sd v e is = go (u == v) refl is
  where
    go : (b : Bool) → (u == v) ≡ b → (if b then Some d else arm.gates v) ≡ Some e → (h : Turn → Value) × Stands site (Cell v) outer h × Stands site (Cell e) inner h
    go true same is = (f, subst (λ w. Stands site (Cell w) outer f) (eqb-true u v same) su, subst (λ w. Stands site (Cell w) inner f) (same_some d e is) sd)
    go false same is = met v e is

module _ (is_open : ℕ → Bool) (inputs : Ends) (all : List Turn) (rising : AreTurns all) where
  abbrev Reached : List Setting → Graph → List Label → Graph → List Arm → Flow → (Turn → Value) → Type 0
  Reached s graph labels reached arms flow f = IsReached is_open inputs all s graph labels reached arms flow f

  passed_ok : (g : Turn → Value) (side : Bool) (s : List Setting) (arm : Arm) (arms : List Arm) (graph : Graph) (labels : List Label) (u : ℕ) (f : Turn → Value) (met : Option ℕ) → arm.gates u ≡ met → arm.side ≡ side
      → Meeting is_open graph inputs labels → ArmsHold (site_of graph labels) all (arm ∷ arms) (Under g side ∷ s) → Stands (site_of graph labels) (Cell u) (turns all s) f
      → (let p = passed whole arm graph u met in Reached (Under g side ∷ s) graph labels p.graph (p.arm ∷ arms) p.flow f)
  passed_ok g side s arm arms graph labels u f (Some d) is which meet holds stands =
      let site = site_of graph labels in
      let m = holds.0.gates u d is in
      (labels, extends_same site, meet, holds, gate_stands site u d (turns all s) (λ t. is_truth side (g t)) f m.0 m.1 m.2 stands)
  passed_ok g side s arm arms graph labels u f None is which meet holds stands =
      let ts = turns all s in
      let inner = turns all (Under g side ∷ s) in
      let old = site_of graph labels in
      let grown = graph ++ record { kind = gate arm.side; ports = arc arm.control ∷ arc u ∷ [] } ∷ [] in
      let m = subst (λ b. IsMade is_open inputs inner graph labels (graph ++ record { kind = gate b; ports = arc arm.control ∷ arc u ∷ [] } ∷ []) (Cell (length graph)) f) (sym which)
      (gate_made is_open inputs graph labels ts meet (turns_are all s rising) side arm.control u g f holds.0.control stands) in
      let new = site_of grown m.0 in
      let more = arms_more old new all (arm ∷ arms) (Under g side ∷ s) m.1 holds in (
        m.0,
        m.1,
        m.2,
        (record { side = more.0.side; control = more.0.control; gates = noted_met new ts inner arm u (length graph) f more.0.gates (stands_more old new (Cell u) ts f m.1 stands) m.3 }, more.1),
        m.3,
      )

  pass_ok : (g : Turn → Value) (side : Bool) (s : List Setting) (arm : Arm) (arms : List Arm) (graph : Graph) (labels : List Label) (flow : Flow) (f : Turn → Value)
      → Meeting is_open graph inputs labels → ArmsHold (site_of graph labels) all (arm ∷ arms) (Under g side ∷ s) → Stands (site_of graph labels) flow (turns all s) f
      → (let p = pass whole arm graph flow in Reached (Under g side ∷ s) graph labels p.graph (p.arm ∷ arms) p.flow f)
  pass_ok g side s arm arms graph labels (Constant v) f meet holds stands = (labels, extends_same (site_of graph labels), meet, holds, stands)
  pass_ok g side s arm arms graph labels (Cell u) f meet holds stands = passed_ok g side s arm arms graph labels u f (arm.gates u) refl holds.0.side meet holds stands

  -- ---- all arms from a level on

  abbrev cross_next : Arm → Crossed → Crossed
  cross_next arm outer = let p = pass whole arm outer.graph outer.flow in record { graph = p.graph; arms = p.arm ∷ outer.arms; flow = p.flow }

  next_ok : (g : Turn → Value) (side : Bool) (s : List Setting) (arm : Arm) (arms : List Arm) (graph : Graph) (labels : List Label) (outer : Crossed) (f : Turn → Value)
      → ArmsHold (site_of graph labels) all (arm ∷ arms) (Under g side ∷ s) → Reached s graph labels outer.graph outer.arms outer.flow f
      → (let c = cross_next arm outer in Reached (Under g side ∷ s) graph labels c.graph c.arms c.flow f)
  next_ok g side s arm arms graph labels outer f holds r =
      let old = site_of graph labels in
      let middle = site_of outer.graph r.0 in
      let p = pass_ok g side s arm outer.arms outer.graph r.0 outer.flow f r.2 (arm_more old middle (turns all s) (turns all (Under g side ∷ s)) arm g side r.1 holds.0, r.3) r.4 in
      let c = cross_next arm outer in
      (p.0, extends_both old middle (site_of c.graph p.0) r.1 p.1, p.2, p.3, p.4)

  pub cross_ok : (level : ℕ) (s : List Setting) (arms : List Arm) (graph : Graph) (labels : List Label) (flow : Flow) (f : Turn → Value)
      → Meeting is_open graph inputs labels → ArmsHold (site_of graph labels) all arms s → Stands (site_of graph labels) flow (turns_at level all s) f
      → (let c = cross whole level graph arms flow in Reached s graph labels c.graph c.arms c.flow f)
  cross_ok level [] [] graph labels flow f meet holds stands = (labels, extends_same (site_of graph labels), meet, tt, stands)
  cross_ok level (x ∷ s) [] graph labels flow f meet holds stands = absurd holds
  cross_ok level [] (arm ∷ arms) graph labels flow f meet holds stands = absurd holds
  cross_ok level (Under g side ∷ s) (arm ∷ arms) graph labels flow f meet holds stands =
      let old = site_of graph labels in
      let count = arms_count old all arms s holds.1 in
      let inner = turns all (Under g side ∷ s) in
      let outer = turns_at level all s in
      elim (nat_lt (length arms) level) as (λ t. Stands old flow (if t then inner else outer) f
      → (let c = (if t then record { graph = graph; arms = arm ∷ arms; flow = flow } else cross_next arm (cross whole level graph arms flow)) in Reached (Under g side ∷ s) graph labels c.graph c.arms c.flow f)) [
        | true ↦ λ st. (labels, extends_same old, meet, holds, st)
        | false ↦ λ st. next_ok g side s arm arms graph labels (cross whole level graph arms flow) f holds (cross_ok level s arms graph labels flow f meet holds.1 st)
      ] (subst (λ n. Stands old flow (if nat_lt n level then inner else outer) f) (sym count) stands)

-- ---- locals

pub known_more : (old new : Site) (all : List Turn) (s : List Setting) (ls : List Local) (fs : List (Turn → Value)) → Extends old new → Known old all s ls fs → Known new all s ls fs
known_more old new all s [] [] e h = tt
known_more old new all s (l ∷ ls) (f ∷ fs) e h = (record { level = h.0.level; stands = stands_more old new l.flow (turns_at l.arms all s) f e h.0.stands }, known_more old new all s ls fs e h.1)
known_more old new all s [] (f ∷ fs) e h = absurd h
known_more old new all s (l ∷ ls) [] e h = absurd h

pub known_inside : (site : Site) (all : List Turn) (x : Setting) (s : List Setting) (ls : List Local) (fs : List (Turn → Value)) → Known site all s ls fs → Known site all (x ∷ s) ls fs
known_inside site all x s [] [] h = tt
known_inside site all x s (l ∷ ls) (f ∷ fs) h =
    (record { level = let e = h.0.level in omega (arith, e); stands = subst (λ ts. Stands site l.flow ts f) (sym (turns_inside l.arms all x s h.0.level)) h.0.stands }, known_inside site all x s ls fs h.1)
known_inside site all x s [] (f ∷ fs) h = absurd h
known_inside site all x s (l ∷ ls) [] h = absurd h

-- one local more, at the end
pub known_bound : (site : Site) (all : List Turn) (s : List Setting) (ls : List Local) (fs : List (Turn → Value)) (l : Local) (f : Turn → Value) → Known site all s ls fs → Kept site all s l f → Known site all s (ls ++ l ∷ []) (fs ++ f ∷ [])
known_bound site all s [] [] l f h k = (k, tt)
known_bound site all s (x ∷ ls) (y ∷ fs) l f h k = (h.0, known_bound site all s ls fs l f h.1 k)
known_bound site all s [] (y ∷ fs) l f h k = absurd h
known_bound site all s (x ∷ ls) [] l f h k = absurd h
