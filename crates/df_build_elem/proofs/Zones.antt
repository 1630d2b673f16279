-- Every skeleton has zones. A block takes a zone above all that were there: its frame and its element share it.
use Rattle.std.proofs.Common.{◌≡◌, ◌≤◌, ◌<◌, ◌+◌, ◌-◌, ℕ, ℤ, pos, Bool, true, false, zero, suc, List, [], ◌∷◌, length, fold, Option, Some, None, refl, sym, subst, inl, inr, ◌∙◌, arith}
use Rattle.std.specs.List.{AllByRecursion}
use Rattle.std.specs.Prelude.{if◌then◌else◌, slice_get, ◌==◌}
use Rattle.df_values.specs.Inputs.{input_length}
use Rattle.df_values.specs.declared.inputs.Extent.{Extent}
use Rattle.df_values.specs.declared.inputs.Input.{Input}
use Rattle.df_values.specs.declared.kinds.Op.{Op}
use Rattle.df_values.specs.declared.values.Value.{Value}
use Rattle.df_cells.specs.declared.kinds.Kind.{Kind}
use Rattle.df_cells.specs.declared.kinds.Kind.TheVariants as kind
use Rattle.df_cells.specs.declared.kinds.Run.{Run}
use Rattle.df_labels.specs.Graphs.{Graph, node_at}
use Rattle.df_labels.specs.Patterns.{pattern, steady}
use Rattle.df_labels.specs.declared.graphs.Flow.{Flow}
use Rattle.df_labels.specs.declared.graphs.Flow.TheVariants.{Constant, Cell}
use Rattle.df_core.specs.Meaning.{begun, or_undef}
use Rattle.df_core.specs.declared.flat.Block.{Block}
use Rattle.df_core.specs.declared.flat.Body.{Body}
use Rattle.df_core.specs.declared.flat.Body.TheVariants as body
use Rattle.df_core.specs.declared.flat.Flat.{Flat}
use Rattle.df_core.specs.declared.terms.Term.{Term}
use Rattle.df_build_cond.specs.Gates.{ruled, patterned}
use Rattle.df_build_cond.specs.Growth.{Stood, Grown, whole, with_cell, pushed}
use Rattle.df_build_cond.specs.InZone.{IsSteady, FlowSuits, FlowUnder, KeepsCells}
use Rattle.df_build_cond.specs.Laws.{GatesStayInZone}
use Rattle.df_build_cond.specs.Orderly.{zone_at, Orderly}
use Rattle.df_build_access.specs.Laws.{ArraySuits}
use Rattle.df_build_loops.specs.Folds.{loop_begun, loop_ended}
use Rattle.df_build_loops.specs.Frames.{opened}
use Rattle.df_build_loops.specs.Laws.{IsOpen, LoopsStayInZone}
use Rattle.df_build_terms.specs.Building as building
use Rattle.df_build_terms.specs.InZone.{ScalarSuits, OutsideSuits, TermsStayInZone}
use Rattle.df_build_terms.specs.Outer.{single, many}
use Rattle.df_build_terms.specs.declared.building.Outside.{Outside}
use Rattle.df_build_terms.specs.declared.building.Outside.TheVariants.{Single, Many}
use Rattle.df_build_terms.specs.declared.building.Turns.{Turns}
use Rattle.df_build_elem.specs.Blocks.{Placed, turns_of, element, alone, listed, constructed, folded_from, folded_first, folded_by, folded, grown_by, recurred, placed, shown}
use Rattle.df_build_elem.specs.Laws.{ProgramsAreOrderly}
use Rattle.df_build_elem.specs.Program.{Laid, Shown, input_at, laid_input, laid_block, laid, result_of, result_more, program_on}
use Rattle.df_build_elem.proofs.Lists.{all_map, all_push, all_get, fold_keeps}

none_at : {X : Type 0} {x : X} → None ≡ Some x → ⊥
none_at e = cc

-- ---- a zone above all

total : List ℕ → ℕ
total [] = 0
total (z ∷ zones) = z + total zones

zone_below : (zones : List ℕ) (c : ℕ) → zone_at zones c ≤ total zones
unfolding total
zone_below [] c = omega arith
zone_below (z ∷ zones) zero = omega arith
zone_below (z ∷ zones) (suc c) = let less = zone_below zones c in omega (arith, less)

-- two above, as an access may take two
above : List ℕ → ℕ
above zones = total zones + 2

two_below : (zones : List ℕ) (c : ℕ) → zone_at zones c + 1 < above zones
unfolding above
two_below zones c = let less = zone_below zones c in omega (arith, less)

is_above : (zones : List ℕ) → 0 < above zones
unfolding above
is_above zones = omega arith

-- ---- what later blocks may take

-- a cell that is there, and may be the control of an arm
pub record MayBeTaken (g : Graph) (c : ℕ) : Type 0 where
  pub there : c < length g
  pub steady : IsSteady (node_at g c).kind

abbrev pub FlowMayBeTaken : Graph → Flow → Type 0
FlowMayBeTaken g (Constant v) = Unit {0}
FlowMayBeTaken g (Cell c) = MayBeTaken g c

unfoldable pub OutsideMayBeTaken : Graph → Outside → Type 0
OutsideMayBeTaken g (Single f) = FlowMayBeTaken g f
OutsideMayBeTaken g (Many a) = MayBeTaken g a.cell

-- ---- after an older graph with zones: zones for all cells, and what was made may be taken

record Stands (old : Graph) (zones : List ℕ) (s : Stood) : Type 0 where
  more : List ℕ
  orderly : Orderly more s.graph
  kept : KeepsCells old zones s.graph more
  cell : MayBeTaken s.graph s.cell

record Grows (old : Graph) (zones : List ℕ) (w : Grown) : Type 0 where
  more : List ℕ
  orderly : Orderly more w.graph
  kept : KeepsCells old zones w.graph more
  flow : FlowMayBeTaken w.graph w.flow

record Places (old : Graph) (zones : List ℕ) (p : Placed) : Type 0 where
  more : List ℕ
  orderly : Orderly more p.graph
  kept : KeepsCells old zones p.graph more
  outside : OutsideMayBeTaken p.graph p.outside

pub record HasZones (outer : List Outside) (g : Graph) : Type 0 where
  pub zones : List ℕ
  pub orderly : Orderly zones g
  pub outside : AllByRecursion (OutsideMayBeTaken g) outer

module _ (gates : GatesStayInZone) (loops : LoopsStayInZone) (terms : TermsStayInZone) where
  -- ---- more cells

  module _ (g h : Graph) (x y : List ℕ) (kept : KeepsCells g x h y) where
    cell_more : (c : ℕ) → MayBeTaken g c → MayBeTaken h c
    cell_more c s =
        let less = s.there in
        let longer = kept.longer in
        record { there = omega (arith, less, longer); steady = subst IsSteady (sym (kept.kind c s.there)) s.steady }

    flow_more : (f : Flow) → FlowMayBeTaken g f → FlowMayBeTaken h f
    flow_more (Constant v) s = tt
    flow_more (Cell c) s = cell_more c s

    outside_more : (o : Outside) → OutsideMayBeTaken g o → OutsideMayBeTaken h o
    unfolding OutsideMayBeTaken
    outside_more (Single f) s = flow_more f s
    outside_more (Many a) s = cell_more a.cell s

    all_more : (outer : List Outside) → AllByRecursion (OutsideMayBeTaken g) outer
        → AllByRecursion (OutsideMayBeTaken h) outer
    all_more outer all = all_map (OutsideMayBeTaken g) (OutsideMayBeTaken h) outside_more outer all

  then_stands : (g h : Graph) (x y : List ℕ) (s : Stood) → KeepsCells g x h y → Stands h y s → Stands g x s
  then_stands g h x y s kept good =
      record { more = good.more; orderly = good.orderly; kept = gates.kept_trans g h s.graph x y good.more kept good.kept; cell = good.cell }

  -- a value that may be taken lies under a zone above all
  under : (g : Graph) (zones : List ℕ) (f : Flow) → FlowMayBeTaken g f → FlowUnder g zones (above zones) f
  under g zones (Constant v) s = tt
  under g zones (Cell c) s = let less = two_below zones c in (s.there, omega (arith, less))

  suits : (g : Graph) (zones : List ℕ) (first : ℕ) (f : Flow) → FlowMayBeTaken g f
      → FlowSuits g zones (above zones) first f
  suits g zones first (Constant v) s = tt
  suits g zones first (Cell c) s =
      let less = two_below zones c in
      let below : zone_at zones c < above zones = omega (arith, less) in
      record { there = s.there; steady = s.steady; zone = inl below }

  taken : (g : Graph) (zones : List ℕ) (z first : ℕ) (f : Flow) → FlowSuits g zones z first f → FlowMayBeTaken g f
  taken g zones z first (Constant v) s = tt
  taken g zones z first (Cell c) s = record { there = s.there; steady = s.steady }

  -- a cell of its own, above all that it takes
  made_of : (g : Graph) (it : Kind) (flows : List Flow) (zones : List ℕ) → Orderly zones g
      → AllByRecursion (FlowMayBeTaken g) flows → IsSteady it
      → Stands g zones (pushed whole g it flows)
  made_of g it flows zones o all steady =
      let s = gates.pushed g it flows zones (above zones) 0 o (omega arith)
      (all_map (FlowMayBeTaken g) (FlowSuits g zones (above zones) 0) (suits g zones 0) flows all) steady in
      let c = s.cell in
      record { more = s.more; orderly = s.orderly; kept = s.kept; cell = record { there = c.there; steady = c.steady } }

  ruled_of : (g : Graph) (it : Kind) (flows : List Flow) (runs : List Run) (zones : List ℕ) → Orderly zones g
      → AllByRecursion (FlowMayBeTaken g) flows → IsSteady it
      → Stands g zones (ruled whole g it flows runs)
  ruled_of g it flows runs zones o all steady =
      let s = gates.ruled g it flows runs zones (above zones) o (is_above zones)
      (all_map (FlowMayBeTaken g) (FlowUnder g zones (above zones)) (under g zones) flows all) in
      record { more = s.more; orderly = s.orderly; kept = s.kept; cell = record { there = s.there; steady = subst IsSteady (sym s.kind) steady } }

  -- ---- the element of a block

  -- what stands outside suits a zone above all, also once there is a frame
  outside_suits : (g h : Graph) (zones more : List ℕ) → KeepsCells g zones h more
      → (turns : Turns) (outer : List Outside) → AllByRecursion (OutsideMayBeTaken g) outer
      → ((m : ℕ) → turns.own ≡ Some m → IsOpen h more (above zones) turns.n m)
      → OutsideSuits h more (above zones) turns outer
  unfolding OutsideMayBeTaken
  outside_suits g h zones more kept turns outer all own = record {
    above = is_above zones;
    own = own;
    flows = λ number. flow number (slice_get outer number) refl;
    arrays = λ number. array number (slice_get outer number) refl;
  }
    where
      below : (c : ℕ) → MayBeTaken g c → zone_at more c + 1 < above zones
      below c s = let less = two_below zones c in let same = kept.zone c s.there in omega (arith, less, same)

      scalar : (f : Flow) → FlowMayBeTaken g f → ScalarSuits h more (above zones) f
      scalar (Constant v) s = tt
      scalar (Cell c) s = let t = cell_more g h zones more kept c s in let less = below c s in (t.there, t.steady, omega (arith, less))

      flow : (number : ℕ) (o : Option Outside) → slice_get outer number ≡ o
          → ScalarSuits h more (above zones) (single o)
      flow number (Some (Single f)) is = scalar f (all_get (OutsideMayBeTaken g) outer number (Single f) all is)
      flow number (Some (Many a)) is = tt
      flow number None is = tt

      array : (number : ℕ) (o : Option Outside) → slice_get outer number ≡ o → ArraySuits h more (above zones) (many o)
      array number (Some (Single f)) is = inl refl
      array number (Some (Many a)) is =
          let s = all_get (OutsideMayBeTaken g) outer number (Many a) all is in
          let t = cell_more g h zones more kept a.cell s in
          inr (t.there, t.steady, below a.cell s)
      array number None is = inl refl

  record ElementIn (z first : ℕ) (old : Graph) (zones : List ℕ) (w : Grown) : Type 0 where
    more : List ℕ
    orderly : Orderly more w.graph
    kept : KeepsCells old zones w.graph more
    flow : FlowSuits w.graph more z first w.flow

  element_in : (z first : ℕ) (turns : Turns) (outer : List Outside) (x : Term) (g : Graph) (zones : List ℕ)
      → Orderly zones g → first ≤ length g
      → OutsideSuits g zones z turns outer → ElementIn z first g zones (element whole turns outer x g)
  unfolding element
  element_in z first turns outer x g zones o le os =
      let e = terms z first turns outer x [] (building.begun g) zones tt os
      (record {
        orderly = o;
        begins = le;
        met = record { index = λ c is. absurd (none_at is); previous = λ c is. absurd (none_at is); holds = λ x c is. absurd (none_at is); accesses = λ x c f is. absurd (none_at is) };
        arms = tt;
      }) in
      let s = e.sound in
      record { more = e.more; orderly = s.orderly; kept = e.kept; flow = e.flow }

  no_own : (lo : ℤ) (n : ℕ) (h : Graph) (more : List ℕ) (z m : ℕ) → (turns_of lo n).own ≡ Some m → IsOpen h more z n m
  no_own lo n h more z m is = absurd (none_at is)

  -- in a block of its own
  element_grows : (lo : ℤ) (n : ℕ) (outer : List Outside) (x : Term) (g : Graph) (zones : List ℕ) → Orderly zones g
      → AllByRecursion (OutsideMayBeTaken g) outer
      → Grows g zones (element whole (turns_of lo n) outer x g)
  element_grows lo n outer x g zones o all =
      let w = element whole (turns_of lo n) outer x g in
      let z = above zones in
      let e = element_in z 0 (turns_of lo n) outer x g zones o (omega arith)
      (outside_suits g g zones zones (gates.kept_refl g zones) (turns_of lo n) outer all (no_own lo n g zones z)) in
      record { more = e.more; orderly = e.orderly; kept = e.kept; flow = taken w.graph e.more z 0 w.flow e.flow }

  -- ---- blocks

  listed_stands : (n : ℕ) (g : Graph) (zones : List ℕ) (flow : Flow) → Orderly zones g → FlowMayBeTaken g flow
      → Stands g zones (listed whole n g flow)
  listed_stands n g zones (Constant v) o s = made_of g (kind.Ctl (steady n v)) [] zones o tt (gates.listed n v)
  listed_stands n g zones (Cell c) o s = record { more = zones; orderly = o; kept = gates.kept_refl g zones; cell = s }

  grown_listed : (n : ℕ) (g : Graph) (zones : List ℕ) (w : Grown) → Grows g zones w
      → Stands g zones (listed whole n w.graph w.flow)
  grown_listed n g zones w good =
      then_stands g w.graph zones good.more (listed whole n w.graph w.flow) good.kept (listed_stands n w.graph good.more w.flow good.orderly good.flow)

  empty_stands : (g : Graph) (zones : List ℕ) → Orderly zones g → Stands g zones (pushed whole g (kind.Ctl []) [])
  empty_stands g zones o = made_of g (kind.Ctl []) [] zones o tt (λ side. refl)

  constructed_stands : (lo : ℤ) (n : ℕ) (outer : List Outside) (x : Term) (g : Graph) (zones : List ℕ) → Orderly zones g
      → AllByRecursion (OutsideMayBeTaken g) outer
      → Stands g zones (constructed whole (turns_of lo n) outer x g)
  unfolding constructed
  constructed_stands lo n outer x g zones o all =
      let e = element whole (turns_of lo n) outer x g in
      elim (n == 0) as (λ t. Stands g zones (if t then pushed whole g (kind.Ctl []) [] else listed whole n e.graph e.flow)) [
        | true ↦ empty_stands g zones o
        | false ↦ grown_listed n g zones e (element_grows lo n outer x g zones o all)
      ]

  folded_from_stands : (v : Value) (op : Op) (lo : ℤ) (n : ℕ) (outer : List Outside) (x : Term) (g : Graph) (zones : List ℕ)
      → Orderly zones g
      → AllByRecursion (OutsideMayBeTaken g) outer → Stands g zones (folded_from whole v op (turns_of lo n) outer x g)
  unfolding folded_from
  folded_from_stands v op lo n outer x g zones o all =
      let z = above zones in
      let l = loop_begun whole (Constant v) n g in
      let b = loops.begun (Constant v) n g zones z o (is_above zones) tt in
      let w = element whole (turns_of lo n) outer x l.graph in
      let first = l.merge + 1 in
      let opens = b.opens in
      let there = opens.there in
      let e = element_in z first (turns_of lo n) outer x l.graph b.more b.orderly (omega (arith, there))
      (outside_suits g l.graph zones b.more b.kept (turns_of lo n) outer all (no_own lo n l.graph b.more z)) in
      let ended = loops.ended op l.merge l.gate n w e.more z e.orderly (loops.open_more l.graph w.graph b.more e.more z n l.merge e.kept b.opens)
      (gates.suits_more l.graph w.graph b.more e.more z first l.gate e.kept b.gate) e.flow in
      let s = loop_ended whole op l.merge l.gate n w in
      let kept = gates.kept_trans g l.graph w.graph zones b.more e.more b.kept e.kept in
      record {
        more = ended.more;
        orderly = ended.orderly;
        kept = gates.kept_trans g w.graph s.graph zones e.more ended.more kept ended.kept;
        cell = record { there = ended.there; steady = ended.steady };
      }

  folded_first_stands : (op : Op) (lo : ℤ) (n : ℕ) (outer : List Outside) (x : Term) (g : Graph) (zones : List ℕ)
      → Orderly zones g
      → AllByRecursion (OutsideMayBeTaken g) outer → Stands g zones (folded_first whole op (turns_of lo n) outer x g)
  unfolding folded_first
  folded_first_stands op lo n outer x g zones o all =
      let k = n - 1 in
      let parts : List (ℕ × Bool) = (1, true) ∷ (k, false) ∷ [] in
      let e = element whole (turns_of lo n) outer x g in
      let s = listed whole n e.graph e.flow in
      let sg = grown_listed n g zones e (element_grows lo n outer x g zones o all) in
      let first = patterned whole s.graph kind.Tgate (Cell s.cell ∷ []) parts in
      let fg = ruled_of s.graph kind.Tgate (Cell s.cell ∷ []) (pattern parts) sg.more sg.orderly (sg.cell, tt) (λ side. refl) in
      let rest = patterned whole first.graph kind.Fgate (Cell s.cell ∷ []) parts in
      let rg = ruled_of first.graph kind.Fgate (Cell s.cell ∷ []) (pattern parts) fg.more fg.orderly
      (cell_more s.graph first.graph sg.more fg.more fg.kept s.cell sg.cell, tt) (λ side. refl) in
      let z = above rg.more in
      let begins = cell_more first.graph rest.graph fg.more rg.more rg.kept first.cell fg.cell in
      let l = loop_begun whole (Cell first.cell) k rest.graph in
      let b = loops.begun (Cell first.cell) k rest.graph rg.more z rg.orderly (is_above rg.more) (under rest.graph rg.more (Cell first.cell) begins) in
      let w : Grown = record { graph = l.graph; flow = Cell rest.cell } in
      let next = gates.flow_more rest.graph l.graph rg.more b.more z (l.merge + 1) (Cell rest.cell) b.kept (suits rest.graph rg.more (l.merge + 1) (Cell rest.cell) rg.cell) in
      let ended = loops.ended op l.merge l.gate k w b.more z b.orderly b.opens b.gate next in
      let done = loop_ended whole op l.merge l.gate k w in
      let k1 = gates.kept_trans g s.graph first.graph zones sg.more fg.more sg.kept fg.kept in
      let k2 = gates.kept_trans g first.graph rest.graph zones fg.more rg.more k1 rg.kept in
      let k3 = gates.kept_trans g rest.graph l.graph zones rg.more b.more k2 b.kept in
      record {
        more = ended.more;
        orderly = ended.orderly;
        kept = gates.kept_trans g l.graph done.graph zones b.more ended.more k3 ended.kept;
        cell = record { there = ended.there; steady = ended.steady };
      }

  folded_by_stands : (begins : Option Value) (op : Op) (lo : ℤ) (n : ℕ) (outer : List Outside) (x : Term) (g : Graph) (zones : List ℕ)
      → Orderly zones g
      → AllByRecursion (OutsideMayBeTaken g) outer
      → Stands g zones (folded_by whole begins op (turns_of lo n) outer x g)
  folded_by_stands (Some v) op lo n outer x g zones o all = folded_from_stands v op lo n outer x g zones o all
  folded_by_stands None op lo n outer x g zones o all = folded_first_stands op lo n outer x g zones o all

  folded_grows : (op : Op) (lo : ℤ) (n : ℕ) (outer : List Outside) (x : Term) (g : Graph) (zones : List ℕ)
      → Orderly zones g
      → AllByRecursion (OutsideMayBeTaken g) outer → Grows g zones (folded whole op (turns_of lo n) outer x g)
  unfolding folded
  folded_grows op lo n outer x g zones o all =
      let s = folded_by whole (begun op) op (turns_of lo n) outer x g in
      let constant : Grown = record { graph = g; flow = Constant (or_undef (begun op)) } in
      let made : Grown = record { graph = s.graph; flow = Cell s.cell } in
      elim (n == 0) as (λ t. Grows g zones (if◌then◌else◌ {A = Grown} t constant made)) [
        | true ↦ record { more = zones; orderly = o; kept = gates.kept_refl g zones; flow = tt }
        | false ↦ (let good = folded_by_stands (begun op) op lo n outer x g zones o all in
            record { more = good.more; orderly = good.orderly; kept = good.kept; flow = good.cell })
      ]

  grown_by_stands : (lo : ℤ) (n : ℕ) (outer : List Outside) (x : Term) (g : Graph) (zones : List ℕ) (first : Flow)
      → Orderly zones g
      → AllByRecursion (OutsideMayBeTaken g) outer → FlowMayBeTaken g first
      → Stands g zones (grown_by whole lo n outer x g first)
  unfolding grown_by
  grown_by_stands lo n outer x g zones first o all begins =
      let z = above zones in
      let f = opened whole g first n in
      let fo = loops.opened g first n zones z o (is_above zones) (under g zones first begins) in
      let opens : IsOpen f.graph fo.more z n f.cell = fo.opens in
      let there = opens.there in
      let turns : Turns = record { lo = lo; n = n; own = Some f.cell } in
      let e = element whole turns outer x f.graph in
      let ei = element_in z (f.cell + 1) turns outer x f.graph fo.more fo.orderly (omega (arith, there))
      (outside_suits g f.graph zones fo.more fo.kept turns outer all (λ m is. let same : f.cell ≡ m = cc in subst (IsOpen f.graph fo.more z n) same opens)) in
      let still = loops.open_more f.graph e.graph fo.more ei.more z n f.cell ei.kept opens in
      let c = loops.closed e.graph f.cell e.flow ei.more z n ei.orderly still ei.flow in
      let s = grown_by whole lo n outer x g first in
      let kept = gates.kept_trans g f.graph e.graph zones fo.more ei.more fo.kept ei.kept in
      let closed_kept = c.1 in
      let longer = closed_kept.longer in
      let less = still.there in
      record {
        more = ei.more;
        orderly = c.0;
        kept = gates.kept_trans g e.graph s.graph zones ei.more ei.more kept c.1;
        cell = record {
          there = omega (arith, longer, less);
          steady = subst IsSteady (sym (closed_kept.kind f.cell less ∙ still.merges)) (λ side. refl);
        };
      }

  recurred_stands : (lo : ℤ) (n : ℕ) (outer : List Outside) (first x : Term) (g : Graph) (zones : List ℕ)
      → Orderly zones g
      → AllByRecursion (OutsideMayBeTaken g) outer → Stands g zones (recurred whole lo n outer first x g)
  unfolding recurred
  recurred_stands lo n outer first x g zones o all =
      let e = alone whole outer first g in
      let eg = element_grows (pos 0) 1 outer first g zones o all in
      elim (n == 0) as (λ t. Stands g zones (if t then listed whole 1 e.graph e.flow else grown_by whole lo n outer x e.graph e.flow)) [
        | true ↦ grown_listed 1 g zones e eg
        | false ↦ then_stands g e.graph zones eg.more (grown_by whole lo n outer x e.graph e.flow) eg.kept
            (grown_by_stands lo n outer x e.graph eg.more e.flow eg.orderly (all_more g e.graph zones eg.more eg.kept outer all) eg.flow)
      ]

  placed_zones : (outer : List Outside) (b : Body) (g : Graph) (zones : List ℕ) → Orderly zones g
      → AllByRecursion (OutsideMayBeTaken g) outer
      → Places g zones (placed whole outer b g)
  unfolding placed OutsideMayBeTaken
  placed_zones outer (body.Construct lo n x) g zones o all =
      let s = constructed_stands lo n outer x g zones o all in record { more = s.more; orderly = s.orderly; kept = s.kept; outside = s.cell }
  placed_zones outer (body.Fold op lo n x) g zones o all =
      let s = folded_grows op lo n outer x g zones o all in record { more = s.more; orderly = s.orderly; kept = s.kept; outside = s.flow }
  placed_zones outer (body.Recurrence lo n first x) g zones o all =
      let s = recurred_stands lo n outer first x g zones o all in record { more = s.more; orderly = s.orderly; kept = s.kept; outside = s.cell }
  placed_zones outer (body.Scalar x) g zones o all =
      let s = element_grows (pos 0) 1 outer x g zones o all in record { more = s.more; orderly = s.orderly; kept = s.kept; outside = s.flow }

  shown_zones : (is_result : Bool) (g : Graph) (zones : List ℕ) (p : Outside) → Orderly zones g → OutsideMayBeTaken g p
      → Places g zones (shown whole is_result g p)
  unfolding shown OutsideMayBeTaken
  shown_zones true g zones (Single f) o s =
      let l = listed_stands 1 g zones f o s in record { more = l.more; orderly = l.orderly; kept = l.kept; outside = l.cell }
  shown_zones true g zones (Many a) o s = record { more = zones; orderly = o; kept = gates.kept_refl g zones; outside = s }
  shown_zones false g zones p o s = record { more = zones; orderly = o; kept = gates.kept_refl g zones; outside = s }

  -- ---- programs

  abbrev IsLaid : Laid → Type 0
  IsLaid l = HasZones l.outer l.graph

  input_laid : (l : Laid) (i : Input) → IsLaid l → IsLaid (laid_input whole l i)
  unfolding OutsideMayBeTaken
  input_laid l i good =
      let it = kind.In i.name i.basic (input_length i.extent) in
      let s = pushed whole l.graph it [] in
      let c = made_of l.graph it [] good.zones good.orderly tt (λ side. refl) in
      record {
        zones = c.more;
        orderly = c.orderly;
        outside = all_push (OutsideMayBeTaken s.graph) l.outer (input_at s.cell i.extent) (all_more l.graph s.graph good.zones c.more c.kept l.outer good.outside) (new i.extent c.cell);
      }
    where
      new : {g : Graph} {c : ℕ} (e : Option Extent) → MayBeTaken g c → OutsideMayBeTaken g (input_at c e)
      new (Some e) s = s
      new None s = s

  block_laid : (l : Laid) (b : Block) → IsLaid l → IsLaid (laid_block whole l b)
  block_laid l b good =
      let p = placed whole l.outer b.body l.graph in
      let pg = placed_zones l.outer b.body l.graph good.zones good.orderly good.outside in
      let q = shown whole b.is_result p.graph p.outside in
      let qg = shown_zones b.is_result p.graph pg.more p.outside pg.orderly pg.outside in
      let kept = gates.kept_trans l.graph p.graph q.graph good.zones pg.more qg.more pg.kept qg.kept in
      record {
        zones = qg.more;
        orderly = qg.orderly;
        outside = all_push (OutsideMayBeTaken q.graph) l.outer q.outside (all_more l.graph q.graph good.zones qg.more kept l.outer good.outside) qg.outside;
      }

  out_zones : (k n c : ℕ) (g : Graph) (outer : List Outside) → MayBeTaken g c → HasZones outer g
      → HasZones outer (with_cell whole g (kind.Out k n) (Cell c ∷ []))
  out_zones k n c g outer s good =
      let h = with_cell whole g (kind.Out k n) (Cell c ∷ []) in
      let m = made_of g (kind.Out k n) (Cell c ∷ []) good.zones good.orderly (s, tt) (λ side. refl) in
      record { zones = m.more; orderly = m.orderly; outside = all_more g h good.zones m.more m.kept outer good.outside }

  own_zones : (k n : ℕ) (g : Graph) (outer : List Outside) (zones : List ℕ) (s : Stood) → Stands g zones s
      → AllByRecursion (OutsideMayBeTaken g) outer
      → HasZones outer (with_cell whole s.graph (kind.Out k n) (Cell s.cell ∷ []))
  own_zones k n g outer zones s good all =
      out_zones k n s.cell s.graph outer good.cell (record { zones = good.more; orderly = good.orderly; outside = all_more g s.graph zones good.more good.kept outer all })

  result_zones : (k : ℕ) (g : Graph) (outer : List Outside) (p : Option Outside)
      → ((q : Outside) → p ≡ Some q → OutsideMayBeTaken g q) → HasZones outer g
      → HasZones outer (result_of whole k g p)
  unfolding result_of OutsideMayBeTaken
  result_zones k g outer (Some (Single f)) there good =
      own_zones (k + 1) 1 g outer good.zones (listed whole 1 g f) (listed_stands 1 g good.zones f good.orderly (there (Single f) refl)) good.outside
  result_zones k g outer (Some (Many a)) there good = out_zones (k + 1) a.n a.cell g outer (there (Many a) refl) good
  result_zones k g outer None there good =
      own_zones (k + 1) 0 g outer good.zones (pushed whole g (kind.Ctl []) []) (empty_stands g good.zones good.orderly) good.outside

  more_zones : (outer : List Outside) (s : Shown) (number : ℕ) → HasZones outer s.graph
      → HasZones outer (result_more whole outer s number).graph
  more_zones outer s number good =
      result_zones s.count s.graph outer (slice_get outer number) (λ p is. all_get (OutsideMayBeTaken s.graph) outer number p good.outside is) good

  nothing_orderly : Orderly [] []
  nothing_orderly = record { count = refl; there = λ c p u is. absurd (none_at is); arcs = λ c p u is. absurd (none_at is) }

  pub laid_zones : (flat : Flat) → HasZones (laid whole flat []).outer (laid whole flat []).graph
  laid_zones flat =
      fold_keeps IsLaid (laid_block whole) block_laid flat.blocks (fold (laid_input whole) (record { graph = []; outer = [] }) flat.parameters)
      (fold_keeps IsLaid (laid_input whole) input_laid flat.parameters (record { graph = []; outer = [] })
      (record { zones = []; orderly = nothing_orderly; outside = tt }))

  pub programs_are_orderly : ProgramsAreOrderly
  unfolding program_on
  programs_are_orderly flat =
      let l = laid whole flat [] in
      let s = fold_keeps (λ (s : Shown). HasZones l.outer s.graph) (result_more whole l.outer) (more_zones l.outer) flat.results (record { graph = l.graph; count = 0 }) (laid_zones flat) in
      (s.zones, s.orderly)
