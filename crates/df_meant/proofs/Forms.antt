-- Each form of a term, over makers: what is built stands for what is meant.
use Rattle.std.proofs.Common.{◌≡◌, ℕ, zero, suc, ◌+◌, ◌-◌, ◌<◌, ◌≤◌, ℤ, pos, ◌+ℤ◌, Bool, true, false, List, [], ◌∷◌, ◌++◌, get_or, map, length, Option, Some, None, refl, sym, ◌∙◌, ap, subst, arith}
use Rattle.std.specs.Prelude.{slice_get, nat_lt, if◌then◌else◌, ◌==◌, ◌&&◌}
use Rattle.std.specs.List.{range_with_len}
use Rattle.std.specs.Ordering.{int_eq}
use Rattle.std.proofs.lemmas.Bool.{ltb-true, ltb-false, eqb-true}
use Rattle.std.proofs.lemmas.Bool.Decides.{Decides-int_eq}
use Rattle.std.proofs.lemmas.List.FromFn.{get_or-map-range_with_len, length-map-range_with_len}
use Rattle.df_values.specs.declared.values.Value.{Value}
use Rattle.df_values.specs.declared.values.Value.TheVariants.{Int}
use Rattle.df_cells.specs.declared.kinds.Kind.{Kind}
use Rattle.df_cells.specs.declared.kinds.Kind.TheVariants as kind
use Rattle.df_cells.specs.Kinds.{is_output, is_buffer}
use Rattle.df_labels.specs.Graphs.{Graph, Node}
use Rattle.df_labels.specs.Labels.{Turn, source_list, in_order_from, block_turn}
use Rattle.df_labels.specs.declared.graphs.Flow.{Flow}
use Rattle.df_labels.specs.declared.graphs.Flow.TheVariants.{Constant, Cell}
use Rattle.df_build_terms.specs.declared.building.Local.{Local}
use Rattle.df_build_access.specs.declared.windows.Array.{Array}
use Rattle.df_build_terms.specs.declared.building.Outside.{Outside}
use Rattle.df_build_terms.specs.declared.building.Outside.TheVariants as outside
use Rattle.df_labels.specs.Flows.{arc}
use Rattle.df_build_loops.specs.Frames.{undef}
use Rattle.df_build_terms.specs.Outer.{single, many, flow_at, array_at}
use Rattle.df_build_cond.specs.Noted.{Noted, noted}
use Rattle.df_build_access.specs.Accesses.{Accessed, noted_access}
use Rattle.df_build_terms.specs.Building.{Building, Built, Met, at, with_index, with_hold, with_access, crossed, from_local, index_met, index_built, hold_met, outer_met, outer_built, element_met, element_built}
use Rattle.df_build_cond.specs.Arms.{cross}
use Rattle.df_build_loops.specs.Holds.{held}
use Rattle.df_build_access.specs.Elements.{windowed}
use Rattle.df_meant.specs.Sites.{Given, Label, Site, site_of, stream, Stands, MeetsNode, Meeting, Extends, block_turns}
use Rattle.df_meant.specs.Arms.{Setting, turns, turns_at, Kept, Known}
use Rattle.df_core.specs.Meaning.{Made, scalar_of, member_of, made_at}
use Rattle.df_build_cond.specs.Growth.{whole}
use Rattle.df_meant.specs.Windows.{lesser}
use Rattle.df_meant.specs.Builds.{Block, all_of, place_in, at_in, ArrayStands, OutsideStands, IsShaped, Fits, Tables, FrameStands, Good, IsBuilt, Builds, HoldsStand, WindowsStand}
use Rattle.df_meant.proofs.Streams.{AreTurns, turns_block, answered_source, turns_source}
use Rattle.df_meant.proofs.Groups.{same_some, none_some, extends_same, extends_both, extends_push, stands_more, stands_same, meet_push, gives_push}
use Rattle.df_meant.proofs.Fed.{IsMade, no_out}
use Rattle.df_meant.proofs.Crossing.{turns_are, arms_more, turns_outside, cross_ok}

-- ---- a longer graph

pub array_more : (old new : Site) (a : Array) (m : Made) → Extends old new → ArrayStands old a m → ArrayStands new a m
array_more old new a m e h = record { lowest = h.lowest; count = h.count; comes = λ some. stands_more old new (Cell a.cell) (block_turns 0 a.n) _ e (h.comes some) }

shape_more : (old new : Site) (o : Option Outside) (m : Made) → Extends old new → IsShaped old o m → IsShaped new o m
shape_more old new (Some (outside.Single f)) m e h = h
shape_more old new (Some (outside.Many a)) m e h = (stands_more old new (Cell a.cell) (block_turns 0 a.n) _ e h.0, h.1)
shape_more old new None m e h = h

pub outside_more : (old new : Site) (o : Option Outside) (m : Made) → Extends old new → OutsideStands old o m → OutsideStands new o m
outside_more old new o m e h = record { flow = stands_more old new (single o) (block_turns 0 1) (λ _. scalar_of m) e h.flow; array = array_more old new (many o) m e h.array; shape = shape_more old new o m e h.shape }

pub fits_more : (old new : Site) (outer : List Outside) (made : List Made) → Extends old new → Fits old outer made → Fits new outer made
fits_more old new [] [] e h = tt
fits_more old new (o ∷ outer) (m ∷ made) e h = (outside_more old new (Some o) m e h.0, fits_more old new outer made e h.1)
fits_more old new [] (m ∷ made) e h = absurd h
fits_more old new (o ∷ outer) [] e h = absurd h

-- by numbers, also by those of nothing
pub fits_at : (site : Site) (outer : List Outside) (made : List Made) (x : ℕ) → Fits site outer made → OutsideStands site (slice_get outer x) (made_at made x)
fits_at site [] [] x h = record { flow = λ t. refl; array = record { lowest = refl; count = refl; comes = λ some. absurd (omega (arith, some)) }; shape = refl }
fits_at site (o ∷ outer) (m ∷ made) zero h = h.0
fits_at site (o ∷ outer) (m ∷ made) (suc x) h = fits_at site outer made x h.1
fits_at site [] (m ∷ made) x h = absurd h
fits_at site (o ∷ outer) [] x h = absurd h

pub frame_more : (k : Block) (old new : Site) (own : Option ℕ) → Extends old new → FrameStands k old own → FrameStands k new own
frame_more k old new (Some m) e h = stands_more old new (Cell m) (block_turns 0 (suc k.turns.n)) (λ t. k.before (block_turn t)) e h
frame_more k old new None e h = h

pub tables_more : (k : Block) (met : Met) (old new : Site) → Extends old new → Tables k met old → Tables k met new
tables_more k met old new e t = record {
  index = λ u is. stands_more old new (Cell u) (all_of k) (λ t. Int (at_in k.turns t)) e (t.index u is);
  previous = λ u is. stands_more old new (Cell u) (all_of k) (λ t. k.before (place_in k.turns t)) e (t.previous u is);
  holds = λ x u is. stands_more old new (Cell u) (all_of k) (λ _. scalar_of (made_at k.made x)) e (t.holds x u is);
  accesses = λ x c f is. stands_more old new f (all_of k) (λ t. member_of (made_at k.made x) (at_in k.turns t +ℤ c)) e (t.accesses x c f is);
}

pub rising_of : (k : Block) (s : List Setting) → AreTurns (turns (all_of k) s)
rising_of k s = turns_are (all_of k) s (turns_block 0 k.turns.n)

-- what was built over a longer graph was built over the old one
pub after : (k : Block) (s : List Setting) (g0 g1 : Graph) (l0 l1 : List Label) (r : Built) (f : Turn → Value) → Extends (site_of g0 l0) (site_of g1 l1) → IsBuilt k s g1 l1 r f → IsBuilt k s g0 l0 r f
after k s g0 g1 l0 l1 r f e r' = (r'.0, extends_both (site_of g0 l0) (site_of g1 l1) (site_of r.state.graph r'.0) e r'.1, r'.2, r'.3)

pub same_built : (k : Block) (s : List Setting) (g : Graph) (l : List Label) (r : Built) (f h : Turn → Value) → ((t : Turn) → f t ≡ h t) → IsBuilt k s g l r f → IsBuilt k s g l r h
same_built k s g l r f h e b = (b.0, b.1, b.2, stands_same (site_of r.state.graph b.0) r.flow (turns (all_of k) s) f h e b.3)

-- one cell more, where the block's tables stay
pub added_built : (k : Block) (b : Building) (s : List Setting) (labels : List Label) (grown : Graph) (flow : Flow) (f : Turn → Value) → Good k b s labels
    → IsMade k.is_open k.inputs (turns (all_of k) s) b.graph labels grown flow f → IsBuilt k s b.graph labels (at (record b { graph = grown }) flow) f
added_built k b s labels grown flow f good m =
    let old = site_of b.graph labels in
    let new = site_of grown m.0 in
    (m.0, m.1, record { meet = m.2; arms = arms_more old new (all_of k) b.arms s m.1 good.arms; fits = fits_more old new k.outer k.made m.1 good.fits; frame = frame_more k old new k.turns.own m.1 good.frame; tables = tables_more k b.met old new m.1 good.tables }, m.3)

-- ---- values that are crossed

pub crossed_built : (k : Block) (level : ℕ) (b : Building) (s : List Setting) (labels : List Label) (flow : Flow) (f : Turn → Value) → Good k b s labels
    → Stands (site_of b.graph labels) flow (turns_at level (all_of k) s) f → IsBuilt k s b.graph labels (crossed whole level b flow) f
unfolding crossed
crossed_built k level b s labels flow f good stands =
    let c = cross whole level b.graph b.arms flow in
    let r = cross_ok k.is_open k.inputs (all_of k) (turns_block 0 k.turns.n) level s b.arms b.graph labels flow f good.meet good.arms stands in
    let old = site_of b.graph labels in
    let new = site_of c.graph r.0 in
    (r.0, r.1, record { meet = r.2; arms = r.3; fits = fits_more old new k.outer k.made r.1 good.fits; frame = frame_more k old new k.turns.own r.1 good.frame; tables = tables_more k b.met old new r.1 good.tables }, r.4)

-- a value from outside all arms
pub outer_crossed : (k : Block) (b : Building) (s : List Setting) (labels : List Label) (flow : Flow) (f : Turn → Value) → Good k b s labels
    → Stands (site_of b.graph labels) flow (all_of k) f → IsBuilt k s b.graph labels (crossed whole 0 b flow) f
outer_crossed k b s labels flow f good stands =
    crossed_built k 0 b s labels flow f good (subst (λ ts. Stands (site_of b.graph labels) flow ts f) (sym (turns_outside (all_of k) s)) stands)

-- ---- constants and locals

pub constant_ok : (k : Block) (v : Value) → Builds k (λ locals b. at b (Constant v)) (λ here locals. v)
constant_ok k v locals fs b s labels known good = (labels, extends_same (site_of b.graph labels), good, λ t. refl)

abbrev FoundAs : Site → List Turn → List Setting → Option Local → (Turn → Value) → Type 0
FoundAs site all s None f = (t : Turn) → f t ≡ undef
FoundAs site all s (Some l) f = Kept site all s l f

found : (site : Site) (all : List Turn) (s : List Setting) (x : ℕ) (ls : List Local) (fs : List (Turn → Value)) → Known site all s ls fs → FoundAs site all s (slice_get ls x) (λ t. get_or (map (λ f. f t) fs) x undef)
found site all s x [] [] h = λ t. refl
found site all s zero (l ∷ ls) (f ∷ fs) h = h.0
found site all s (suc x) (l ∷ ls) (f ∷ fs) h = found site all s x ls fs h.1
found site all s x [] (f ∷ fs) h = absurd h
found site all s x (l ∷ ls) [] h = absurd h

from_local_ok : (k : Block) (b : Building) (s : List Setting) (labels : List Label) (o : Option Local) (f : Turn → Value) → Good k b s labels → FoundAs (site_of b.graph labels) (all_of k) s o f
    → IsBuilt k s b.graph labels (from_local whole b o) f
unfolding from_local
from_local_ok k b s labels None f good h = (labels, extends_same (site_of b.graph labels), good, h)
from_local_ok k b s labels (Some l) f good h = crossed_built k l.arms b s labels l.flow f good h.stands

pub local_ok : (k : Block) (x : ℕ) → Builds k (λ locals b. from_local whole b (slice_get locals x)) (λ here locals. get_or locals x undef)
local_ok k x locals fs b s labels known good =
    from_local_ok k b s labels (slice_get locals x) (λ t. get_or (map (λ f. f t) fs) x undef) good (found (site_of b.graph labels) (all_of k) s x locals fs known)

-- ---- the index

-- a source without ports
pub meets_source : (site : Site) (values : Given) (it : Kind) (vs : List Value) → source_list it values.own ≡ Some vs → is_output it ≡ false → is_buffer it ≡ false → MeetsNode site values (record { kind = it; ports = [] }) (in_order_from 0 vs)
meets_source site values it vs e output buffer = record {
  whole = buffer;
  unloaded = λ p. refl;
  sources = λ ws h. ap (in_order_from 0) (same_some vs ws (sym e ∙ h));
  single = (turns_source vs).single;
  rising = (turns_source vs).rising;
  arcs = λ p u h. absurd (none_some (arc u) h);
  right = λ h. absurd (none_some vs (sym h ∙ e));
  outputs = λ i n h. absurd (no_out it i n output h);
  receives = λ i n h. absurd (no_out it i n output h);
}

pub lesser_first : (i m : ℕ) → i ≤ m → lesser i m ≡ i
lesser_first i m le = go (nat_lt i m) refl
  where
    go : (b : Bool) → nat_lt i m ≡ b → (if b then i else m) ≡ i
    go true h = refl
    go false h = let more = ltb-false i m h in omega (arith, more, le)

index_made : (k : Block) (graph : Graph) (labels : List Label) → Meeting k.is_open graph k.inputs labels
    → IsMade k.is_open k.inputs (all_of k) graph labels (graph ++ record { kind = kind.Idx k.turns.lo k.turns.n; ports = [] } ∷ []) (Cell (length graph)) (λ t. Int (at_in k.turns t))
index_made k graph labels meet =
    let n = k.turns.n in
    let value = λ (i : ℕ). Int (k.turns.lo +ℤ pos i) in
    let vs = map value (range_with_len 0 n) in
    let node : Node = record { kind = kind.Idx k.turns.lo n; ports = [] } in
    let l = in_order_from 0 vs in
    let at_place : (i : ℕ) → i < n → value (lesser (0 + i) (n - 1)) ≡ get_or vs i undef =
    λ i h. let e : 0 + i ≡ i = omega arith in let le : i ≤ n - 1 = omega (arith, h) in
    ap (λ j. value (lesser j (n - 1))) e ∙ ap value (lesser_first i (n - 1) le) ∙ sym (get_or-map-range_with_len value 0 n i i undef h e) in (
      labels ++ l ∷ [],
      extends_push k.is_open graph (node ∷ []) k.inputs labels (l ∷ []) meet,
      meet_push k.is_open graph k.inputs labels node l meet (λ values. meets_source (site_of (graph ++ node ∷ []) (labels ++ l ∷ [])) values (kind.Idx k.turns.lo n) vs refl refl refl),
      gives_push graph labels node l (stream (all_of k) (λ t. Int (at_in k.turns t))) meet.long (λ side. refl) refl
          (answered_source vs 0 n (λ i. value (lesser i (n - 1))) (length-map-range_with_len value 0 n) at_place),
    )

index_met_ok : (k : Block) (b : Building) (s : List Setting) (labels : List Label) (met : Option ℕ) → b.met.index ≡ met → Good k b s labels → IsBuilt k s b.graph labels (index_met whole k.turns b met) (λ t. Int (at_in k.turns t))
index_met_ok k b s labels (Some c) is good = outer_crossed k b s labels (Cell c) (λ t. Int (at_in k.turns t)) good (good.tables.index c is)
index_met_ok k b s labels None is good =
    let c = length b.graph in
    let m = index_made k b.graph labels good.meet in
    let grown = b.graph ++ record { kind = kind.Idx k.turns.lo k.turns.n; ports = [] } ∷ [] in
    let old = site_of b.graph labels in
    let new = site_of grown m.0 in
    let b' = with_index b (record { graph = grown; cell = c }) in
    let t = tables_more k b.met old new m.1 good.tables in
    after k s b.graph grown labels m.0 (crossed whole 0 b' (Cell c)) (λ t. Int (at_in k.turns t)) m.1
    (outer_crossed k b' s m.0 (Cell c) (λ t. Int (at_in k.turns t)) (record {
      meet = m.2;
      arms = arms_more old new (all_of k) b.arms s m.1 good.arms;
      fits = fits_more old new k.outer k.made m.1 good.fits;
      frame = frame_more k old new k.turns.own m.1 good.frame;
      tables = record { index = λ d h. subst (λ e. Stands new (Cell e) (all_of k) (λ t. Int (at_in k.turns t))) (same_some c d h) m.3; previous = t.previous; holds = t.holds; accesses = t.accesses };
    }) m.3)

pub index_ok : (k : Block) → Builds k (λ locals b. index_built whole k.turns b) (λ here locals. Int here.at)
unfolding index_built
index_ok k locals fs b s labels known good = index_met_ok k b s labels b.met.index refl good

-- ---- scalars from outside

noted_at : (P : ℕ → ℕ → Type 0) (table : Noted) (x c : ℕ) → P x c → ((y d : ℕ) → table y ≡ Some d → P y d) → (y d : ℕ) → noted table x c y ≡ Some d → P y d
unfolding noted
noted_at P table x c new old y d = go (x == y) refl
  where
    go : (b : Bool) → (x == y) ≡ b → (if b then Some c else table y) ≡ Some d → P y d
    go true same is = subst (λ z. P z d) (eqb-true x y same) (subst (P x) (same_some c d is) new)
    go false same is = old y d is

hold_met_ok : (k : Block) (x u : ℕ) (b : Building) (s : List Setting) (labels : List Label) (met : Option ℕ) → b.met.holds x ≡ met → HoldsStand k → 1 < k.turns.n → Good k b s labels
    → Stands (site_of b.graph labels) (Cell u) (block_turns 0 1) (λ _. scalar_of (made_at k.made x))
    → IsBuilt k s b.graph labels (hold_met whole k.turns x u b met) (λ _. scalar_of (made_at k.made x))
hold_met_ok k x u b s labels (Some h) is holds more good stands = outer_crossed k b s labels (Cell h) (λ _. scalar_of (made_at k.made x)) good (good.tables.holds x h is)
hold_met_ok k x u b s labels None is holds more good stands =
    let v = scalar_of (made_at k.made x) in
    let c = length b.graph in
    let m = holds u v b.graph labels more good.meet stands in
    let grown = (held whole b.graph u k.turns.n).graph in
    let old = site_of b.graph labels in
    let new = site_of grown m.0 in
    let b' = with_hold b x (record { graph = grown; cell = c }) in
    let t = tables_more k b.met old new m.1 good.tables in
    after k s b.graph grown labels m.0 (crossed whole 0 b' (Cell c)) (λ _. v) m.1
    (outer_crossed k b' s m.0 (Cell c) (λ _. v) (record {
      meet = m.2;
      arms = arms_more old new (all_of k) b.arms s m.1 good.arms;
      fits = fits_more old new k.outer k.made m.1 good.fits;
      frame = frame_more k old new k.turns.own m.1 good.frame;
      tables = record { index = t.index; previous = t.previous; holds = noted_at (λ y d. Stands new (Cell d) (all_of k) (λ _. scalar_of (made_at k.made y))) b.met.holds x c m.3 t.holds; accesses = t.accesses };
    }) m.3)

outer_met_ok : (k : Block) (x : ℕ) (b : Building) (s : List Setting) (labels : List Label) (flow : Flow) → HoldsStand k → 0 < k.turns.n → Good k b s labels
    → Stands (site_of b.graph labels) flow (block_turns 0 1) (λ _. scalar_of (made_at k.made x))
    → IsBuilt k s b.graph labels (outer_met whole k.turns x b flow) (λ _. scalar_of (made_at k.made x))
outer_met_ok k x b s labels (Constant v) holds some good stands = (labels, extends_same (site_of b.graph labels), good, stands)
outer_met_ok k x b s labels (Cell u) holds some good stands = go (nat_lt 1 k.turns.n) refl
  where
    go : (t : Bool) → nat_lt 1 k.turns.n ≡ t
        → IsBuilt k s b.graph labels (if t then hold_met whole k.turns x u b (b.met.holds x) else crossed whole 0 b (Cell u)) (λ _. scalar_of (made_at k.made x))
    go true h = hold_met_ok k x u b s labels (b.met.holds x) refl holds (ltb-true 1 k.turns.n h) good stands
    go false h =
        let few = ltb-false 1 k.turns.n h in
        let one : 1 ≡ k.turns.n = omega (arith, few, some) in
        outer_crossed k b s labels (Cell u) (λ _. scalar_of (made_at k.made x)) good
        (subst (λ n. Stands (site_of b.graph labels) (Cell u) (block_turns 0 n) (λ _. scalar_of (made_at k.made x))) one stands)

pub outer_ok : (k : Block) (x : ℕ) → HoldsStand k → 0 < k.turns.n → Builds k (λ locals b. outer_built whole k.turns k.outer x b) (λ here locals. scalar_of (made_at here.made x))
unfolding outer_built
outer_ok k x holds some locals fs b s labels known good = outer_met_ok k x b s labels (flow_at k.outer x) holds some good (fits_at (site_of b.graph labels) k.outer k.made x good.fits).flow

-- ---- elements

accessed_at : (P : ℕ → ℤ → Flow → Type 0) (table : Accessed) (x : ℕ) (c : ℤ) (f : Flow) → P x c f → ((y : ℕ) (d : ℤ) (g : Flow) → table y d ≡ Some g → P y d g)
    → (y : ℕ) (d : ℤ) (g : Flow) → noted_access table x c f y d ≡ Some g → P y d g
unfolding noted_access
accessed_at P table x c f new old y d g = go (x == y) refl (int_eq c d) refl
  where
    go : (a : Bool) → (x == y) ≡ a → (b : Bool) → int_eq c d ≡ b → (if a && b then Some f else table y d) ≡ Some g → P y d g
    go true e true h is = subst (λ z. P z d g) (eqb-true x y e) (subst (λ z. P x z g) ((Decides-int_eq c d).0 h) (subst (P x c) (same_some f g is) new))
    go true e false h is = old y d g is
    go false e true h is = old y d g is
    go false e false h is = old y d g is

element_met_ok : (k : Block) (x : ℕ) (c : ℤ) (b : Building) (s : List Setting) (labels : List Label) (met : Option Flow) → b.met.accesses x c ≡ met → WindowsStand k → 0 < k.turns.n → Good k b s labels
    → IsBuilt k s b.graph labels (element_met whole k.turns (array_at k.outer x) x c b met) (λ t. member_of (made_at k.made x) (at_in k.turns t +ℤ c))
element_met_ok k x c b s labels (Some f) is windows some good = outer_crossed k b s labels f (λ t. member_of (made_at k.made x) (at_in k.turns t +ℤ c)) good (good.tables.accesses x c f is)
element_met_ok k x c b s labels None is windows some good =
    let value = λ (t : Turn). member_of (made_at k.made x) (at_in k.turns t +ℤ c) in
    let w = windowed whole k.turns.lo k.turns.n (array_at k.outer x) c b.graph in
    let m = windows (array_at k.outer x) (made_at k.made x) c b.graph labels some good.meet (fits_at (site_of b.graph labels) k.outer k.made x good.fits).array in
    let old = site_of b.graph labels in
    let new = site_of w.graph m.0 in
    let b' = with_access b x c w in
    let t = tables_more k b.met old new m.1 good.tables in
    after k s b.graph w.graph labels m.0 (crossed whole 0 b' w.flow) value m.1
    (outer_crossed k b' s m.0 w.flow value (record {
      meet = m.2;
      arms = arms_more old new (all_of k) b.arms s m.1 good.arms;
      fits = fits_more old new k.outer k.made m.1 good.fits;
      frame = frame_more k old new k.turns.own m.1 good.frame;
      tables = record {
        index = t.index;
        previous = t.previous;
        holds = t.holds;
        accesses = accessed_at (λ y d g. Stands new g (all_of k) (λ t. member_of (made_at k.made y) (at_in k.turns t +ℤ d))) b.met.accesses x c w.flow m.3 t.accesses;
      };
    }) m.3)

pub element_ok : (k : Block) (x : ℕ) (c : ℤ) → WindowsStand k → 0 < k.turns.n → Builds k (λ locals b. element_built whole k.turns k.outer x c b) (λ here locals. member_of (made_at here.made x) (here.at +ℤ c))
unfolding element_built
element_ok k x c windows some locals fs b s labels known good = element_met_ok k x c b s labels (b.met.accesses x c) refl windows some good
