-- Every term is built to what it means, by induction over terms.
use Rattle.std.proofs.Common.{◌≡◌, ℕ, ◌<◌, Bool, true, false, List, [], ◌∷◌, ◌++◌, map, length, drop, refl, sym, ◌∙◌, ap, subst, arith}
use Rattle.std.specs.List.{filter}
use Rattle.std.specs.Prelude.{fold}
use Rattle.df_values.specs.declared.values.Value.{Value}
use Rattle.df_values.specs.declared.values.Value.TheVariants.{Int, Truth, Error}
use Rattle.df_values.specs.Operators.{chosen}
use Rattle.df_cells.specs.Shifts.{is_truth}
use Rattle.df_cells.specs.declared.kinds.Kind.TheVariants as kind
use Rattle.df_labels.specs.Graphs.{Graph}
use Rattle.df_labels.specs.Labels.{Turn}
use Rattle.df_labels.specs.Patterns.{PatternsSpell}
use Rattle.df_labels.specs.declared.graphs.Flow.{Flow}
use Rattle.df_labels.specs.declared.graphs.Flow.TheVariants.{Constant, Cell}
use Rattle.df_build_terms.specs.declared.building.Local.{Local}
use Rattle.df_values.specs.declared.kinds.Binary.{Binary}
use Rattle.df_values.specs.declared.kinds.Unary.{Unary}
use Rattle.df_core.specs.declared.terms.Step.{Step}
use Rattle.df_core.specs.declared.terms.Branch.{Branch}
use Rattle.df_core.specs.declared.terms.Term.{Term, roll-Term}
use Rattle.df_core.specs.declared.terms.Term.TheOpen.{Term-F}
use Rattle.df_labels.specs.Flows.{arc, feed_of}
use Rattle.df_values.specs.Tables.{binary_answer, unary_answer}
use Rattle.df_cells.specs.Families.{kind_of, kind_of_one}
use Rattle.df_core.specs.Terms.{layer_of, fold_rolled}
use Rattle.df_core.specs.TermInduction.{Proved, without, term_induction}
use Rattle.df_build_loops.specs.Frames.{undef}
use Rattle.df_build_terms.specs.Building.{Building, Built, Make, at, enter, in_arm, joined, changed, chosen as merge_built, decide}
use Rattle.df_build_cond.specs.Arms.{Arm}
use Rattle.df_build_terms.specs.Built.{Defined, local_of, chained, choose, defined, form, built}
use Rattle.df_meant.specs.Sites.{Label, Site, site_of, Stands, Extends}
use Rattle.df_meant.specs.Arms.{Setting, Under, turns, ArmsHold, Kept, Known}
use Rattle.df_core.specs.Meaning.{Sense, layer_sense, joined as joined_value, branches_value, defined as defined_value, term_value}
use Rattle.df_build_cond.specs.Growth.{whole}
use Rattle.df_meant.specs.Builds.{Block, all_of, here_in, Good, IsBuilt, Builds, HoldsStand, WindowsStand, TermsAreMeant}
use Rattle.df_meant.proofs.Groups.{none_some, extends_same, extends_both, stands_more}
use Rattle.df_meant.proofs.Cells.{two_made, one_made, merge_made}
use Rattle.df_meant.proofs.Crossing.{arms_count, turns_here, known_more, known_inside, known_bound}
use Rattle.df_meant.proofs.Holding.{holds_stand}
use Rattle.df_meant.proofs.Windowing.{windows_stand}
use Rattle.df_meant.proofs.Previous.{previous_ok}
use Rattle.df_meant.proofs.Forms.{rising_of, after, same_built, added_built, constant_ok, local_ok, index_ok, outer_ok, element_ok}

-- ---- operators

module _ (k : Block) (b : Building) (s : List Setting) (labels : List Label) (good : Good k b s labels) where
  abbrev here : Site
  here = site_of b.graph labels

  abbrev now : List Turn
  now = turns (all_of k) s

  two_ok : (o : Binary) (p q : Flow) (f g : Turn → Value) → Stands here p now f → Stands here q now g
      → IsBuilt k s b.graph labels (at (record b { graph = b.graph ++ record { kind = kind_of o; ports = feed_of p ∷ feed_of q ∷ [] } ∷ [] }) (Cell (length b.graph))) (λ t. binary_answer o (f t) (g t))
  two_ok o p q f g sp sq =
      added_built k b s labels (b.graph ++ record { kind = kind_of o; ports = feed_of p ∷ feed_of q ∷ [] } ∷ []) (Cell (length b.graph)) (λ t. binary_answer o (f t) (g t)) good
      (two_made k.is_open k.inputs b.graph labels now good.meet (rising_of k s) o p q f g sp sq)

  pub joined_ok : (o : Binary) (p q : Flow) (f g : Turn → Value) → Stands here p now f → Stands here q now g → IsBuilt k s b.graph labels (joined whole o b p q) (λ t. binary_answer o (f t) (g t))
  unfolding joined
  joined_ok o (Constant v) (Constant w) f g sp sq = (labels, extends_same here, good, λ t. ap (λ x. binary_answer o x (g t)) (sp t) ∙ ap (binary_answer o v) (sq t))
  joined_ok o (Constant v) (Cell d) f g sp sq = two_ok o (Constant v) (Cell d) f g sp sq
  joined_ok o (Cell c) q f g sp sq = two_ok o (Cell c) q f g sp sq

  pub changed_ok : (o : Unary) (p : Flow) (f : Turn → Value) → Stands here p now f → IsBuilt k s b.graph labels (changed whole o b p) (λ t. unary_answer o (f t))
  unfolding changed
  changed_ok o (Constant v) f sp = (labels, extends_same here, good, λ t. ap (unary_answer o) (sp t))
  changed_ok o (Cell c) f sp =
      added_built k b s labels (b.graph ++ record { kind = kind_of_one o; ports = arc c ∷ [] } ∷ []) (Cell (length b.graph)) (λ t. unary_answer o (f t)) good
      (one_made k.is_open k.inputs b.graph labels now good.meet (rising_of k s) o (Cell c) f sp)

  merged_ok : (c : ℕ) (p q : Flow) (h f g : Turn → Value) → Stands here (Cell c) now h → Stands here p (filter (λ t. is_truth true (h t)) now) f → Stands here q (filter (λ t. is_truth false (h t)) now) g
      → IsBuilt k s b.graph labels (merge_built whole c b p q) (λ t. chosen (h t) (f t) (g t))
  unfolding merge_built
  merged_ok c p q h f g sc sp sq =
      added_built k b s labels (b.graph ++ record { kind = kind.Merge; ports = arc c ∷ feed_of p ∷ feed_of q ∷ [] } ∷ []) (Cell (length b.graph)) (λ t. chosen (h t) (f t) (g t)) good
      (merge_made k.is_open k.inputs b.graph labels now good.meet (rising_of k s) c p q h f g sc sp sq)

-- ---- arms

-- a value that is made in an arm, by the turns that pass it
abbrev IsInArm : Block → List Setting → Graph → List Label → Built → List Turn → (Turn → Value) → Type 0
IsInArm k s graph labels r ts f =
    (more : List Label) × Extends (site_of graph labels) (site_of r.state.graph more) × Good k r.state s more × Stands (site_of r.state.graph more) r.flow ts f

arms_left : (site : Site) (all : List Turn) (arms : List Arm) (x : Setting) (s : List Setting) → ArmsHold site all arms (x ∷ s) → ArmsHold site all (drop 1 arms) s
arms_left site all [] x s h = absurd h
arms_left site all (arm ∷ arms) (Under g side) s h = h.1

arm_ok : (k : Block) (make : Make) (sense : Sense) (side : Bool) (c : ℕ) (g : Turn → Value) (locals : List Local) (fs : List (Turn → Value)) (b : Building) (s : List Setting) (labels : List Label) → Builds k make sense
    → Known (site_of b.graph labels) (all_of k) s locals fs → Good k b s labels → Stands (site_of b.graph labels) (Cell c) (turns (all_of k) s) g
    → IsInArm k s b.graph labels (in_arm c side (make locals) b) (turns (all_of k) (Under g side ∷ s)) (λ t. sense (here_in k t) (map (λ f. f t) fs))
arm_ok k make sense side c g locals fs b s labels builds known good stands =
    let site = site_of b.graph labels in
    let r = builds locals fs (enter c side b) (Under g side ∷ s) labels (known_inside site (all_of k) (Under g side) s locals fs known)
    (record { meet = good.meet; arms = (record { side = refl; control = stands; gates = λ u d e. absurd (none_some d e) }, good.arms); fits = good.fits; frame = good.frame; tables = good.tables }) in
    let x = make locals (enter c side b) in
    (r.0, r.1, record { meet = r.2.meet; arms = arms_left (site_of x.state.graph r.0) (all_of k) x.state.arms (Under g side) s r.2.arms; fits = r.2.fits; frame = r.2.frame; tables = r.2.tables }, r.3)

pub decide_ok : (k : Block) (m n : Make) (sm sn : Sense) (locals : List Local) (fs : List (Turn → Value)) (b : Building) (s : List Setting) (labels : List Label) (flow : Flow) (h : Turn → Value) → Builds k m sm → Builds k n sn
    → Known (site_of b.graph labels) (all_of k) s locals fs → Good k b s labels → Stands (site_of b.graph labels) flow (turns (all_of k) s) h
    → IsBuilt k s b.graph labels (decide whole (m locals) (n locals) b flow) (λ t. chosen (h t) (sm (here_in k t) (map (λ f. f t) fs)) (sn (here_in k t) (map (λ f. f t) fs)))
unfolding decide
decide_ok k m n sm sn locals fs b s labels (Constant (Truth true)) h bm bn known good stands =
    same_built k s b.graph labels (m locals b) (λ t. sm (here_in k t) (map (λ f. f t) fs)) (λ t. chosen (h t) (sm (here_in k t) (map (λ f. f t) fs)) (sn (here_in k t) (map (λ f. f t) fs)))
    (λ t. ap (λ v. chosen v (sm (here_in k t) (map (λ f. f t) fs)) (sn (here_in k t) (map (λ f. f t) fs))) (sym (stands t))) (bm locals fs b s labels known good)
decide_ok k m n sm sn locals fs b s labels (Constant (Truth false)) h bm bn known good stands =
    same_built k s b.graph labels (n locals b) (λ t. sn (here_in k t) (map (λ f. f t) fs)) (λ t. chosen (h t) (sm (here_in k t) (map (λ f. f t) fs)) (sn (here_in k t) (map (λ f. f t) fs)))
    (λ t. ap (λ v. chosen v (sm (here_in k t) (map (λ f. f t) fs)) (sn (here_in k t) (map (λ f. f t) fs))) (sym (stands t))) (bn locals fs b s labels known good)
decide_ok k m n sm sn locals fs b s labels (Constant (Int i)) h bm bn known good stands =
    (labels, extends_same (site_of b.graph labels), good, λ t. ap (λ v. chosen v (sm (here_in k t) (map (λ f. f t) fs)) (sn (here_in k t) (map (λ f. f t) fs))) (stands t))
decide_ok k m n sm sn locals fs b s labels (Constant (Error e)) h bm bn known good stands =
    (labels, extends_same (site_of b.graph labels), good, λ t. ap (λ v. chosen v (sm (here_in k t) (map (λ f. f t) fs)) (sn (here_in k t) (map (λ f. f t) fs))) (stands t))
decide_ok k m n sm sn locals fs b s labels (Cell c) h bm bn known good stands =
    let ts = turns (all_of k) s in
    let fm = λ (t : Turn). sm (here_in k t) (map (λ f. f t) fs) in
    let fn = λ (t : Turn). sn (here_in k t) (map (λ f. f t) fs) in
    let old = site_of b.graph labels in
    let x = in_arm c true (m locals) b in
    let p = arm_ok k m sm true c h locals fs b s labels bm known good stands in
    let first = site_of x.state.graph p.0 in
    let stands1 = stands_more old first (Cell c) ts h p.1 stands in
    let y = in_arm c false (n locals) x.state in
    let q = arm_ok k n sn false c h locals fs x.state s p.0 bn (known_more old first (all_of k) s locals fs p.1 known) p.2 stands1 in
    let second = site_of y.state.graph q.0 in
    let r = merged_ok k y.state s q.0 q.2 c x.flow y.flow h fm fn (stands_more first second (Cell c) ts h q.1 stands1)
    (stands_more first second x.flow (turns (all_of k) (Under h true ∷ s)) fm q.1 p.3) q.3 in
    after k s b.graph y.state.graph labels q.0 (merge_built whole c y.state x.flow y.flow) (λ t. chosen (h t) (fm t) (fn t)) (extends_both old first second p.1 q.1) r

-- ---- terms

map_push : (fs : List (Turn → Value)) (f : Turn → Value) (t : Turn) → map (λ (g : Turn → Value). g t) (fs ++ f ∷ []) ≡ map (λ (g : Turn → Value). g t) fs ++ f t ∷ []
map_push [] f t = refl
map_push (g ∷ fs) f t = ap (λ vs. g t ∷ vs) (map_push fs f t)

module _ (k : Block) where
  abbrev one : Term → Make
  one = built whole k.turns k.outer

  abbrev P : Term → Type 0
  P e = Builds k (one e) (term_value e)

  abbrev env : List (Turn → Value) → Turn → List Value
  env fs t = map (λ f. f t) fs

  chained_ok : (rest : List ((x : Step) × P x.operand)) (locals : List Local) (fs : List (Turn → Value)) (s : List Setting) (graph : Graph) (labels : List Label) (done : Built) (f : Turn → Value)
      → Known (site_of graph labels) (all_of k) s locals fs → IsBuilt k s graph labels done f
      → (let steps = map (λ (x : (x : Step) × P x.operand). x.0) rest in
      IsBuilt k s graph labels (chained whole done (map (λ (x : Step). (x.with, one x.operand)) steps) locals)
      (λ t. fold (joined_value (here_in k t) (env fs t)) (f t) (map (λ (x : Step). (x.with, term_value x.operand)) steps)))
  chained_ok [] locals fs s graph labels done f known d = d
  chained_ok (x ∷ rest) locals fs s graph labels done f known d =
      let old = site_of graph labels in
      let first = site_of done.state.graph d.0 in
      let g = λ (t : Turn). term_value x.0.operand (here_in k t) (env fs t) in
      let o = one x.0.operand locals done.state in
      let r = x.1 locals fs done.state s d.0 (known_more old first (all_of k) s locals fs d.1 known) d.2 in
      let second = site_of o.state.graph r.0 in
      let j = joined_ok k o.state s r.0 r.2 x.0.with done.flow o.flow f g (stands_more first second done.flow (turns (all_of k) s) f r.1 d.3) r.3 in
      let next = joined whole x.0.with o.state done.flow o.flow in
      chained_ok rest locals fs s graph labels next (λ t. binary_answer x.0.with (f t) (g t)) known
      (after k s graph o.state.graph labels r.0 next (λ t. binary_answer x.0.with (f t) (g t)) (extends_both old first second d.1 r.1) j)

  -- definitions, with the functions that they stand for
  abbrev AreDefined : List Setting → Graph → List Label → Defined → List (Turn → Value) → List Sense → Type 0
  AreDefined s graph labels d fs senses =
      (more : List Label) × (gs : List (Turn → Value)) × Extends (site_of graph labels) (site_of d.state.graph more) × Good k d.state s more
      × Known (site_of d.state.graph more) (all_of k) s d.locals gs × ((t : Turn) → env gs t ≡ fold (defined_value (here_in k t)) (env fs t) senses)

  defined_ok : (ds : List ((e : Term) × P e)) (locals : List Local) (fs : List (Turn → Value)) (b : Building) (s : List Setting) (labels : List Label)
      → Known (site_of b.graph labels) (all_of k) s locals fs → Good k b s labels
      → (let terms = map (λ (e : (e : Term) × P e). e.0) ds in AreDefined s b.graph labels (defined (map one terms) locals b) fs (map term_value terms))
  defined_ok [] locals fs b s labels known good = (labels, fs, extends_same (site_of b.graph labels), good, known, λ t. refl)
  defined_ok (d ∷ ds) locals fs b s labels known good =
      let old = site_of b.graph labels in
      let x = one d.0 locals b in
      let r = d.1 locals fs b s labels known good in
      let first = site_of x.state.graph r.0 in
      let f = λ (t : Turn). term_value d.0 (here_in k t) (env fs t) in
      let level : length x.state.arms ≡ length s = arms_count first (all_of k) x.state.arms s r.2.arms in
      let kept : Kept first (all_of k) s (local_of x) f = record {
        level = omega (arith, level);
        stands = subst (λ ts. Stands first x.flow ts f) (sym (turns_here (length x.state.arms) (all_of k) s (omega (arith, level)))) r.3;
      } in
      let known' = known_bound first (all_of k) s locals fs (local_of x) f (known_more old first (all_of k) s locals fs r.1 known) kept in
      let q = defined_ok ds (locals ++ local_of x ∷ []) (fs ++ f ∷ []) x.state s r.0 known' r.2 in
      let terms = map (λ (e : (e : Term) × P e). e.0) ds in
      let e = defined (map one terms) (locals ++ local_of x ∷ []) x.state in (
        q.0,
        q.1,
        extends_both old first (site_of e.state.graph q.0) r.1 q.2,
        q.3,
        q.4,
        λ t. q.5 t ∙ ap (λ vs. fold (defined_value (here_in k t)) vs (map term_value terms)) (map_push fs f t),
      )

  choose_ok : (branches : List ((a : Branch) × (P a.test × P a.value))) (last : (e : Term) × P e)
      → (let plain = map (λ (a : (a : Branch) × (P a.test × P a.value)). a.0) branches in
      Builds k (choose whole (map (λ (a : Branch). (one a.test, one a.value)) plain) (one last.0))
      (λ here locals. branches_value here locals (term_value last.0 here locals) (map (λ (a : Branch). (term_value a.test, term_value a.value)) plain)))
  choose_ok [] last locals fs b s labels known good = last.1 locals fs b s labels known good
  choose_ok (a ∷ branches) last locals fs b s labels known good =
      let old = site_of b.graph labels in
      let t = one a.0.test locals b in
      let r = a.1.0 locals fs b s labels known good in
      let first = site_of t.state.graph r.0 in
      let plain = map (λ (a : (a : Branch) × (P a.test × P a.value)). a.0) branches in
      let others = choose whole (map (λ (a : Branch). (one a.test, one a.value)) plain) (one last.0) in
      let sense : Sense = λ here locals. branches_value here locals (term_value last.0 here locals) (map (λ (a : Branch). (term_value a.test, term_value a.value)) plain) in
      let h = λ (t : Turn). term_value a.0.test (here_in k t) (env fs t) in
      after k s b.graph t.state.graph labels r.0 (decide whole (one a.0.value locals) (others locals) t.state t.flow)
      (λ t. chosen (h t) (term_value a.0.value (here_in k t) (env fs t)) (sense (here_in k t) (env fs t))) r.1
      (decide_ok k (one a.0.value) others (term_value a.0.value) sense locals fs t.state s r.0 t.flow h a.1.1 (choose_ok branches last) (known_more old first (all_of k) s locals fs r.1 known) r.2 r.3)

  module _ (spell : PatternsSpell) (some : 0 < k.turns.n) (holds : HoldsStand k) (windows : WindowsStand k) where
    form_ok : (y : Proved P) → Builds k (form whole k.turns k.outer (layer_of Make one (without P y))) (layer_sense (layer_of Sense term_value (without P y)))
    form_ok (Term-F.Constant v) locals fs b s labels known good = constant_ok k v locals fs b s labels known good
    form_ok (Term-F.Local x) locals fs b s labels known good = local_ok k x locals fs b s labels known good
    form_ok Term-F.Index locals fs b s labels known good = index_ok k locals fs b s labels known good
    form_ok (Term-F.Outer x) locals fs b s labels known good = outer_ok k x holds some locals fs b s labels known good
    form_ok (Term-F.Element x c) locals fs b s labels known good = element_ok k x c windows some locals fs b s labels known good
    form_ok Term-F.Previous locals fs b s labels known good = previous_ok spell k locals fs b s labels known good
    form_ok (Term-F.Chain first rest) locals fs b s labels known good =
        chained_ok rest locals fs s b.graph labels (one first.0 locals b) (λ t. term_value first.0 (here_in k t) (env fs t)) known (first.1 locals fs b s labels known good)
    form_ok (Term-F.Change how of) locals fs b s labels known good =
        let x = one of.0 locals b in
        let r = of.1 locals fs b s labels known good in
        let f = λ (t : Turn). term_value of.0 (here_in k t) (env fs t) in
        after k s b.graph x.state.graph labels r.0 (changed whole how x.state x.flow) (λ t. unary_answer how (f t)) r.1 (changed_ok k x.state s r.0 r.2 how x.flow f r.3)
    form_ok (Term-F.If branches last) locals fs b s labels known good = choose_ok branches last locals fs b s labels known good
    form_ok (Term-F.Let ds value) locals fs b s labels known good =
        let terms = map (λ (e : (e : Term) × P e). e.0) ds in
        let d = defined (map one terms) locals b in
        let q = defined_ok ds locals fs b s labels known good in
        after k s b.graph d.state.graph labels q.0 (one value.0 d.locals d.state) (λ t. term_value value.0 (here_in k t) (fold (defined_value (here_in k t)) (env fs t) (map term_value terms))) q.2
        (same_built k s d.state.graph q.0 (one value.0 d.locals d.state) (λ t. term_value value.0 (here_in k t) (env q.1 t)) _
        (λ t. ap (term_value value.0 (here_in k t)) (q.5 t)) (value.1 d.locals q.1 d.state s q.0 q.4 q.3))
    form_ok (Term-F.Loop first more test next last) locals fs b s labels known good = constant_ok k undef locals fs b s labels known good

pub terms_are_meant : PatternsSpell → TermsAreMeant
unfolding built term_value
terms_are_meant spell k some = term_induction (P k) (λ y.
    subst (λ (m : Make). Builds k m (term_value (roll-Term (without (P k) y)))) (sym (fold_rolled Make (form whole k.turns k.outer) (without (P k) y)))
    (subst (λ (sense : Sense). Builds k (form whole k.turns k.outer (layer_of Make (one k) (without (P k) y))) sense) (sym (fold_rolled Sense layer_sense (without (P k) y))) (form_ok k spell some (holds_stand k) (windows_stand spell k) y)))
