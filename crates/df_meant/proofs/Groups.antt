-- More nodes, with labels that meet their equations.
use Rattle.std.proofs.Common.{◌≡◌, ◌⊎◌, ℕ, zero, suc, ◌+◌, ◌<◌, ◌≤◌, Bool, false, List, [], ◌∷◌, ◌++◌, length, Option, Some, None, refl, sym, ◌∙◌, ap, subst, inl, inr, arith}
use Rattle.std.specs.Prelude.{slice_get, take}
use Rattle.std.specs.List.{AllByRecursion, count_by, filter}
use Rattle.std.proofs.lemmas.Option.{slice_get_within}
use Rattle.std.proofs.lemmas.List.{take-append-le, length-append}
use Rattle.df_values.specs.declared.values.Value.{Value}
use Rattle.df_cells.specs.declared.cells.Feed.{Feed}
use Rattle.df_cells.specs.declared.cells.Feed.TheVariants as feed
use Rattle.df_cells.specs.Kinds.{is_input}
use Rattle.df_cells.specs.Families.{family}
use Rattle.df_cells.specs.Shifts.{gate_place, merge_place}
use Rattle.df_labels.specs.Graphs.{Graph, Node}
use Rattle.df_labels.specs.Labels.{Turn, Stream, answered}
use Rattle.df_labels.specs.declared.graphs.Flow.{Flow}
use Rattle.df_labels.specs.declared.graphs.Flow.TheVariants.{Constant, Cell}
use Rattle.df_labels.specs.Flows.{arc}
use Rattle.df_meant.specs.Sites.{given_of, Ends, Given, Label, Site, site_of, pattern_at, pattern_from, gate_of, delayed, stream, Comes, IsPlain, Gives, Stands, values_in, MeetsNode, Meeting, Extends}
use Rattle.df_meant.proofs.Streams.{delayed_none, one_delayed, same_kept, stream_same}

-- ---- lists

pub same_some : {A : Type 0} (x y : A) → Some x ≡ Some y → x ≡ y
same_some x y e = cc

pub none_some : {A : Type 0} (x : A) → None ≡ Some x → ⊥
none_some x e = cc

pub push_old : {A : Type 0} (xs ys : List A) (i : ℕ) (x : A) → slice_get xs i ≡ Some x → slice_get (xs ++ ys) i ≡ Some x
push_old [] ys i x e = absurd (none_some x e)
push_old (y ∷ xs) ys zero x e = e
push_old (y ∷ xs) ys (suc i) x e = push_old xs ys i x e

pub push_new : {A : Type 0} (xs : List A) (y : A) → slice_get (xs ++ y ∷ []) (length xs) ≡ Some y
push_new [] y = refl
push_new (x ∷ xs) y = push_new xs y

pub all_at : {A : Type 0} (P : A → Type 0) (xs : List A) (i : ℕ) (x : A) → AllByRecursion P xs → slice_get xs i ≡ Some x → P x
all_at P [] i x ps e = absurd (none_some x e)
all_at P (y ∷ xs) zero x ps e = subst P (same_some y x e) ps.0
all_at P (y ∷ xs) (suc i) x ps e = all_at P xs i x ps.1 e

pub append_cases : {A : Type 0} (xs ys : List A) (i : ℕ) (x : A) → slice_get (xs ++ ys) i ≡ Some x → (slice_get xs i ≡ Some x) ⊎ ((j : ℕ) × (i ≡ length xs + j) × (slice_get ys j ≡ Some x))
append_cases [] ys i x e = inr (i, omega arith, e)
append_cases (z ∷ xs) ys zero x e = inl e
append_cases (z ∷ xs) ys (suc i) x e = shifted (append_cases xs ys i x e)
  where
    up : (i n j : ℕ) → i ≡ n + j → suc i ≡ suc n + j
    up i n j e = omega arith

    shifted : (slice_get xs i ≡ Some x) ⊎ ((j : ℕ) × (i ≡ length xs + j) × (slice_get ys j ≡ Some x)) → (slice_get xs i ≡ Some x) ⊎ ((j : ℕ) × (suc i ≡ suc (length xs) + j) × (slice_get ys j ≡ Some x))
    shifted (inl e) = inl e
    shifted (inr p) = inr (p.0, up i (length xs) p.0 p.1, p.2)

pub push_at : {A : Type 0} (xs ys : List A) (j : ℕ) (y : A) → slice_get ys j ≡ Some y → slice_get (xs ++ ys) (length xs + j) ≡ Some y
push_at [] ys j y e = let z : 0 + j ≡ j = omega arith in ap (slice_get ys) z ∙ e
push_at (x ∷ xs) ys j y e = let z : suc (length xs) + j ≡ suc (length xs + j) = omega arith in ap (slice_get (x ∷ (xs ++ ys))) z ∙ push_at xs ys j y e

-- ---- more nodes

abbrev pub comes_more : (old new : Site) (u : ℕ) (s : Stream) → Extends old new → Comes old u s → Comes new u s
comes_more old new u s e c = record {
  from = c.from;
  node = e.node u c.from c.node;
  label = c.label;
  at = e.label u c.label c.at;
  same = c.same ∙ ap (λ vs. delayed (gate_place (family c.from.kind) vs) s) (sym (e.pattern' u c.from c.node));
}

pub stands_more : (old new : Site) (flow : Flow) (ts : List Turn) (f : Turn → Value) → Extends old new → Stands old flow ts f → Stands new flow ts f
stands_more old new (Cell u) ts f e s = record { comes = comes_more old new u (stream ts f) e s.comes; plain = s.plain }
stands_more old new (Constant v) ts f e s = s

pub extends_same : (site : Site) → Extends site site
extends_same site = record { label = λ u m h. h; node = λ u from h. h; pattern' = λ u from h. refl }

pub extends_both : (a b c : Site) → Extends a b → Extends b c → Extends a c
extends_both a b c e f = record {
  label = λ u m h. f.label u m (e.label u m h);
  node = λ u from h. f.node u from (e.node u from h);
  pattern' = λ u from h. f.pattern' u from (e.node u from h) ∙ e.pattern' u from h;
}

pattern_more : (graph group : Graph) (o : Option Feed) → ((c : ℕ) → o ≡ Some (arc c) → (from : Node) × (slice_get graph c ≡ Some from)) → pattern_from (graph ++ group) o ≡ pattern_from graph o
pattern_more graph group None h = refl
pattern_more graph group (Some (feed.Constant v)) h = refl
pattern_more graph group (Some (feed.Loaded u v)) h = refl
pattern_more graph group (Some (feed.Arc c)) h = let p = h c.0 refl in ap pattern_at (push_old graph group c.0 p.0 p.1 ∙ sym p.1)

pub extends_push : (is_open : ℕ → Bool) (graph group : Graph) (inputs : Ends) (labels ls : List Label) → Meeting is_open graph inputs labels
    → Extends (site_of graph labels) (site_of (graph ++ group) (labels ++ ls))
extends_push is_open graph group inputs labels ls meet = record {
  label = λ u m h. push_old labels ls u m h;
  node = λ u from h. push_old graph group u from h;
  pattern' = λ u from h. pattern_more graph group (slice_get from.ports 0) (λ c e. meet.inside u from c h e);
}

meets_more : (old new : Site) (values : Given) (u : ℕ) (node : Node) (l : Label) → Extends old new → slice_get old.graph u ≡ Some node → MeetsNode old values node l → MeetsNode new values node l
meets_more old new values u node l e at meets = record {
  sources = meets.sources;
  single = meets.single;
  rising = meets.rising;
  arcs = λ p v fed. let a = meets.arcs p v fed in
      (a.0, comes_more old new v a.0 e a.1, a.2 ∙ ap (λ vs. delayed (merge_place (family node.kind) p vs) a.0) (sym (e.pattern' u node at)));
  right = meets.right;
  outputs = meets.outputs;
  receives = meets.receives;
  whole = meets.whole;
  unloaded = meets.unloaded;
}

values_push : (graph group : Graph) (inputs : Ends) (c : ℕ) → c ≤ length graph → values_in (graph ++ group) inputs c ≡ values_in graph inputs c
values_push graph group inputs c h = ap (λ front. given_of inputs (count_by (λ node. is_input node.kind) front)) (take-append-le c graph group h)

-- each node of the group that isn't open meets its equations among all, whatever the inputs are: it is no IN
abbrev pub ClosedMeet : (ℕ → Bool) → ℕ → Site → Graph → List Label → Type 0
ClosedMeet is_open n site group ls = (i : ℕ) (node : Node) (l : Label) (values : Given) → slice_get group i ≡ Some node → slice_get ls i ≡ Some l → is_open (n + i) ≡ false → MeetsNode site values node l

-- each node of the group does
abbrev pub MeetsGroup : Site → Graph → List Label → Type 0
MeetsGroup site group ls = (i : ℕ) (node : Node) (l : Label) (values : Given) → slice_get group i ≡ Some node → slice_get ls i ≡ Some l → MeetsNode site values node l

-- the same with the results that shall go out
abbrev pub ClosedMeetOf : Ends → (ℕ → Bool) → ℕ → Site → Graph → List Label → Type 0
ClosedMeetOf ends is_open n site group ls = (i : ℕ) (node : Node) (l : Label) (j : ℕ) → slice_get group i ≡ Some node → slice_get ls i ≡ Some l → is_open (n + i) ≡ false → MeetsNode site (given_of ends j) node l

abbrev pub MeetsGroupOf : Ends → Site → Graph → List Label → Type 0
MeetsGroupOf ends site group ls = (i : ℕ) (node : Node) (l : Label) (j : ℕ) → slice_get group i ≡ Some node → slice_get ls i ≡ Some l → MeetsNode site (given_of ends j) node l

module _ (is_open : ℕ → Bool) (graph group : Graph) (inputs : Ends) (labels ls : List Label) (meet : Meeting is_open graph inputs labels) where
  abbrev old : Site
  old = site_of graph labels

  abbrev new : Site
  new = site_of (graph ++ group) (labels ++ ls)

  meet_group_at : ClosedMeetOf inputs is_open (length graph) new group ls → (c : ℕ) (it : Node) (m : Label)
      → (slice_get graph c ≡ Some it) ⊎ ((j : ℕ) × (c ≡ length graph + j) × (slice_get group j ≡ Some it))
      → (slice_get labels c ≡ Some m) ⊎ ((j : ℕ) × (c ≡ length labels + j) × (slice_get ls j ≡ Some m)) → is_open c ≡ false
      → MeetsNode new (values_in (graph ++ group) inputs c) it m
  meet_group_at all c it m (inl a) (inl b) closed =
      let within : c < length graph = slice_get_within graph c it a in
      subst (λ v. MeetsNode new v it m) (sym (values_push graph group inputs c (omega arith)))
      (meets_more old new (values_in graph inputs c) c it m (extends_push is_open graph group inputs labels ls meet) a (meet.each c it m a b closed))
  meet_group_at all c it m (inl a) (inr b) closed =
      let within : c < length graph = slice_get_within graph c it a in
      absurd (clash c (length graph) (length labels) b.0 within meet.long b.1)
    where
      clash : (c n k j : ℕ) → c < n → k ≡ n → c ≡ k + j → ⊥
      clash c n k j l e f = omega arith
  meet_group_at all c it m (inr a) (inl b) closed =
      let within : c < length labels = slice_get_within labels c m b in
      absurd (clash c (length graph) (length labels) a.0 within meet.long a.1)
    where
      clash : (c n k j : ℕ) → c < k → k ≡ n → c ≡ n + j → ⊥
      clash c n k j l e f = omega arith
  meet_group_at all c it m (inr a) (inr b) closed =
      let same : b.0 ≡ a.0 = one (length graph) (length labels) c a.0 b.0 meet.long a.1 b.1 in
      all a.0 it m (count_by (λ (node : Node). is_input node.kind) (take c (graph ++ group))) a.2 (ap (slice_get ls) (sym same) ∙ b.2) (ap is_open (sym a.1) ∙ closed)
    where
      one : (n k c i j : ℕ) → k ≡ n → c ≡ n + i → c ≡ k + j → j ≡ i
      one n k c i j e f g = omega arith

  inside_at : ((i : ℕ) (from : Node) (c : ℕ) → slice_get group i ≡ Some from → slice_get from.ports 0 ≡ Some (arc c) → (it : Node) × (slice_get (graph ++ group) c ≡ Some it))
      → (u : ℕ) (from : Node) (c : ℕ) → (slice_get graph u ≡ Some from) ⊎ ((j : ℕ) × (u ≡ length graph + j) × (slice_get group j ≡ Some from)) → slice_get from.ports 0 ≡ Some (arc c)
      → (it : Node) × (slice_get (graph ++ group) c ≡ Some it)
  inside_at h u from c (inl a) e = let p = meet.inside u from c a e in (p.0, push_old graph group c p.0 p.1)
  inside_at h u from c (inr a) e = h a.0 from c a.2 e

  -- the control of a node that meets its equations is there: its stream comes from it
  inside_group : MeetsGroupOf inputs new group ls → length ls ≡ length group → (i : ℕ) (from : Node) (c : ℕ) → slice_get group i ≡ Some from → slice_get from.ports 0 ≡ Some (arc c) → (it : Node) × (slice_get (graph ++ group) c ≡ Some it)
  inside_group all long i from c at e =
      let within : i < length group = slice_get_within group i from at in
      let l = get_within ls i (omega (arith, within, long)) in
      let a = (all i from l.0 0 at l.1).arcs 0 c e in (a.1.from, a.1.node)
    where
      get_within : {A : Type 0} (xs : List A) (i : ℕ) → i < length xs → (x : A) × (slice_get xs i ≡ Some x)
      get_within [] i h = absurd (omega arith)
      get_within (x ∷ xs) zero h = (x, refl)
      get_within (x ∷ xs) (suc i) h = get_within xs i (omega arith)

  meet_open_of : length ls ≡ length group → ClosedMeetOf inputs is_open (length graph) new group ls
      → ((i : ℕ) (from : Node) (c : ℕ) → slice_get group i ≡ Some from → slice_get from.ports 0 ≡ Some (arc c) → (it : Node) × (slice_get (graph ++ group) c ≡ Some it))
      → Meeting is_open (graph ++ group) inputs (labels ++ ls)
  meet_open_of long all inside = record {
    long = let a : length labels ≡ length graph = meet.long in
        let b : length (labels ++ ls) ≡ length labels + length ls = length-append labels ls in
        let d : length (graph ++ group) ≡ length graph + length group = length-append graph group in omega arith;
    each = λ c it m a b closed. meet_group_at all c it m (append_cases graph group c it a) (append_cases labels ls c m b) closed;
    inside = λ u from c a e. inside_at inside u from c (append_cases graph group u from a) e;
  }

  pub meet_open : length ls ≡ length group → ClosedMeet is_open (length graph) new group ls
      → ((i : ℕ) (from : Node) (c : ℕ) → slice_get group i ≡ Some from → slice_get from.ports 0 ≡ Some (arc c) → (it : Node) × (slice_get (graph ++ group) c ≡ Some it))
      → Meeting is_open (graph ++ group) inputs (labels ++ ls)
  meet_open long all inside = meet_open_of long (λ i node l j a b closed. all i node l (given_of inputs j) a b closed) inside

  pub meet_group_of : length ls ≡ length group → MeetsGroupOf inputs new group ls → Meeting is_open (graph ++ group) inputs (labels ++ ls)
  meet_group_of long all = meet_open_of long (λ i node l j a b closed. all i node l j a b) (inside_group all long)

  pub meet_group : length ls ≡ length group → MeetsGroup new group ls → Meeting is_open (graph ++ group) inputs (labels ++ ls)
  meet_group long all = meet_group_of long (λ i node l j a b. all i node l (given_of inputs j) a b)

pub meet_push_of : (is_open : ℕ → Bool) (graph : Graph) (inputs : Ends) (labels : List Label) (node : Node) (l : Label) → Meeting is_open graph inputs labels
    → ((j : ℕ) → MeetsNode (site_of (graph ++ node ∷ []) (labels ++ l ∷ [])) (given_of inputs j) node l) → Meeting is_open (graph ++ node ∷ []) inputs (labels ++ l ∷ [])
meet_push_of is_open graph inputs labels node l meet new = meet_group_of is_open graph (node ∷ []) inputs labels (l ∷ []) meet refl only_one
  where
    only_one : MeetsGroupOf inputs (site_of (graph ++ node ∷ []) (labels ++ l ∷ [])) (node ∷ []) (l ∷ [])
    only_one zero it m j a b =
        subst (λ x. MeetsNode (site_of (graph ++ node ∷ []) (labels ++ l ∷ [])) (given_of inputs j) x m) (same_some node it a)
        (subst (λ x. MeetsNode (site_of (graph ++ node ∷ []) (labels ++ l ∷ [])) (given_of inputs j) node x) (same_some l m b) (new j))
    only_one (suc i) it m j a b = absurd (none_some it a)

pub meet_push : (is_open : ℕ → Bool) (graph : Graph) (inputs : Ends) (labels : List Label) (node : Node) (l : Label) → Meeting is_open graph inputs labels
    → ((values : Given) → MeetsNode (site_of (graph ++ node ∷ []) (labels ++ l ∷ [])) values node l) → Meeting is_open (graph ++ node ∷ []) inputs (labels ++ l ∷ [])
meet_push is_open graph inputs labels node l meet new = meet_group is_open graph (node ∷ []) inputs labels (l ∷ []) meet refl only_one
  where
    only_one : MeetsGroup (site_of (graph ++ node ∷ []) (labels ++ l ∷ [])) (node ∷ []) (l ∷ [])
    only_one zero it m values a b =
        subst (λ x. MeetsNode (site_of (graph ++ node ∷ []) (labels ++ l ∷ [])) values x m) (same_some node it a)
        (subst (λ x. MeetsNode (site_of (graph ++ node ∷ []) (labels ++ l ∷ [])) values node x) (same_some l m b) (new values))
    only_one (suc i) it m values a b = absurd (none_some it a)

-- ---- what built values stand for

pub stands_same : (site : Site) (flow : Flow) (ts : List Turn) (f g : Turn → Value) → ((t : Turn) → f t ≡ g t) → Stands site flow ts f → Stands site flow ts g
stands_same site (Cell u) ts f g h s = subst (Gives site u) (stream_same ts f g h) s
stands_same site (Constant v) ts f g h s = λ t. sym (h t) ∙ s t

-- what a group's node gives
abbrev pub comes_group : (graph group : Graph) (labels ls : List Label) (j : ℕ) (node : Node) (l : Label) (s : Stream) → length labels ≡ length graph → slice_get group j ≡ Some node → slice_get ls j ≡ Some l
    → answered l ≡ delayed (gate_of (graph ++ group) node) s → Comes (site_of (graph ++ group) (labels ++ ls)) (length graph + j) s
comes_group graph group labels ls j node l s long a b e = record {
  from = node;
  node = push_at graph group j node a;
  label = l;
  at = ap (slice_get (labels ++ ls)) (ap (λ n. n + j) (sym long)) ∙ push_at labels ls j l b;
  same = e;
}

pub gives_push : (graph : Graph) (labels : List Label) (node : Node) (l : Label) (s : Stream) → length labels ≡ length graph → IsPlain node.kind → gate_of (graph ++ node ∷ []) node ≡ 0 → answered l ≡ s
    → Gives (site_of (graph ++ node ∷ []) (labels ++ l ∷ [])) (length graph) s
gives_push graph labels node l s long plain part e = record {
  comes = record {
    from = node;
    node = push_new graph node;
    label = l;
    at = subst (λ n. slice_get (labels ++ l ∷ []) n ≡ Some l) long (push_new labels l);
    same = e ∙ sym (delayed_none s) ∙ ap (λ g. delayed g s) (sym part);
  };
  plain = plain;
}

-- one cell gives one stream
pub one_stream : (site : Site) (u : ℕ) (s r : Stream) → Comes site u s → Comes site u r → s ≡ r
one_stream site u s r a b =
    let from = same_some a.from b.from (sym a.node ∙ b.node) in
    let label = same_some a.label b.label (sym a.at ∙ b.at) in
    one_delayed (gate_of site.graph a.from) s r
    (sym a.same ∙ ap answered label ∙ b.same ∙ ap (λ (node : Node). delayed (gate_of site.graph node) r) (sym from))

-- the gate of a stream gives what the stream gives, on the turns that pass
pub gate_stands : (site : Site) (u d : ℕ) (ts : List Turn) (q : Turn → Bool) (f g : Turn → Value) → Stands site (Cell u) ts g → Stands site (Cell d) (filter q ts) g
    → Stands site (Cell u) ts f → Stands site (Cell d) (filter q ts) f
gate_stands site u d ts q f g su sd a =
    subst (Gives site d) (same_kept ts g f q (one_stream site u (stream ts g) (stream ts f) su.comes a.comes)) sd
