-- A port of an open cell is fed: what comes from all cells stays the same.
use Rattle.std.proofs.Common.{◌≡◌, ◌≢◌, inl, inr, ℕ, zero, suc, ◌+◌, Bool, true, false, cond, List, [], ◌∷◌, set, take, Option, Some, None, refl, sym, ◌∙◌, ap, subst}
use Rattle.std.specs.Prelude.{slice_get, ◌==◌}
use Rattle.std.specs.List.{count_by}
use Rattle.std.proofs.lemmas.Bool.{eqb-true, cases_eq}
use Rattle.std.proofs.lemmas.List.{length-set}
use Rattle.std.proofs.lemmas.List.Sums.{sum_by-cons}
use Rattle.df_values.specs.declared.values.Value.{Value}
use Rattle.df_cells.specs.declared.cells.Feed.{Feed}
use Rattle.df_cells.specs.declared.cells.Feed.TheVariants as feed
use Rattle.df_cells.specs.Kinds.{is_input}
use Rattle.df_cells.specs.Families.{family}
use Rattle.df_cells.specs.Shifts.{first_truth, control_values, gate_place, merge_place}
use Rattle.df_labels.specs.Graphs.{Graph, Node}
use Rattle.df_labels.specs.Labels.{Turn, Stream}
use Rattle.df_labels.specs.declared.graphs.Flow.{Flow}
use Rattle.df_build_terms.specs.declared.building.Outside.{Outside}
use Rattle.df_build_terms.specs.declared.building.Outside.TheVariants as outside
use Rattle.df_labels.specs.declared.graphs.Flow.TheVariants.{Constant, Cell}
use Rattle.df_build_terms.specs.Outer.{single, many}
use Rattle.df_meant.specs.Sites.{given_of, Ends, Given, Label, Site, site_of, pattern_at, pattern_from, pattern_of, delayed, stream, Comes, Gives, Stands, values_in, MeetsNode, Meeting, block_turns}
use Rattle.df_core.specs.Meaning.{Made, scalar_of}
use Rattle.df_meant.specs.Builds.{IsShaped, Fits}
use Rattle.df_meant.specs.SameGraph.{no_open}
use Rattle.df_meant.proofs.Groups.{same_some, none_some}

get_set : {A : Type 0} (xs : List A) (m : ℕ) (x y : A) → slice_get xs m ≡ Some x → slice_get (set xs m y) m ≡ Some y
get_set [] m x y e = absurd (none_some x e)
get_set (z ∷ xs) zero x y e = refl
get_set (z ∷ xs) (suc m) x y e = get_set xs m x y e

get_other : {A : Type 0} (xs : List A) (m c : ℕ) (y : A) → c ≢ m → slice_get (set xs m y) c ≡ slice_get xs c
get_other [] m c y n = refl
get_other (z ∷ xs) zero zero y n = absurd (n refl)
get_other (z ∷ xs) zero (suc c) y n = refl
get_other (z ∷ xs) (suc m) zero y n = refl
get_other (z ∷ xs) (suc m) (suc c) y n = get_other xs m c y (λ e. n (ap suc e))

-- as many inputs stand before each cell
abbrev is_in : Node → Bool
is_in x = is_input x.kind

count_cons : (x : Node) (g : Graph) → count_by is_in (x ∷ g) ≡ cond (is_in x) 1 0 + count_by is_in g
count_cons x g = sum_by-cons (λ (y : Node). cond (is_in y) 1 0) x g

inputs_set : (g : Graph) (m c : ℕ) (node node' : Node) → slice_get g m ≡ Some node → is_input node'.kind ≡ is_input node.kind → count_by is_in (take c (set g m node')) ≡ count_by is_in (take c g)
inputs_set [] m c node node' at same = absurd (none_some node at)
inputs_set (x ∷ g) zero zero node node' at same = refl
inputs_set (x ∷ g) (suc m) zero node node' at same = refl
inputs_set (x ∷ g) zero (suc c) node node' at same =
    count_cons node' (take c g) ∙ ap (λ b. cond b 1 0 + count_by is_in (take c g)) (same ∙ ap is_in (sym (same_some x node at))) ∙ sym (count_cons x (take c g))
inputs_set (x ∷ g) (suc m) (suc c) node node' at same =
    count_cons x (take c (set g m node')) ∙ ap (λ n. cond (is_in x) 1 0 + n) (inputs_set g m c node node' at same) ∙ sym (count_cons x (take c g))

module _ (graph : Graph) (inputs : Ends) (labels : List Label) (m : ℕ) (node node' : Node) (at : slice_get graph m ≡ Some node) (kind_same : node'.kind ≡ node.kind)
    (port_same : slice_get node'.ports 0 ≡ slice_get node.ports 0) where
  abbrev fed_graph : Graph
  fed_graph = set graph m node'

  abbrev old : Site
  old = site_of graph labels

  abbrev new : Site
  new = site_of fed_graph labels

  pub pattern_same : (c : ℕ) → pattern_at (slice_get fed_graph c) ≡ pattern_at (slice_get graph c)
  pattern_same c = elim (cases_eq c m) [
    | inl e ↦ ap (λ d. pattern_at (slice_get fed_graph d)) e ∙ ap pattern_at (get_set graph m node node' at) ∙ ap control_values kind_same
        ∙ sym (ap pattern_at at) ∙ ap (λ d. pattern_at (slice_get graph d)) (sym e)
    | inr n ↦ ap pattern_at (get_other graph m c node' n)
  ]

  from_same : (o : Option Feed) → pattern_from fed_graph o ≡ pattern_from graph o
  from_same None = refl
  from_same (Some (feed.Constant v)) = refl
  from_same (Some (feed.Loaded u v)) = refl
  from_same (Some (feed.Arc c)) = pattern_same c.0

  -- what comes from a cell, and whether it is plain
  abbrev gives_fed : (u : ℕ) (s : Stream) → Gives old u s → Gives new u s
  gives_fed u s g = elim (cases_eq u m) [
    | inl e ↦
        let from : g.comes.from ≡ node = same_some g.comes.from node (sym g.comes.node ∙ ap (slice_get graph) e ∙ at) in
        let kinds : node'.kind ≡ g.comes.from.kind = kind_same ∙ ap (λ (x : Node). x.kind) (sym from) in
        let ports : slice_get node'.ports 0 ≡ slice_get g.comes.from.ports 0 = port_same ∙ ap (λ (x : Node). slice_get x.ports 0) (sym from) in
        record {
          comes = record {
            from = node';
            node = ap (slice_get fed_graph) e ∙ get_set graph m node node' at;
            label = g.comes.label;
            at = g.comes.at;
            same = g.comes.same ∙ ap (λ k. delayed (gate_place (family k) (pattern_of graph g.comes.from)) s) (sym kinds)
                ∙ ap (λ o. delayed (gate_place (family node'.kind) (pattern_from graph o)) s) (sym ports) ∙ ap (λ vs. delayed (gate_place (family node'.kind) vs) s) (sym (from_same (slice_get node'.ports 0)));
          };
          plain = λ side. ap (λ k. first_truth side (control_values k)) kinds ∙ g.plain side;
        }
    | inr n ↦ record {
      comes = record {
        from = g.comes.from;
        node = get_other graph m u node' n ∙ g.comes.node;
        label = g.comes.label;
        at = g.comes.at;
        same = g.comes.same ∙ ap (λ vs. delayed (gate_place (family g.comes.from.kind) vs) s) (sym (from_same (slice_get g.comes.from.ports 0)));
      };
      plain = g.plain;
    }
  ]

  pub stands_fed : (flow : Flow) (ts : List Turn) (f : Turn → Value) → Stands old flow ts f → Stands new flow ts f
  stands_fed (Constant v) ts f s = s
  stands_fed (Cell u) ts f s = gives_fed u (stream ts f) s

  -- the same of a cell that may not be plain
  pub comes_fed : (u : ℕ) (s : Stream) → Comes old u s → Comes new u s
  comes_fed u s c = elim (cases_eq u m) [
    | inl e ↦
        let from : c.from ≡ node = same_some c.from node (sym c.node ∙ ap (slice_get graph) e ∙ at) in
        let kinds : node'.kind ≡ c.from.kind = kind_same ∙ ap (λ (x : Node). x.kind) (sym from) in
        let ports : slice_get node'.ports 0 ≡ slice_get c.from.ports 0 = port_same ∙ ap (λ (x : Node). slice_get x.ports 0) (sym from) in
        record {
          from = node';
          node = ap (slice_get fed_graph) e ∙ get_set graph m node node' at;
          label = c.label;
          at = c.at;
          same = c.same ∙ ap (λ k. delayed (gate_place (family k) (pattern_of graph c.from)) s) (sym kinds)
              ∙ ap (λ o. delayed (gate_place (family node'.kind) (pattern_from graph o)) s) (sym ports) ∙ ap (λ vs. delayed (gate_place (family node'.kind) vs) s) (sym (from_same (slice_get node'.ports 0)));
        }
    | inr n ↦ record {
      from = c.from;
      node = get_other graph m u node' n ∙ c.node;
      label = c.label;
      at = c.at;
      same = c.same ∙ ap (λ vs. delayed (gate_place (family c.from.kind) vs) s) (sym (from_same (slice_get c.from.ports 0)));
    }
  ]

  meets_fed : (values : Given) (x : Node) (l : Label) → MeetsNode old values x l → MeetsNode new values x l
  meets_fed values x l meets = record {
    sources = meets.sources;
    single = meets.single;
    rising = meets.rising;
    arcs = λ p u e. let a = meets.arcs p u e in (a.0, comes_fed u a.0 a.1, a.2 ∙ ap (λ vs. delayed (merge_place (family x.kind) p vs) a.0) (sym (from_same (slice_get x.ports 0))));
    right = meets.right;
    outputs = meets.outputs;
    receives = meets.receives;
    whole = meets.whole;
    unloaded = meets.unloaded;
  }

  there_fed : (c : ℕ) → (it : Node) × (slice_get graph c ≡ Some it) → (it : Node) × (slice_get fed_graph c ≡ Some it)
  there_fed c p = elim (cases_eq c m) [
    | inl e ↦ (node', ap (slice_get fed_graph) e ∙ get_set graph m node node' at)
    | inr n ↦ (p.0, get_other graph m c node' n ∙ p.1)
  ]

  values_fed : (c : ℕ) → values_in fed_graph inputs c ≡ values_in graph inputs c
  values_fed c = ap (given_of inputs) (inputs_set graph m c node node' at (ap is_input kind_same))

  pub meeting_closed : (label : Label) → Meeting (λ c. c == m) graph inputs labels → slice_get labels m ≡ Some label → ((values : Given) → MeetsNode new values node' label) → Meeting no_open fed_graph inputs labels
  meeting_closed label meet at_label meets = record {
    long = meet.long ∙ sym (length-set graph m node');
    each = λ c x l a b _. elim (cases_eq c m) [
      | inl e ↦
          let same_node : node' ≡ x = same_some node' x (sym (get_set graph m node node' at) ∙ ap (slice_get fed_graph) (sym e) ∙ a) in
          let same_label : label ≡ l = same_some label l (sym at_label ∙ ap (slice_get labels) (sym e) ∙ b) in
          subst (λ y. MeetsNode new (values_in fed_graph inputs c) y l) same_node (subst (λ y. MeetsNode new (values_in fed_graph inputs c) node' y) same_label (meets (values_in fed_graph inputs c)))
      | inr n ↦
          let x_old = sym (get_other graph m c node' n) ∙ a in
          subst (λ v. MeetsNode new v x l) (sym (values_fed c)) (meets_fed (values_in graph inputs c) x l (meet.each c x l x_old b (eqb_no c m n)))
    ];
    inside = λ u from c a e. elim (cases_eq u m) [
      | inl same ↦
          let same_node : node' ≡ from = same_some node' from (sym (get_set graph m node node' at) ∙ ap (slice_get fed_graph) (sym same) ∙ a) in
          there_fed c (meet.inside m node c at (sym port_same ∙ ap (λ (x : Node). slice_get x.ports 0) same_node ∙ e))
      | inr n ↦ there_fed c (meet.inside u from c (sym (get_other graph m u node' n) ∙ a) e)
    ];
  }
    where
      eqb_no : (a b : ℕ) → (a ≡ b → ⊥) → (a == b) ≡ false
      eqb_no a b n = go (a == b) refl
        where
          go : (t : Bool) → (a == b) ≡ t → t ≡ false
          go true h = absurd (n (eqb-true a b h))
          go false h = refl

  shape_fed : (o : Outside) (x : Made) → IsShaped old (Some o) x → IsShaped new (Some o) x
  shape_fed (outside.Single f) x h = h
  shape_fed (outside.Many a) x h = (gives_fed a.cell _ h.0, h.1)

  pub fits_fed : (outer : List Outside) (made : List Made) → Fits old outer made → Fits new outer made
  fits_fed [] [] h = tt
  fits_fed (o ∷ outer) (x ∷ made) h = (
    record {
      flow = stands_fed (single (Some o)) (block_turns 0 1) (λ _. scalar_of x) h.0.flow;
      array = record { lowest = h.0.array.lowest; count = h.0.array.count; comes = λ some. gives_fed (many (Some o)).cell _ (h.0.array.comes some) };
      shape = shape_fed o x h.0.shape;
    },
    fits_fed outer made h.1,
  )
  fits_fed [] (x ∷ made) h = absurd h
  fits_fed (o ∷ outer) [] h = absurd h
