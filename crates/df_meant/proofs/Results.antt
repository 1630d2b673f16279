-- OUT cells, and what they receive.
use Rattle.std.proofs.Common.{◌≡◌, ℕ, zero, suc, ◌+◌, ◌-◌, ◌<◌, true, List, [], ◌∷◌, ◌++◌, get_or, length, Option, Some, None, refl, sym, ◌∙◌, ap, subst, arith}
use Rattle.std.specs.Prelude.{slice_get, fold}
use Rattle.std.specs.List.{filter}
use Rattle.df_values.specs.declared.values.Value.{Value}
use Rattle.df_values.specs.declared.values.Value.TheVariants.{Error}
use Rattle.df_values.specs.declared.values.ErrorValue.TheVariants.{MissElt}
use Rattle.df_cells.specs.declared.kinds.Kind.TheVariants as kind
use Rattle.df_cells.specs.Firings.{answer}
use Rattle.df_labels.specs.Graphs.{Graph, Node}
use Rattle.df_labels.specs.Labels.{Turn, stream_values, received, in_order_from, block_turn}
use Rattle.df_labels.specs.declared.graphs.Flow.TheVariants.{Cell}
use Rattle.df_build_terms.specs.declared.building.Outside.{Outside}
use Rattle.df_build_terms.specs.declared.building.Outside.TheVariants as outside
use Rattle.df_build_elem.specs.Blocks.{listed}
use Rattle.df_build_elem.specs.Program.{result_of, result_more}
use Rattle.df_meant.specs.Sites.{Ends, given_of, Label, Site, site_of, side_of, stream, Gives, Meeting, Extends, block_turns}
use Rattle.df_meant.specs.Senses.{members_of}
use Rattle.df_core.specs.Meaning.{Made, values_of, values_of}
use Rattle.df_core.specs.Meaning.{scalar_of, made_at}
use Rattle.df_build_cond.specs.Growth.{whole}
use Rattle.df_meant.specs.Builds.{OutsideStands, Fits}
use Rattle.df_meant.specs.SameGraph.{no_open}
use Rattle.df_meant.proofs.Streams.{on_turns, received_on, filter_all, length_on, length_block, turns_block}
use Rattle.df_meant.proofs.Groups.{extends_same, extends_both, extends_push, push_at, comes_more, meet_push, meet_push_of, gives_push, none_some}
use Rattle.df_meant.proofs.Fed.{Supply, always, takings, takings_at, fed_node, ArcFeeds, fed_with, at_one, all_wanted}
use Rattle.df_meant.proofs.Forms.{meets_source, fits_at, fits_more}
use Rattle.df_meant.proofs.Patterns.{stream_on}
use Rattle.df_meant.proofs.Holding.{feeds_comes}
use Rattle.df_meant.proofs.Blocks.{listed_made}

-- the values of a stream of a list are the list
values_listed : (vs : List Value) (j n : ℕ) (F : ℕ → Value) → n ≡ length vs → ((i : ℕ) → i < n → F (j + i) ≡ get_or vs i (Error MissElt)) → stream_values (stream (block_turns j n) (λ t. F (block_turn t))) ≡ vs
values_listed [] j zero F long h = refl
values_listed [] j (suc n) F long h = absurd (never n long)
  where
    never : (n : ℕ) → suc n ≡ 0 → ⊥
    never n e = omega (arith, e)
values_listed (v ∷ vs) j zero F long h = absurd (never (length vs) long)
  where
    never : (n : ℕ) → 0 ≡ suc n → ⊥
    never n e = omega (arith, e)
values_listed (v ∷ vs) j (suc n) F long h =
    let z : j ≡ j + 0 = omega arith in
    let here : F j ≡ v = ap F z ∙ h 0 (omega arith) in
    let fewer : n ≡ length vs = less n (length vs) long in
    ap (λ w. w ∷ stream_values (stream (block_turns (j + 1) n) (λ t. F (block_turn t)))) here
    ∙ ap (λ ws. v ∷ ws) (values_listed vs (j + 1) n F fewer (λ i l. let e : j + 1 + i ≡ j + suc i = omega arith in ap F e ∙ h (suc i) (omega (arith, l))))
  where
    less : (m n : ℕ) → suc m ≡ suc n → m ≡ n
    less m n e = omega (arith, e)

count_same : (a b c d : ℕ) → kind.Out a b ≡ kind.Out c d → b ≡ d
count_same a b c d e = cc

number_same : (a b c d : ℕ) → kind.Out a b ≡ kind.Out c d → a ≡ c
number_same a b c d e = cc

-- an OUT of this number is there
abbrev pub HasOut : Graph → ℕ → Type 0
HasOut graph k = (c : ℕ) × (n : ℕ) × (node : Node) × (slice_get graph c ≡ Some node) × (node.kind ≡ kind.Out k n)

out_more : (old new : Site) (k : ℕ) → Extends old new → HasOut old.graph k → HasOut new.graph k
out_more old new k e h = (h.0, h.1, h.2, e.node h.0 h.2 h.3, h.4)

-- one OUT more, of result number k from 0
out_ok : (ends : Ends) (graph : Graph) (labels : List Label) (u n k : ℕ) (vs : List Value) → Meeting no_open graph ends labels
    → Gives (site_of graph labels) u (stream (block_turns 0 n) (λ t. get_or vs (block_turn t) (Error MissElt))) → n ≡ length vs → get_or ends.results k [] ≡ vs
    → (let grown = graph ++ fed_node (kind.Out (k + 1) n) (always (Cell u) (λ t. get_or vs (block_turn t) (Error MissElt)) ∷ []) ∷ [] in (more : List Label) × Extends (site_of graph labels) (site_of grown more) × Meeting no_open grown ends more × HasOut grown (k + 1))
unfolding answer
out_ok ends graph labels u n k vs meet gives long result =
    let it = kind.Out (k + 1) n in
    let f = λ (t : Turn). get_or vs (block_turn t) (Error MissElt) in
    let ts = block_turns 0 n in
    let supplies : List Supply = always (Cell u) f ∷ [] in
    let node = fed_node it supplies in
    let l = on_turns ts (takings supplies) (λ t. None) in
    let new = site_of (graph ++ node ∷ []) (labels ++ l ∷ []) in
    let ext = extends_push no_open graph (node ∷ []) ends labels (l ∷ []) meet in
    let got : stream_values (received 0 l) ≡ vs =
    ap stream_values (received_on 0 ts (takings supplies) (λ t. None) (λ _. true) f (λ t. takings_at supplies t 0 (omega arith)) ∙ ap (λ us. stream us f) (filter_all ts))
    ∙ values_listed vs 0 n (λ i. get_or vs i (Error MissElt)) long (λ i h. let z : 0 + i ≡ i = omega arith in ap (λ j. get_or vs j (Error MissElt)) z) in (
      labels ++ l ∷ [],
      ext,
      meet_push_of no_open graph ends labels node l meet (λ j.
          fed_with new (given_of ends j) it supplies ts (λ t. None) (omega arith) refl
          (λ k' n' e. length_on ts (takings supplies) (λ t. None) ∙ length_block 0 n ∙ count_same (k + 1) n k' n' e)
          (λ k' n' e.
          let z : k ≡ k + 1 - 1 = omega arith in
          got ∙ sym result ∙ ap (λ i. get_or ends.results i []) z ∙ ap (λ i. get_or ends.results (i - 1) []) (number_same (k + 1) n k' n' e))
          refl (turns_block 0 n)
          (at_one (λ p r. ArcFeeds new (side_of new.graph node p) r.flow (filter r.wanted ts) r.value) (always (Cell u) f) (feeds_comes new (side_of new.graph node 0) u ts f refl (comes_more (site_of graph labels) new u (stream ts f) ext gives.comes)))
          (λ p s t e. all_wanted supplies p s t (refl, tt) e)
          (λ t. refl)),
      (length graph + 0, n, node, push_at graph (node ∷ []) 0 node refl, refl),
    )

result_ok : (ends : Ends) (graph : Graph) (labels : List Label) (k : ℕ) (o : Option Outside) (m : Made) → Meeting no_open graph ends labels → OutsideStands (site_of graph labels) o m → get_or ends.results k [] ≡ values_of m
    → (let grown = result_of whole k graph o in (more : List Label) × Extends (site_of graph labels) (site_of grown more) × Meeting no_open grown ends more × HasOut grown (k + 1))
unfolding result_of
result_ok ends graph labels k (Some (outside.Single f)) m meet stands result =
    let v = scalar_of m in
    let s = listed whole 1 graph f in
    let q = listed_made ends graph labels 0 f (λ _. v) meet stands.flow in
    let site = site_of s.graph q.0 in
    let one : (i : ℕ) → i < 1 → v ≡ get_or (v ∷ []) (0 + i) (Error MissElt) = λ i h. let z : 0 ≡ 0 + i = omega (arith, h) in ap (λ j. get_or (v ∷ []) j (Error MissElt)) z in
    let r = out_ok ends s.graph q.0 s.cell 1 k (v ∷ []) q.2 (subst (Gives site s.cell) (stream_on 0 1 (λ _. v) (λ t. get_or (v ∷ []) (block_turn t) (Error MissElt)) one) q.3) refl (result ∙ ap values_of stands.shape) in
    let grown = result_of whole k graph (Some (outside.Single f)) in
    (r.0, extends_both (site_of graph labels) site (site_of grown r.0) q.1 r.1, r.2, r.3)
result_ok ends graph labels k (Some (outside.Many a)) m meet stands result =
    out_ok ends graph labels a.cell a.n k (members_of m) meet stands.shape.0 stands.array.count (result ∙ ap values_of stands.shape.1)
result_ok ends graph labels k None m meet stands result =
    let node : Node = record { kind = kind.Ctl []; ports = [] } in
    let l = in_order_from 0 [] in
    let site = site_of (graph ++ node ∷ []) (labels ++ l ∷ []) in
    let meet' = meet_push no_open graph ends labels node l meet (λ values. meets_source site values node.kind [] refl refl refl) in
    let r = out_ok ends (graph ++ node ∷ []) (labels ++ l ∷ []) (length graph) 0 k [] meet' (gives_push graph labels node l [] meet.long (λ side. refl) refl refl) refl (result ∙ ap values_of stands.shape) in
    let grown = result_of whole k graph None in
    (r.0, extends_both (site_of graph labels) site (site_of grown r.0) (extends_push no_open graph (node ∷ []) ends labels (l ∷ []) meet) r.1, r.2, r.3)

-- OUT cells of all results, from this number on
abbrev pub HasOuts : Graph → ℕ → List ℕ → Type 0
HasOuts graph count xs = (i x : ℕ) → slice_get xs i ≡ Some x → HasOut graph (count + i + 1)

abbrev shown_all : List Outside → Graph → ℕ → List ℕ → Graph
shown_all outer graph count xs = (fold (result_more whole outer) (record { graph = graph; count = count }) xs).graph

pub results_ok : (ends : Ends) (outer : List Outside) (made : List Made) (xs : List ℕ) (graph : Graph) (count : ℕ) (labels : List Label) → Meeting no_open graph ends labels → Fits (site_of graph labels) outer made
    → ((i x : ℕ) → slice_get xs i ≡ Some x → get_or ends.results (count + i) [] ≡ values_of (made_at made x))
    → (let last = (fold (result_more whole outer) (record { graph = graph; count = count }) xs).graph in (more : List Label) × Extends (site_of graph labels) (site_of last more) × Meeting no_open last ends more × HasOuts last count xs)
results_ok ends outer made [] graph count labels meet fits same = (labels, extends_same (site_of graph labels), meet, λ i x e. absurd (none_some x e))
results_ok ends outer made (x ∷ xs) graph count labels meet fits same =
    let z : count ≡ count + 0 = omega arith in
    let r = result_ok ends graph labels count (slice_get outer x) (made_at made x) meet (fits_at (site_of graph labels) outer made x fits) (ap (λ j. get_or ends.results j []) z ∙ same 0 x refl) in
    let grown = result_of whole count graph (slice_get outer x) in
    let q = results_ok ends outer made xs grown (count + 1) r.0 r.2 (fits_more (site_of graph labels) (site_of grown r.0) outer made r.1 fits)
    (λ i y e. let n : count + 1 + i ≡ count + suc i = omega arith in ap (λ j. get_or ends.results j []) n ∙ same (suc i) y e) in
    let last = shown_all outer grown (count + 1) xs in
    (q.0, extends_both (site_of graph labels) (site_of grown r.0) (site_of last q.0) r.1 q.1, q.2, outs last (out_more (site_of grown r.0) (site_of last q.0) (count + 1) q.1 r.3) q.3)
  where
    outs : (last : Graph) → HasOut last (count + 1) → HasOuts last (count + 1) xs → HasOuts last count (x ∷ xs)
    outs last first rest zero y e = let n : count + 1 ≡ count + 0 + 1 = omega arith in subst (HasOut last) n first
    outs last first rest (suc i) y e = let n : count + 1 + i + 1 ≡ count + suc i + 1 = omega arith in subst (HasOut last) n (rest i y e)
