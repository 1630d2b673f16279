-- From the parameters on.
use Rattle.std.proofs.Common.{◌≡◌, ℕ, zero, suc, ◌+◌, ◌<◌, ◌≤◌, Bool, cond, List, [], ◌∷◌, ◌++◌, Option, None, get_or, length, map, take, Some, refl, sym, ◌∙◌, ap, subst, arith}
use Rattle.std.specs.Prelude.{slice_get, fold}
use Rattle.std.specs.Option.{option_map}
use Rattle.std.specs.List.{count_by}
use Rattle.std.proofs.lemmas.List.{length-map}
use Rattle.std.proofs.lemmas.List.Sums.{sum_by-cons}
use Rattle.std.proofs.lemmas.Option.{slice_get-map, slice_get_within, get_or_from_slice_get}
use Rattle.df_values.specs.declared.values.Value.{Value}
use Rattle.df_values.specs.declared.values.Value.TheVariants.{Error}
use Rattle.df_values.specs.declared.values.ErrorValue.TheVariants.{MissElt}
use Rattle.df_cells.specs.declared.kinds.Kind.TheVariants as kind
use Rattle.df_cells.specs.Kinds.{is_input}
use Rattle.df_cells.specs.Cells.{no_cell}
use Rattle.df_cells.specs.declared.cells.Cell.{Cell as OfCells}
use Rattle.df_labels.specs.Patterns.{PatternsSpell}
use Rattle.df_labels.specs.Graphs.{Graph, Node, node_of, graph_of}
use Rattle.df_labels.specs.Labels.{in_order_from, block_turn}
use Rattle.df_labels.specs.declared.graphs.Flow.TheVariants.{Cell}
use Rattle.df_labels.specs.Flows.{arc}
use Rattle.df_build_loops.specs.Frames.{undef}
use Rattle.df_meant.specs.Sites.{Ends, Given, Site, site_of, stream, Gives, values_in, MeetsNode, Meeting, block_turns}
use Rattle.df_build_terms.specs.declared.building.Outside.{Outside}
use Rattle.df_values.specs.declared.inputs.Extent.{Extent}
use Rattle.df_values.specs.declared.inputs.Input.{Input}
use Rattle.df_build_elem.specs.Program.{Laid, input_at, laid_input, laid_block, result_more, program_on}
use Rattle.df_values.specs.Inputs.{input_length}
use Rattle.df_build_cond.specs.Growth.{whole}
use Rattle.df_core.specs.Meaning.{made_at, values_of, given, givens, all_made, flat_mean}
use Rattle.df_meant.specs.Builds.{OutsideStands, Fits}
use Rattle.df_meant.specs.SameGraph.{no_open, labels_of}
use Rattle.df_meant.specs.Programs.{HaveLengths, SkeletonsTell}
use Rattle.df_meant.proofs.Streams.{turns_source, answered_source, delayed_none}
use Rattle.df_meant.proofs.Groups.{same_some, none_some}
use Rattle.df_meant.proofs.Blocks.{single_stands, many_stands, blocks_are_meant}
use Rattle.df_meant.proofs.SameGraph.{site_tells}
use Rattle.df_meant.proofs.Results.{results_ok}

abbrev in_node : Input → Node
in_node p = record { kind = kind.In p.name p.basic (input_length p.extent); ports = [] }

abbrev outsides : ℕ → List Input → List Outside
outsides c [] = []
outsides c (p ∷ parameters) = input_at c p.extent ∷ outsides (c + 1) parameters

nothing_after : {A : Type 0} (xs : List A) → xs ++ [] ≡ xs
nothing_after [] = refl
nothing_after (x ∷ xs) = ap (λ l. x ∷ l) (nothing_after xs)

one_after : {A : Type 0} (xs : List A) (y : A) (ys : List A) → (xs ++ y ∷ []) ++ ys ≡ xs ++ y ∷ ys
one_after [] y ys = refl
one_after (x ∷ xs) y ys = ap (λ l. x ∷ l) (one_after xs y ys)

abbrev laid_as : Graph → List Outside → Laid
laid_as graph outer = record { graph = graph; outer = outer }

inputs_laid : (ps : List Input) (graph : Graph) (outer : List Outside) → fold (laid_input whole) (laid_as graph outer) ps ≡ laid_as (graph ++ map in_node ps) (outer ++ outsides (length graph) ps)
inputs_laid [] graph outer = ap (λ g. laid_as g outer) (sym (nothing_after graph)) ∙ ap (laid_as (graph ++ [])) (sym (nothing_after outer))
inputs_laid (p ∷ ps) graph outer =
    let node = in_node p in
    let o = input_at (length graph) p.extent in
    let more : length (graph ++ node ∷ []) ≡ length graph + 1 = length_more graph node in
    inputs_laid ps (graph ++ node ∷ []) (outer ++ o ∷ [])
    ∙ ap (λ g. laid_as g ((outer ++ o ∷ []) ++ outsides (length (graph ++ node ∷ [])) ps)) (one_after graph node (map in_node ps))
    ∙ ap (λ c. laid_as (graph ++ node ∷ map in_node ps) ((outer ++ o ∷ []) ++ outsides c ps)) more
    ∙ ap (laid_as (graph ++ node ∷ map in_node ps)) (one_after outer o (outsides (length graph + 1) ps))
  where
    length_more : (g : Graph) (node : Node) → length (g ++ node ∷ []) ≡ length g + 1
    length_more [] node = refl
    length_more (x ∷ g) node = let e : suc (length g + 1) ≡ suc (length g) + 1 = omega arith in ap suc (length_more g node) ∙ e

abbrev is_in : Node → Bool
is_in node = is_input node.kind

-- all of them are inputs
count_in : (ps : List Input) (c : ℕ) → c ≤ length ps → count_by is_in (take c (map in_node ps)) ≡ c
count_in ps zero h = none ps
  where
    none : (ps : List Input) → count_by is_in (take 0 (map in_node ps)) ≡ 0
    none [] = refl
    none (p ∷ ps) = refl
count_in [] (suc c) h = absurd (omega (arith, h))
count_in (p ∷ ps) (suc c) h =
    sum_by-cons (λ (x : Node). cond (is_in x) 1 0) (in_node p) (take c (map in_node ps)) ∙ ap (λ n. 1 + n) (count_in ps c (omega (arith, h))) ∙ one
  where
    one : 1 + c ≡ suc c
    one = omega arith

lengths_same : (ps : List Input) (inputs : List (List Value)) → HaveLengths ps inputs → length inputs ≡ length ps
lengths_same [] [] h = refl
lengths_same (p ∷ ps) (vs ∷ inputs) h = ap suc (lengths_same ps inputs h.1)
lengths_same [] (vs ∷ inputs) h = absurd h
lengths_same (p ∷ ps) [] h = absurd h

mapped : {A B : Type 0} (f : A → B) (xs : List A) (c : ℕ) (y : B) → slice_get (map f xs) c ≡ Some y → (x : A) × (slice_get xs c ≡ Some x) × (f x ≡ y)
mapped f [] c y e = absurd (none_some y e)
mapped f (x ∷ xs) zero y e = (x, refl, same_some (f x) y e)
mapped f (x ∷ xs) (suc c) y e = mapped f xs c y e

in_meets : (site : Site) (p : Input) (vs : List Value) (values : Given) → vs ≡ values.own → MeetsNode site values (in_node p) (in_order_from 0 vs)
in_meets site p vs values same = record {
  sources = λ ws h. ap (in_order_from 0) (same ∙ same_some values.own ws h);
  single = (turns_source vs).single;
  rising = (turns_source vs).rising;
  arcs = λ q u h. absurd (none_some (arc u) h);
  right = λ h. absurd (none_some values.own (sym h));
  outputs = λ i n h. absurd (no_out i n h);
  receives = λ i n h. absurd (no_out i n h);
  whole = refl;
  unloaded = λ q. refl;
}
  where
    no_out : (i n : ℕ) → (in_node p).kind ≡ kind.Out i n → ⊥
    no_out i n h = cc

start_meets : (ps : List Input) (ends : Ends) → HaveLengths ps ends.inputs → Meeting no_open (map in_node ps) ends (map (in_order_from 0) ends.inputs)
start_meets ps ends h = record {
  long = length-map ends.inputs (in_order_from 0) ∙ lengths_same ps ends.inputs h ∙ sym (length-map ps in_node);
  each = λ c node l a b _.
      let p = mapped in_node ps c node a in
      let v = mapped (in_order_from 0) ends.inputs c l b in
      let within = slice_get_within ps c p.0 p.1 in
      let values_is : v.0 ≡ (values_in (map in_node ps) ends c).own
      = sym (get_or_from_slice_get ends.inputs c v.0 [] v.1) ∙ ap (λ n. get_or ends.inputs n []) (sym (count_in ps c (omega (arith, within)))) in
      let site = site_of (map in_node ps) (map (in_order_from 0) ends.inputs) in
      subst (λ x. MeetsNode site (values_in (map in_node ps) ends c) x l) p.2
      (subst (λ y. MeetsNode site (values_in (map in_node ps) ends c) (in_node p.0) y) v.2 (in_meets site p.0 v.0 (values_in (map in_node ps) ends c) values_is));
  inside = λ u from c a e.
      let p = mapped in_node ps u from a in absurd (none_some (arc c) (ap (λ (x : Node). slice_get x.ports 0) p.2 ∙ e));
}

get_default : (vs : List Value) (i : ℕ) (a b : Value) → i < length vs → get_or vs i a ≡ get_or vs i b
get_default [] i a b h = absurd (omega (arith, h))
get_default (v ∷ vs) zero a b h = refl
get_default (v ∷ vs) (suc i) a b h = get_default vs i a b (omega (arith, h))

in_gives : (site : Site) (c n : ℕ) (p : Input) (vs : List Value) (f : ℕ → Value) → slice_get site.graph c ≡ Some (in_node p) → slice_get site.labels c ≡ Some (in_order_from 0 vs) → length vs ≡ n
    → ((i : ℕ) → i < n → f (0 + i) ≡ get_or vs i undef) → Gives site c (stream (block_turns 0 n) (λ t. f (block_turn t)))
in_gives site c n p vs f node label long h = record {
  comes = record { from = in_node p; node = node; label = in_order_from 0 vs; at = label; same = answered_source vs 0 n f long h ∙ sym (delayed_none (stream (block_turns 0 n) (λ t. f (block_turn t)))) };
  plain = λ side. refl;
}

start_fits : (site : Site) (j : ℕ) (ps : List Input) (inputs : List (List Value)) → ((i : ℕ) (p : Input) → slice_get ps i ≡ Some p → slice_get site.graph (j + i) ≡ Some (in_node p))
    → ((i : ℕ) (vs : List Value) → slice_get inputs i ≡ Some vs → slice_get site.labels (j + i) ≡ Some (in_order_from 0 vs)) → HaveLengths ps inputs → Fits site (outsides j ps) (givens ps inputs)
start_fits site j [] [] nodes labels h = tt
start_fits site j (p ∷ ps) (vs ∷ inputs) nodes labels h = (
  first p.extent refl,
  start_fits site (j + 1) ps inputs
      (λ i q e. ap (slice_get site.graph) (next j i) ∙ nodes (suc i) q e) (λ i us e. ap (slice_get site.labels) (next j i) ∙ labels (suc i) us e) h.1,
)
  where
    next : (j i : ℕ) → j + 1 + i ≡ j + suc i
    next j i = omega arith

    same : j ≡ j + 0
    same = omega arith

    first : (e : Option Extent) → p.extent ≡ e → OutsideStands site (Some (input_at j e)) (given e vs)
    first None is =
        let v = get_or vs 0 undef in
        single_stands site (Cell j) v (in_gives site j 1 p vs (λ _. v) (ap (slice_get site.graph) same ∙ nodes 0 p refl) (ap (slice_get site.labels) same ∙ labels 0 vs refl) (h.0 ∙ ap input_length is)
        (λ i less. let z : 0 ≡ i = omega (arith, less) in ap (λ k. get_or vs k undef) z))
    first (Some e) is =
        let n = e.n in
        let long : length vs ≡ n = h.0 ∙ ap input_length is in
        many_stands site j n e.lo vs (sym long)
        (in_gives site j n p vs (λ i. get_or vs i (Error MissElt)) (ap (slice_get site.graph) same ∙ nodes 0 p refl) (ap (slice_get site.labels) same ∙ labels 0 vs refl) long
        (λ i less. let z : 0 + i ≡ i = omega arith in ap (λ k. get_or vs k (Error MissElt)) z ∙ get_default vs i (Error MissElt) undef (omega (arith, long, less))))
start_fits site j [] (vs ∷ inputs) nodes labels h = absurd h
start_fits site j (p ∷ ps) [] nodes labels h = absurd h

pub skeletons_tell : PatternsSpell → SkeletonsTell
unfolding program_on flat_mean
skeletons_tell spell flat cells inputs h is =
    let ps = flat.parameters in
    let made = all_made flat inputs in
    let ends : Ends = record { inputs = inputs; results = flat_mean flat inputs } in
    let graph = map in_node ps in
    let ls = map (in_order_from 0) inputs in
    let site = site_of graph ls in
    let at : (i : ℕ) → 0 + i ≡ i = λ i. omega arith in
    let fits = start_fits site 0 ps inputs
    (λ i p e. ap (slice_get graph) (at i) ∙ slice_get-map in_node ps i ∙ ap (option_map in_node) e)
    (λ i vs e. ap (slice_get ls) (at i) ∙ slice_get-map (in_order_from 0) inputs i ∙ ap (option_map (in_order_from 0)) e) h in
    let b = blocks_are_meant spell ends (givens ps inputs) flat.blocks (laid_as graph (outsides 0 ps)) ls (start_meets ps ends h) fits in
    let l = fold (laid_block whole) (laid_as graph (outsides 0 ps)) flat.blocks in
    let r = results_ok ends l.outer made flat.results l.graph 0 b.0 b.1 b.2 (λ i x e.
    get_or_from_slice_get (flat_mean flat inputs) (0 + i) (values_of (made_at made x)) []
    (ap (slice_get (flat_mean flat inputs)) (at i) ∙ slice_get-map (λ x. values_of (made_at made x)) flat.results i ∙ ap (option_map (λ x. values_of (made_at made x))) e)) in
    let all_laid = λ (first : Laid). let k = fold (laid_block whole) first flat.blocks in (fold (result_more whole k.outer) (record { graph = k.graph; count = 0 }) flat.results).graph in
    let same : graph_of cells ≡ all_laid (laid_as graph (outsides 0 ps)) = is ∙ ap all_laid (inputs_laid ps [] []) in
    let t = site_tells cells ends r.0 (subst (λ g. Meeting no_open g ends r.0) (sym same) r.2) in
    record {
      labels = labels_of r.0;
      meet = t.0;
      whole = t.1;
      shown = λ k vs e.
          let x = mapped (λ x. values_of (made_at made x)) flat.results k vs e in
          let o = r.3 k x.0 x.1 in
          let c = mapped node_of cells o.0 o.2 (ap (λ (g : Graph). slice_get g o.0) same ∙ o.3) in
          let one : 0 + k + 1 ≡ k + 1 = omega arith in (
            o.0,
            o.1,
            ap (λ (x : OfCells). x.kind) (get_or_from_slice_get cells o.0 c.0 no_cell c.1) ∙ ap (λ (x : Node). x.kind) c.2 ∙ o.4 ∙ ap (λ j. kind.Out j o.1) one,
          );
    }
