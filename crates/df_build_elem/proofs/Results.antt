-- The inputs and outputs of a whole skeleton, and that nothing takes from an output.
use Rattle.std.proofs.Common.{◌≡◌, ◌≤◌, ◌+◌, ℕ, List, [], ◌∷◌, ◌++◌, map, fold, length, Option, Some, None, refl, sym, subst, arith}
use Rattle.std.proofs.lemmas.List.{map-append, append-nil, append_assoc}
use Rattle.std.specs.List.{AllByRecursion}
use Rattle.std.specs.Prelude.{slice_get}
use Rattle.df_values.specs.Inputs.{input_length, HasExtent}
use Rattle.df_values.specs.declared.inputs.Extent.{Extent}
use Rattle.df_values.specs.declared.inputs.Input.{Input}
use Rattle.df_cells.specs.declared.cells.InputDecl.{InputDecl}
use Rattle.df_cells.specs.declared.kinds.Kind.{Kind}
use Rattle.df_cells.specs.declared.kinds.Kind.TheVariants as kind
use Rattle.df_labels.specs.Graphs.{Graph, Node}
use Rattle.df_labels.specs.declared.graphs.Flow.{Flow}
use Rattle.df_labels.specs.declared.graphs.Flow.TheVariants.{Cell}
use Rattle.df_core.specs.Within.{IsFlat}
use Rattle.df_core.specs.declared.flat.Block.{Block}
use Rattle.df_core.specs.declared.flat.Flat.{Flat}
use Rattle.df_build_cond.specs.Growth.{node, whole, with_cell, pushed}
use Rattle.df_build_terms.specs.Made.{kinds_of, GrowsInside, TermsAreMade}
use Rattle.df_build_terms.specs.declared.building.Outside.{Outside}
use Rattle.df_build_terms.specs.declared.building.Outside.TheVariants.{Single, Many}
use Rattle.df_build_elem.specs.Blocks.{placed, shown, listed}
use Rattle.df_build_elem.specs.Program.{Laid, Shown, declared_input, declared_inputs, laid_input, laid_block, laid, result_of, result_more}
use Rattle.df_build_elem.proofs.Ends.{HasEnds, no_ends, input_more, output_more, inners_more}
use Rattle.df_build_elem.proofs.Inside.{placed_inside, shown_inside, listed_inside, with_inner}
use Rattle.df_build_elem.proofs.Lists.{all_get, fold_keeps}
use Rattle.df_build_elem.proofs.Made.{IsShort}
use Rattle.df_build_elem.proofs.Ranges.{all_each}

-- ---- ends

kinds_push : (g : Graph) (it : Kind) (flows : List Flow) → kinds_of (with_cell whole g it flows) ≡ kinds_of g ++ it ∷ []
kinds_push g it flows = map-append (λ (n : Node). n.kind) g (node it flows ∷ [])

grown_ends : (ds : List InputDecl) (n : ℕ) (g h : Graph) → GrowsInside g h → HasEnds ds n (kinds_of g)
    → HasEnds ds n (kinds_of h)
grown_ends ds n g h grows ends = subst (HasEnds ds n) (sym grows.kinds) (inners_more ds n (kinds_of g) grows.more grows.inner ends)

few_values : (e : Option Extent) → HasExtent e → input_length e ≤ 4096
few_values (Some e) r = r.short
few_values None r = omega arith

inputs_ends : (is : List Input) (l : Laid) (ds : List InputDecl) → AllByRecursion (λ (i : Input). HasExtent i.extent) is
    → HasEnds ds 0 (kinds_of l.graph)
    → HasEnds (ds ++ map declared_input is) 0 (kinds_of (fold (laid_input whole) l is).graph)
inputs_ends [] l ds all ends = subst (λ ds. HasEnds ds 0 (kinds_of l.graph)) (sym (append-nil ds)) ends
inputs_ends (i ∷ is) l ds all ends =
    let n = input_length i.extent in
    let d : InputDecl = declared_input i in
    let more = subst (HasEnds (ds ++ d ∷ []) 0) (sym (kinds_push l.graph (kind.In i.name i.basic n) []))
    (input_more ds 0 (kinds_of l.graph) ends i.name i.basic n (few_values i.extent all.0)) in
    subst (λ ds. HasEnds ds 0 (kinds_of (fold (laid_input whole) l (i ∷ is)).graph)) (append_assoc ds (d ∷ []) (map declared_input is))
    (inputs_ends is (laid_input whole l i) (ds ++ d ∷ []) all.1 more)

output_ends : (ds : List InputDecl) (k n c : ℕ) (g : Graph) → n ≤ 4096 → HasEnds ds k (kinds_of g)
    → HasEnds ds (k + 1) (kinds_of (with_cell whole g (kind.Out (k + 1) n) (Cell c ∷ [])))
output_ends ds k n c g few ends =
    subst (HasEnds ds (k + 1)) (sym (kinds_push g (kind.Out (k + 1) n) (Cell c ∷ []))) (output_more ds k (kinds_of g) ends n few)

result_ends : (ds : List InputDecl) (k : ℕ) (g : Graph) (o : Option Outside) → ((p : Outside) → o ≡ Some p → IsShort p)
    → HasEnds ds k (kinds_of g)
    → HasEnds ds (k + 1) (kinds_of (result_of whole k g o))
unfolding result_of IsShort
result_ends ds k g (Some (Single f)) short ends =
    let s = listed whole 1 g f in output_ends ds k 1 s.cell s.graph (omega arith) (grown_ends ds k g s.graph (listed_inside 1 g f) ends)
result_ends ds k g (Some (Many a)) short ends = output_ends ds k a.n a.cell g (short (Many a) refl) ends
result_ends ds k g None short ends =
    let s = pushed whole g (kind.Ctl []) [] in
    output_ends ds k 0 s.cell s.graph (omega arith) (grown_ends ds k g s.graph (with_inner g (kind.Ctl []) [] refl) ends)

pub results_ends : (ds : List InputDecl) (outer : List Outside) → AllByRecursion IsShort outer
    → (numbers : List ℕ) (s : Shown) → HasEnds ds s.count (kinds_of s.graph)
    → HasEnds ds (fold (result_more whole outer) s numbers).count (kinds_of (fold (result_more whole outer) s numbers).graph)
results_ends ds outer short [] s ends = ends
results_ends ds outer short (x ∷ numbers) s ends =
    results_ends ds outer short numbers (result_more whole outer s x)
    (result_ends ds s.count s.graph (slice_get outer x) (λ p is. all_get IsShort outer x p short is) ends)

-- there are as many outputs as results
pub results_counted : (outer : List Outside) (numbers : List ℕ) (s : Shown)
    → (fold (result_more whole outer) s numbers).count ≡ s.count + length numbers
results_counted outer [] s = omega arith
results_counted outer (x ∷ numbers) s =
    let rest : (fold (result_more whole outer) s (x ∷ numbers)).count ≡ s.count + 1 + length numbers = results_counted outer numbers (result_more whole outer s x) in
    omega (arith, rest)

module _ (terms : TermsAreMade) where
  block_ends : (ds : List InputDecl) (l : Laid) (b : Block) → HasEnds ds 0 (kinds_of l.graph)
      → HasEnds ds 0 (kinds_of (laid_block whole l b).graph)
  block_ends ds l b ends =
      let p = placed whole l.outer b.body l.graph in
      let q = shown whole b.is_result p.graph p.outside in
      grown_ends ds 0 p.graph q.graph (shown_inside terms b.is_result p.graph p.outside) (grown_ends ds 0 l.graph p.graph (placed_inside terms l.outer b.body l.graph) ends)

  pub laid_ends : (flat : Flat) → IsFlat flat → HasEnds (declared_inputs flat) 0 (kinds_of (laid whole flat []).graph)
  laid_ends flat is =
      let l : Laid = fold (laid_input whole) (record { graph = []; outer = [] }) flat.parameters in
      fold_keeps (λ (l : Laid). HasEnds (declared_inputs flat) 0 (kinds_of l.graph)) (laid_block whole) (block_ends (declared_inputs flat)) flat.blocks l
      (inputs_ends flat.parameters (record { graph = []; outer = [] }) [] (all_each (λ (i : Input). HasExtent i.extent) flat.parameters is.extents) no_ends)
