-- In a skeleton no arc comes from an OUT.
use Rattle.std.proofs.Common.{◌≡◌, ◌≤◌, ◌<◌, ◌+◌, ◌-◌, ℕ, Bool, true, false, cond, zero, suc, List, [], ◌∷◌, map, length, get_or, fold, Option, Some, None, refl, ap, subst, ◌∙◌, arith}
use Rattle.std.proofs.lemmas.List.{length_push, get_or_append_left, get_or-append-add}
use Rattle.std.proofs.lemmas.List.Sums.{sum_by-cons}
use Rattle.std.specs.List.{AllByRecursion}
use Rattle.std.specs.Prelude.{slice_get, nat_lt}
use Rattle.df_cells.specs.Cells.{cell_from}
use Rattle.df_cells.specs.Kinds.{is_output}
use Rattle.df_cells.specs.declared.cells.CellId.{CellId}
use Rattle.df_cells.specs.declared.kinds.Kind.{Kind}
use Rattle.df_cells.specs.declared.kinds.Kind.TheVariants as kind
use Rattle.df_labels.specs.Flows.{feed_of}
use Rattle.df_labels.specs.Graphs.{Graph, Node, no_node, node_at}
use Rattle.df_labels.specs.Patterns.{steady}
use Rattle.df_labels.specs.declared.graphs.Flow.{Flow}
use Rattle.df_labels.specs.declared.graphs.Flow.TheVariants.{Constant, Cell}
use Rattle.df_build_cond.specs.Growth.{node, whole, with_cell, pushed}
use Rattle.df_build_terms.specs.Made.{kinds_of}
use Rattle.df_build_terms.specs.declared.building.Outside.{Outside}
use Rattle.df_build_terms.specs.declared.building.Outside.TheVariants.{Single, Many}
use Rattle.df_build_elem.specs.Program.{Shown, result_of, result_more}
use Rattle.df_build_elem.proofs.Ends.{outputs_in}
use Rattle.df_build_elem.proofs.Lists.{all_map, all_get, fold_keeps}
use Rattle.df_build_elem.proofs.Zones.{FlowMayBeTaken, OutsideMayBeTaken, HasZones}

-- a cell that is there and is no OUT
pub record IsSender (g : Graph) (c : ℕ) : Type 0 where
  pub there : c < length g
  pub inner : is_output (node_at g c).kind ≡ false

-- each arc comes from such a cell
abbrev pub ComeFromSenders : Graph → Type 0
ComeFromSenders g = (c p : ℕ) (u : CellId) → cell_from (slice_get (node_at g c).ports p) ≡ Some u → IsSender g u.0

abbrev FlowSends : Graph → Flow → Type 0
FlowSends g (Constant v) = Unit {0}
FlowSends g (Cell c) = IsSender g c

OutsideSends : Graph → Outside → Type 0
OutsideSends g (Single f) = FlowSends g f
OutsideSends g (Many a) = IsSender g a.cell

no_arc : {A : Type 0} {u : CellId} → None ≡ Some u → A
no_arc e = absurd (none e)
  where
    none : {u : CellId} → None ≡ Some u → ⊥
    none e = cc

-- ---- a cell more

old_node : (g : Graph) (it : Kind) (flows : List Flow) (c : ℕ) → c < length g
    → node_at (with_cell whole g it flows) c ≡ node_at g c
old_node g it flows c less = get_or_append_left g (node it flows ∷ []) no_node c less

new_node : (g : Graph) (it : Kind) (flows : List Flow) (i : ℕ)
    → node_at (with_cell whole g it flows) (length g + i) ≡ node_at (node it flows ∷ []) i
new_node g it flows i = get_or-append-add g (node it flows ∷ []) i no_node

sender_more : (g : Graph) (it : Kind) (flows : List Flow) (c : ℕ) → IsSender g c
    → IsSender (with_cell whole g it flows) c
sender_more g it flows c s =
    let less = s.there in
    let count = length_push g (node it flows) in
    record { there = omega (arith, less, count); inner = ap (λ (n : Node). is_output n.kind) (old_node g it flows c s.there) ∙ s.inner }

flow_more : (g : Graph) (it : Kind) (flows : List Flow) (f : Flow) → FlowSends g f
    → FlowSends (with_cell whole g it flows) f
flow_more g it flows (Constant v) s = tt
flow_more g it flows (Cell c) s = sender_more g it flows c s

outside_more : (g : Graph) (it : Kind) (flows : List Flow) (o : Outside) → OutsideSends g o
    → OutsideSends (with_cell whole g it flows) o
unfolding OutsideSends
outside_more g it flows (Single f) s = flow_more g it flows f s
outside_more g it flows (Many a) s = sender_more g it flows a.cell s

-- an arc of a value comes from its cell
flow_sends : (g : Graph) (flows : List Flow) → AllByRecursion (FlowSends g) flows → (p : ℕ) (u : CellId)
    → cell_from (slice_get (map feed_of flows) p) ≡ Some u
    → IsSender g u.0
flow_sends g [] all p u is = no_arc is
flow_sends g (Constant v ∷ flows) all zero u is = no_arc is
flow_sends g (Cell c ∷ flows) all zero u is = let e : record { 0 = c } ≡ u = cc in subst (λ (u : CellId). IsSender g u.0) e all.0
flow_sends g (f ∷ flows) all (suc p) u is = flow_sends g flows all.1 p u is

come_more : (g : Graph) (it : Kind) (flows : List Flow) → ComeFromSenders g → AllByRecursion (FlowSends g) flows
    → ComeFromSenders (with_cell whole g it flows)
come_more g it flows come all c p u is = sender_more g it flows u.0 (go (nat_lt c (length g)) refl)
  where
    split : (i : ℕ) → cell_from (slice_get (node_at (node it flows ∷ []) i).ports p) ≡ Some u → IsSender g u.0
    split zero is = flow_sends g flows all p u is
    split (suc i) is = no_arc is

    go : (t : Bool) → nat_lt c (length g) ≡ t → IsSender g u.0
    go true e = come c p u (subst (λ (n : Node). cell_from (slice_get n.ports p) ≡ Some u) (old_node g it flows c (grind (arith, e))) is)
    go false e =
        let le : length g ≤ c = grind (arith, e) in
        let at : c ≡ length g + (c - length g) = omega (arith, le) in
        split (c - length g) (subst (λ (n : Node). cell_from (slice_get n.ports p) ≡ Some u) (ap (node_at (with_cell whole g it flows)) at ∙ new_node g it flows (c - length g)) is)

-- ---- results

record IsSent (outer : List Outside) (g : Graph) : Type 0 where
  come : ComeFromSenders g
  outside : AllByRecursion (OutsideSends g) outer

sent_more : (outer : List Outside) (g : Graph) (it : Kind) (flows : List Flow) → AllByRecursion (FlowSends g) flows
    → IsSent outer g → IsSent outer (with_cell whole g it flows)
sent_more outer g it flows all s = record {
  come = come_more g it flows s.come all;
  outside = all_map (OutsideSends g) (OutsideSends (with_cell whole g it flows)) (outside_more g it flows) outer s.outside;
}

-- a cell of its own that gives values, and the OUT of these
own_sent : (outer : List Outside) (g : Graph) (it out : Kind) → is_output it ≡ false → IsSent outer g
    → IsSent outer (let s = pushed whole g it [] in with_cell whole s.graph out (Cell s.cell ∷ []))
own_sent outer g it out inner s =
    let t = pushed whole g it [] in
    let count = length_push g (node it []) in
    let at : length g ≡ length g + 0 = omega arith in
    sent_more outer t.graph out (Cell t.cell ∷ [])
    (record { there = omega (arith, count); inner = ap (λ (n : Node). is_output n.kind) (ap (node_at t.graph) at ∙ new_node g it [] 0) ∙ inner }, tt)
    (sent_more outer g it [] tt s)

result_sent : (outer : List Outside) (k : ℕ) (g : Graph) (o : Option Outside)
    → ((p : Outside) → o ≡ Some p → OutsideSends g p) → IsSent outer g
    → IsSent outer (result_of whole k g o)
unfolding result_of OutsideSends
result_sent outer k g (Some (Single (Constant v))) there s = own_sent outer g (kind.Ctl (steady 1 v)) (kind.Out (k + 1) 1) refl s
result_sent outer k g (Some (Single (Cell c))) there s = sent_more outer g (kind.Out (k + 1) 1) (Cell c ∷ []) (there (Single (Cell c)) refl, tt) s
result_sent outer k g (Some (Many a)) there s = sent_more outer g (kind.Out (k + 1) a.n) (Cell a.cell ∷ []) (there (Many a) refl, tt) s
result_sent outer k g None there s = own_sent outer g (kind.Ctl []) (kind.Out (k + 1) 0) refl s

more_sent : (outer : List Outside) (s : Shown) (number : ℕ) → IsSent outer s.graph
    → IsSent outer (result_more whole outer s number).graph
more_sent outer s number good = result_sent outer s.count s.graph (slice_get outer number) (λ p is. all_get (OutsideSends s.graph) outer number p good.outside is) good

-- ---- where there are no outputs yet

abbrev one_for : Bool → ℕ
one_for t = cond t 1 0

none_counted : (ks : List Kind) → outputs_in ks ≡ 0 → (c : ℕ) → is_output (get_or ks c kind.Buf) ≡ false
none_counted [] e c = refl
none_counted (k ∷ ks) e zero =
    let cons : outputs_in (k ∷ ks) ≡ cond (is_output k) 1 0 + outputs_in ks = sum_by-cons (λ x. cond (is_output x) 1 0) k ks in
    first (is_output k) (omega (arith, cons, e))
  where
    first : (t : Bool) → one_for t ≡ 0 → t ≡ false
    first true e = absurd (omega (arith, e))
    first false e = refl
none_counted (k ∷ ks) e (suc c) =
    let cons : outputs_in (k ∷ ks) ≡ cond (is_output k) 1 0 + outputs_in ks = sum_by-cons (λ x. cond (is_output x) 1 0) k ks in
    none_counted ks (omega (arith, cons, e)) c

kind_at : (g : Graph) (c : ℕ) → (node_at g c).kind ≡ get_or (kinds_of g) c kind.Buf
kind_at [] c = refl
kind_at (n ∷ g) zero = refl
kind_at (n ∷ g) (suc c) = kind_at g c

sender_of : (g : Graph) → outputs_in (kinds_of g) ≡ 0 → (c : ℕ) → c < length g → IsSender g c
sender_of g none c less = record { there = less; inner = ap is_output (kind_at g c) ∙ none_counted (kinds_of g) none c }

flow_of : (g : Graph) → outputs_in (kinds_of g) ≡ 0 → (f : Flow) → FlowMayBeTaken g f → FlowSends g f
flow_of g none (Constant v) taken = tt
flow_of g none (Cell c) taken = sender_of g none c taken.there

outside_of : (g : Graph) → outputs_in (kinds_of g) ≡ 0 → (o : Outside) → OutsideMayBeTaken g o → OutsideSends g o
unfolding OutsideSends OutsideMayBeTaken
outside_of g none (Single f) taken = flow_of g none f taken
outside_of g none (Many a) taken = sender_of g none a.cell taken.there

pub results_sent : (outer : List Outside) (g : Graph) → HasZones outer g → outputs_in (kinds_of g) ≡ 0
    → (numbers : List ℕ)
    → ComeFromSenders (fold (result_more whole outer) (record { graph = g; count = 0 }) numbers).graph
results_sent outer g good none numbers =
    let o = good.orderly in
    (fold_keeps (λ (s : Shown). IsSent outer s.graph) (result_more whole outer) (more_sent outer) numbers (record { graph = g; count = 0 })
    (record {
      come = λ c p u is. sender_of g none u.0 (o.there c p u is);
      outside = all_map (OutsideMayBeTaken g) (OutsideSends g) (outside_of g none) outer good.outside;
    })).come
