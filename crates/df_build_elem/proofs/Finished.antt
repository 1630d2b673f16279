-- The rules of well-formed cells, from what is known of their graph.
use Rattle.std.proofs.Common.{◌≡◌, ◌≢◌, ◌≤◌, ◌<◌, ◌+◌, ◌*◌, ℕ, Bool, true, false, cond, zero, suc, List, [], ◌∷◌, get_or, map, fold, length, take, Option, Some, None, refl, sym, ap, subst, ◌∙◌, inl, inr, arith}
use Rattle.std.proofs.lemmas.List.Sums.{sum_by-cons}
use Rattle.std.proofs.lemmas.Slice.Eq.{bytes_eq-Decides}
use Rattle.std.specs.List.{AllByRecursion, IsDistinct, cons_option, filter_map}
use Rattle.std.specs.Prelude.{All, bytes_eq, slice_get}
use Rattle.df_values.specs.declared.inputs.Input.{Input}
use Rattle.df_values.specs.declared.values.Basic.{Basic}
use Rattle.df_values.specs.declared.values.Value.{Value}
use Rattle.df_cells.specs.Cells.{cell_at, cell_from, declared_by, inputs_of, is_buf, outputs, outputs_before, producer_of, IsCell}
use Rattle.df_cells.specs.Kinds.{is_output}
use Rattle.df_cells.specs.WellFormed.{WaitsForOperands, LoadsLoops, ListsItsArcs, WellFormed, outer_length, outer_values, number_or_none}
use Rattle.df_cells.specs.declared.cells.Cell.{Cell}
use Rattle.df_cells.specs.declared.cells.Dest.{Dest}
use Rattle.df_cells.specs.declared.cells.InputDecl.{InputDecl}
use Rattle.df_cells.specs.declared.kinds.Kind.{Kind}
use Rattle.df_cells.specs.declared.kinds.Kind.TheVariants as kind
use Rattle.df_labels.specs.Graphs.{Node, node_at, node_of, graph_of}
use Rattle.df_core.specs.Within.{IsFlat}
use Rattle.df_core.specs.declared.flat.Flat.{Flat}
use Rattle.df_build_cond.specs.Growth.{whole}
use Rattle.df_build_cond.specs.Laws.{GatesStayInZone}
use Rattle.df_build_cond.specs.Made.{IsMade, AreMade}
use Rattle.df_build_loops.specs.Laws.{LoopsStayInZone}
use Rattle.df_build_terms.specs.InZone.{TermsStayInZone}
use Rattle.df_build_terms.specs.Made.{kinds_of, TermsAreMade}
use Rattle.df_build_elem.specs.Finished.{IsFinished, SkeletonsAreWellFormed}
use Rattle.df_build_elem.specs.Laws.{ProgramsAreMade}
use Rattle.df_build_elem.specs.Program.{Shown, declared_input, declared_inputs, laid, result_more, program_on, program_graph}
use Rattle.df_build_elem.proofs.Ends.{HasEnds, IsShortEnd, outputs_in, IsNext, AreNumbered}
use Rattle.df_build_elem.proofs.Made.{IsLaidShort}
use Rattle.df_build_elem.proofs.Results.{laid_ends, results_counted, results_ends}
use Rattle.df_build_elem.proofs.Senders.{ComeFromSenders, results_sent}
use Rattle.df_build_elem.proofs.Zones.{laid_zones}

-- ---- cells and their graph

pub same_node : (cells : List Cell) (c : ℕ) → node_at (graph_of cells) c ≡ node_of (cell_at cells c)
same_node [] c = refl
same_node (cell ∷ cells) zero = refl
same_node (cell ∷ cells) (suc c) = same_node cells c

one_made : (cells : List Cell) → AreMade (graph_of cells) → (c : ℕ) → c < length cells
    → IsMade (node_of (cell_at cells c))
one_made [] all c less = absurd (omega (arith, less))
one_made (cell ∷ cells) all zero less = all.0
one_made (cell ∷ cells) all (suc c) less = one_made cells all.1 c (omega (arith, less))

kinds_are : (cells : List Cell) → kinds_of (graph_of cells) ≡ map (λ (cell : Cell). cell.kind) cells
kinds_are [] = refl
kinds_are (cell ∷ cells) = ap (λ ks. cell.kind ∷ ks) (kinds_are cells)

-- ---- inputs

inputs_are : (cells : List Cell) → filter_map declared_by (map (λ (cell : Cell). cell.kind) cells) ≡ inputs_of cells
inputs_are [] = refl
inputs_are (cell ∷ cells) = ap (cons_option (declared_by cell.kind)) (inputs_are cells)

abbrev names : List InputDecl → List (List ℕ)
names ds = map (λ (d : InputDecl). d.name) ds

-- what holds of the names of inputs holds of the name of an IN
each_name : (P : List ℕ → Type 0) (cells : List Cell) → AllByRecursion P (names (inputs_of cells))
    → (c : ℕ) (name : List ℕ) (basic : Basic) (n : ℕ)
    → (cell_at cells c).kind ≡ kind.In name basic n → P name
each_name P [] all c name basic n is = absurd (no_in is)
  where
    is_in : Kind → Bool
    is_in (kind.In name basic n) = true
    is_in _ = false

    apart : false ≡ true → ⊥
    apart e = cc

    no_in : kind.Buf ≡ kind.In name basic n → ⊥
    no_in e = apart (ap is_in e)
each_name P (cell ∷ cells) all zero name basic n is =
    let e : inputs_of (cell ∷ cells) ≡ record { name = name; basic = basic; length = n } ∷ inputs_of cells =
    ap (λ k. cons_option (declared_by k) (inputs_of cells)) is in
    (subst (λ ds. AllByRecursion P (names ds)) e all).0
each_name P (cell ∷ cells) all (suc c) name basic n is = each_name P cells (rest (declared_by cell.kind) (inputs_of cells) all) c name basic n is
  where
    rest : (o : Option InputDecl) (ds : List InputDecl) → AllByRecursion P (names (cons_option o ds))
        → AllByRecursion P (names ds)
    rest None ds all = all
    rest (Some d) ds all = all.1

own_names : (cells : List Cell) → IsDistinct bytes_eq (names (inputs_of cells))
    → (b c m n : ℕ) (name other : List ℕ) (basic of : Basic) → b < c
    → (cell_at cells b).kind ≡ kind.In other of m → (cell_at cells c).kind ≡ kind.In name basic n → other ≢ name
unfolding IsDistinct
own_names [] d b c m n name other basic of before is is' = λ same. each_name (λ _. ⊥) [] tt b other of m is
own_names (cell ∷ cells) d zero zero m n name other basic of before is is' = absurd (omega (arith, before))
own_names (cell ∷ cells) d zero (suc c) m n name other basic of before is is' =
    let e : inputs_of (cell ∷ cells) ≡ record { name = other; basic = of; length = m } ∷ inputs_of cells =
    ap (λ k. cons_option (declared_by k) (inputs_of cells)) is in
    let differs = each_name (λ x. bytes_eq other x ≡ false) cells (subst (λ ds. IsDistinct bytes_eq (names ds)) e d).0 c name basic n is' in
    λ same. apart (sym differs ∙ (bytes_eq-Decides other name).1 same)
  where
    apart : false ≡ true → ⊥
    apart e = cc
own_names (cell ∷ cells) d (suc b) zero m n name other basic of before is is' = absurd (omega (arith, before))
own_names (cell ∷ cells) d (suc b) (suc c) m n name other basic of before is is' =
    own_names cells (rest (declared_by cell.kind) (inputs_of cells) d) b c m n name other basic of (omega (arith, before)) is is'
  where
    rest : (o : Option InputDecl) (ds : List InputDecl) → IsDistinct bytes_eq (names (cons_option o ds))
        → IsDistinct bytes_eq (names ds)
    rest None ds d = d
    rest (Some x) ds d = d.1

-- ---- outputs

abbrev one_of : Kind → ℕ
one_of it = cond (is_output it) 1 0

abbrev one_if : Cell → ℕ
one_if cell = one_of cell.kind

outputs_are : (cells : List Cell) → outputs_in (map (λ (cell : Cell). cell.kind) cells) ≡ outputs cells
outputs_are [] = refl
outputs_are (cell ∷ cells) =
    sum_by-cons one_of cell.kind (map (λ (cell : Cell). cell.kind) cells)
    ∙ (ap (λ n. one_if cell + n) (outputs_are cells) ∙ sym (sum_by-cons one_if cell cells))

numbers : (n : ℕ) (cells : List Cell) → AreNumbered n (map (λ (cell : Cell). cell.kind) cells) → (c k m : ℕ)
    → (cell_at cells c).kind ≡ kind.Out k m
    → k ≡ n + outputs_before cells c + 1
numbers n [] all c k m is = absurd (no_out is)
  where
    apart : false ≡ true → ⊥
    apart e = cc

    no_out : kind.Buf ≡ kind.Out k m → ⊥
    no_out e = apart (ap is_output e)
numbers n (cell ∷ cells) all zero k m is = let next : k ≡ n + 1 = subst (IsNext n) is all.0 in omega (arith, next)
numbers n (cell ∷ cells) all (suc c) k m is =
    let later : k ≡ n + one_if cell + outputs_before cells c + 1 = numbers (n + one_if cell) cells all.1 c k m is in
    let cons : outputs_before (cell ∷ cells) (suc c) ≡ one_if cell + outputs_before cells c = sum_by-cons one_if cell (take c cells) in
    omega (arith, later, cons)

abbrev end_values : Cell → ℕ
end_values cell = number_or_none (outer_length cell.kind)

few_ends : (cells : List Cell) → AllByRecursion IsShortEnd (map (λ (cell : Cell). cell.kind) cells) → (c : ℕ)
    → outer_values cells c ≤ 4096 * length cells
few_ends cells all zero = omega arith
few_ends [] all (suc c) = omega arith
few_ends (cell ∷ cells) all (suc c) =
    let cons : outer_values (cell ∷ cells) (suc c) ≡ end_values cell + outer_values cells c = sum_by-cons end_values cell (take c cells) in
    let rest = few_ends cells all.1 c in
    let one = all.0 in
    omega (arith, cons, rest, one)

-- ---- the rules

one_shaped : (cells : List Cell) → AreMade (graph_of cells) → (c : ℕ) (d : Cell) → c < length cells
    → IsCell (get_or cells c d)
one_shaped [] all c d less = absurd (omega (arith, less))
one_shaped (cell ∷ cells) all zero d less = let m = all.0 in record { ports = m.ports; runs = m.runs }
one_shaped (cell ∷ cells) all (suc c) d less = one_shaped cells all.1 c d (omega (arith, less))

pub plain : (cells : List Cell) → AreMade (graph_of cells) → (c : ℕ) → c < length cells → is_buf cells c ≡ false
plain cells made c less = (one_made cells made c less).plain

waits : (cells : List Cell) → AreMade (graph_of cells) → (c : ℕ) → c < length cells → WaitsForOperands cells c
waits cells made c less =
    let m = one_made cells made c less in
    record {
      some = λ is. elim (m.some is) [ inl fed ↦ (0, fed.0, fed.1) | inr fed ↦ (1, fed.0, fed.1) ];
      control = m.control;
    }

unloaded : (cells : List Cell) → AreMade (graph_of cells) → (c : ℕ) → c < length cells → LoadsLoops cells c
unloaded cells made c less = record { on_loop = λ p u v is loaded. absurd (none (sym ((one_made cells made c less).unloaded p) ∙ loaded)) }
  where
    none : {v : Value} → None ≡ Some v → ⊥
    none e = cc

-- nothing takes from an OUT
no_dests : (cells : List Cell) → ComeFromSenders (graph_of cells) → (c : ℕ) → ListsItsArcs cells c
    → is_output (cell_at cells c).kind ≡ true
    → (cell_at cells c).dests ≡ []
no_dests cells come c lists is = go (cell_at cells c).dests refl
  where
    apart : false ≡ true → ⊥
    apart e = cc

    go : (ds : List Dest) → (cell_at cells c).dests ≡ ds → (cell_at cells c).dests ≡ []
    go [] e = e
    go (d ∷ ds) e =
        let fed : producer_of cells d ≡ Some (record { 0 = c }) = subst (λ ds. All (λ d. producer_of cells d ≡ Some (record { 0 = c })) ds) e lists.fed 0 d (omega arith) in
        let s = come d.cell.0 d.port.0 (record { 0 = c }) (subst (λ (n : Node). cell_from (slice_get n.ports d.port.0) ≡ Some (record { 0 = c })) (sym (same_node cells d.cell.0)) fed) in
        absurd (apart (sym (sym (ap (λ (n : Node). is_output n.kind) (same_node cells c)) ∙ s.inner) ∙ is))

abbrev EndsOf : Flat → List Cell → Type 0
EndsOf flat cells = HasEnds (declared_inputs flat) (length flat.results) (kinds_of (graph_of cells))

inputs_declared : (flat : Flat) (cells : List Cell) → EndsOf flat cells → inputs_of cells ≡ declared_inputs flat
inputs_declared flat cells ends = sym (inputs_are cells) ∙ (sym (ap (filter_map declared_by) (kinds_are cells)) ∙ ends.inputs)

outputs_counted : (flat : Flat) (cells : List Cell) → EndsOf flat cells → outputs cells ≡ length flat.results
outputs_counted flat cells ends = sym (outputs_are cells) ∙ (sym (ap outputs_in (kinds_are cells)) ∙ ends.count)

names_declared : (is : List Input) → names (map declared_input is) ≡ map (λ (i : Input). i.name) is
names_declared [] = refl
names_declared (i ∷ is) = ap (λ l. i.name ∷ l) (names_declared is)

well_formed : (flat : Flat) (cells : List Cell) → IsFlat flat → IsFinished flat cells → length cells ≤ 4096
    → AreMade (graph_of cells) → ComeFromSenders (graph_of cells)
    → EndsOf flat cells → WellFormed cells
well_formed flat cells is f few made come ends =
    let kinds = kinds_are cells in
    let same = sym (ap names (inputs_declared flat cells ends)) in
    let own = subst (IsDistinct bytes_eq) (sym (names_declared flat.parameters) ∙ same) is.differ in
    let numbered = subst (AreNumbered 0) kinds ends.numbered in
    let short = subst (AllByRecursion IsShortEnd) kinds ends.short in
    record {
      shaped = record { few = omega (arith, few); each = λ c d less. one_shaped cells made c d less };
      port = f.port;
      dest = f.dest;
      source = λ c less. let m = one_made cells made c less in record {
        short = m.short;
        ordinary = λ lo n j is below. m.ordinary lo n is j below;
        own_name = λ b m n name other basic of before is is'. own_names cells own b c m n name other basic of before is is';
      };
      control = waits cells made;
      out = λ c less. record {
        numbered = λ k n is. let e = numbers 0 cells numbered c k n is in omega (arith, e);
        last = λ k n is. no_dests cells come c (f.dest c less) (ap is_output is);
        few = λ n is. let e = few_ends cells short (c + 1) in omega (arith, e, few);
      };
      loop = f.loop;
      buffer = λ c less is. absurd (apart (sym (plain cells made c less) ∙ is));
      load = unloaded cells made;
    }
  where
    apart : false ≡ true → ⊥
    apart e = cc

-- ---- skeletons

module _ (gates : GatesStayInZone) (loops : LoopsStayInZone) (terms : TermsStayInZone) (made_terms : TermsAreMade) (made : ProgramsAreMade)
    (short : (flat : Flat) → IsFlat flat → IsLaidShort (laid whole flat [])) where
  skeleton_ends : (flat : Flat) → IsFlat flat
      → HasEnds (declared_inputs flat) (length flat.results) (kinds_of (program_graph flat))
  unfolding program_on
  skeleton_ends flat is =
      let l = laid whole flat [] in
      let start : Shown = record { graph = l.graph; count = 0 } in
      let s = fold (result_more whole l.outer) start flat.results in
      let all = short flat is in
      let counted = results_counted l.outer flat.results start in
      let count : s.count ≡ length flat.results = omega (arith, counted) in
      subst (λ n. HasEnds (declared_inputs flat) n (kinds_of s.graph)) count
      (results_ends (declared_inputs flat) l.outer all.outer flat.results start (laid_ends made_terms flat is))

  skeleton_sent : (flat : Flat) → IsFlat flat → ComeFromSenders (program_graph flat)
  unfolding program_on
  skeleton_sent flat is =
      let l = laid whole flat [] in
      let ends = laid_ends made_terms flat is in
      results_sent l.outer l.graph (laid_zones gates loops terms flat) ends.count flat.results

  pub skeletons_are_well_formed : SkeletonsAreWellFormed
  skeletons_are_well_formed = record {
    well_formed = λ flat cells is f few.
        well_formed flat cells is f few (subst AreMade (sym f.graph) (made flat is)) (subst ComeFromSenders (sym f.graph) (skeleton_sent flat is)) (ends flat cells is f.graph);
    plain = λ flat cells is same. plain cells (subst AreMade (sym same) (made flat is));
    inputs = λ flat cells is same. inputs_declared flat cells (ends flat cells is same);
    outputs = λ flat cells is same. outputs_counted flat cells (ends flat cells is same);
  }
    where
      ends : (flat : Flat) (cells : List Cell) → IsFlat flat → graph_of cells ≡ program_graph flat → EndsOf flat cells
      ends flat cells is same =
          subst (λ g. HasEnds (declared_inputs flat) (length flat.results) (kinds_of g)) (sym same) (skeleton_ends flat is)
