-- The cells of blocks and programs are made as their kinds ask.
use Rattle.std.proofs.Common.{◌≡◌, ◌≤◌, ◌+◌, ◌-◌, ℕ, ℤ, length, Bool, true, false, List, [], ◌∷◌, fold, Option, Some, None, refl, arith}
use Rattle.std.specs.List.{AllByRecursion}
use Rattle.std.specs.Prelude.{if◌then◌else◌, slice_get, ◌==◌}
use Rattle.df_values.specs.Inputs.{input_length, HasExtent}
use Rattle.df_values.specs.declared.inputs.Extent.{Extent}
use Rattle.df_values.specs.declared.inputs.Input.{Input}
use Rattle.df_values.specs.declared.kinds.Op.{Op}
use Rattle.df_values.specs.declared.values.Value.{Value}
use Rattle.df_cells.specs.declared.kinds.Kind.TheVariants as kind
use Rattle.df_labels.specs.Graphs.{Graph}
use Rattle.df_labels.specs.Patterns.{pattern, steady}
use Rattle.df_labels.specs.declared.graphs.Flow.{Flow}
use Rattle.df_labels.specs.declared.graphs.Flow.TheVariants.{Constant, Cell}
use Rattle.df_core.specs.Meaning.{begun, or_undef}
use Rattle.df_core.specs.Within.{HasRange, IsFlat}
use Rattle.df_core.specs.declared.flat.Block.{Block}
use Rattle.df_core.specs.declared.flat.Body.{Body}
use Rattle.df_core.specs.declared.flat.Body.TheVariants as body
use Rattle.df_core.specs.declared.flat.Flat.{Flat}
use Rattle.df_core.specs.declared.terms.Term.{Term}
use Rattle.df_build_cond.specs.Gates.{patterned}
use Rattle.df_build_cond.specs.Growth.{Grown, whole, with_cell, pushed}
use Rattle.df_build_cond.specs.Laws.{GatesAreMade}
use Rattle.df_build_cond.specs.Made.{AreMade}
use Rattle.df_build_loops.specs.Folds.{loop_begun}
use Rattle.df_build_loops.specs.Frames.{opened}
use Rattle.df_build_loops.specs.Laws.{LoopsAreMade}
use Rattle.df_build_terms.specs.Building as building
use Rattle.df_build_terms.specs.Made.{AreFit, HasShortArrays, TermsAreMade}
use Rattle.df_build_terms.specs.Outer.{many}
use Rattle.df_build_terms.specs.declared.building.Outside.{Outside}
use Rattle.df_build_terms.specs.declared.building.Outside.TheVariants.{Single, Many}
use Rattle.df_build_terms.specs.declared.building.Turns.{Turns}
use Rattle.df_build_elem.specs.Blocks.{one_turn, turns_of, element, alone, listed, constructed, folded_from, folded_first, folded_by, folded, grown_by, recurred, placed, shown}
use Rattle.df_build_elem.specs.Laws.{ProgramsAreMade}
use Rattle.df_build_elem.specs.Program.{Laid, Shown, input_at, laid_input, laid_block, laid, result_of, result_more, program_on}
use Rattle.df_build_elem.proofs.Lists.{all_push, all_get, fold_keeps, fold_keeps_each}
use Rattle.df_build_elem.proofs.Ranges.{all_each, range_fits, turns_fit, one_fits}

-- an array has at most 4,096 elements
unfoldable pub IsShort : Outside → Type 0
IsShort (Single f) = Unit {0}
IsShort (Many a) = a.n ≤ 4096

pub record IsLaidShort (l : Laid) : Type 0 where
  pub cells : AreMade l.graph
  pub outer : AllByRecursion IsShort l.outer

module _ (gates : GatesAreMade) (loops : LoopsAreMade) (terms : TermsAreMade) where
  -- ---- blocks

  element_made : (turns : Turns) (outer : List Outside) (x : Term) (g : Graph) → AreFit turns → HasShortArrays outer
      → AreMade g
      → AreMade (element whole turns outer x g).graph
  unfolding element
  element_made turns outer x g fit arrays all = terms.made turns outer x fit arrays [] (building.begun g) all

  empty_made : (g : Graph) → AreMade g → AreMade (with_cell whole g (kind.Ctl []) [])
  empty_made g all = gates.cell g (kind.Ctl []) [] all (gates.nodes.control [] tt (omega arith))

  listed_made : (n : ℕ) (g : Graph) (flow : Flow) → n ≤ 65536 → AreMade g → AreMade (listed whole n g flow).graph
  listed_made n g (Constant v) few all = gates.cell g (kind.Ctl (steady n v)) [] all (gates.nodes.steady n v few)
  listed_made n g (Cell c) few all = all

  constructed_made : (turns : Turns) (outer : List Outside) (x : Term) (g : Graph) → AreFit turns → HasShortArrays outer
      → AreMade g
      → AreMade (constructed whole turns outer x g).graph
  unfolding constructed
  constructed_made turns outer x g fit arrays all =
      let few = fit.short in
      let e = element whole turns outer x g in
      elim (turns.n == 0) as (λ t. AreMade (if t then pushed whole g (kind.Ctl []) [] else listed whole turns.n e.graph e.flow).graph) [
        | true ↦ empty_made g all
        | false ↦ listed_made turns.n e.graph e.flow (omega (arith, few)) (element_made turns outer x g fit arrays all)
      ]

  folded_from_made : (v : Value) (op : Op) (turns : Turns) (outer : List Outside) (x : Term) (g : Graph) → AreFit turns
      → HasShortArrays outer → AreMade g
      → AreMade (folded_from whole v op turns outer x g).graph
  unfolding folded_from
  folded_from_made v op turns outer x g fit arrays all =
      let l = loop_begun whole (Constant v) turns.n g in
      loops.ended op l.merge l.gate turns.n (element whole turns outer x l.graph) fit.short
      (element_made turns outer x l.graph fit arrays (loops.begun (Constant v) turns.n g fit.short all))

  folded_first_made : (op : Op) (turns : Turns) (outer : List Outside) (x : Term) (g : Graph) → 1 ≤ turns.n
      → AreFit turns → HasShortArrays outer → AreMade g
      → AreMade (folded_first whole op turns outer x g).graph
  unfolding folded_first
  folded_first_made op turns outer x g some fit arrays all =
      let few = fit.short in
      let k = turns.n - 1 in
      let parts : List (ℕ × Bool) = (1, true) ∷ (k, false) ∷ [] in
      let e = element whole turns outer x g in
      let s = listed whole turns.n e.graph e.flow in
      let sm = listed_made turns.n e.graph e.flow (omega (arith, few)) (element_made turns outer x g fit arrays all) in
      let first = patterned whole s.graph kind.Tgate (Cell s.cell ∷ []) parts in
      let ctl = gates.nodes.two_parts 1 k true false (omega (arith, few)) in
      let fm = gates.ruled s.graph kind.Tgate (Cell s.cell ∷ []) (pattern parts) sm (gates.nodes.gate true (length s.graph + 1) s.cell) ctl in
      let rest = patterned whole first.graph kind.Fgate (Cell s.cell ∷ []) parts in
      let rm = gates.ruled first.graph kind.Fgate (Cell s.cell ∷ []) (pattern parts) fm (gates.nodes.gate false (length first.graph + 1) s.cell) ctl in
      let l = loop_begun whole (Cell first.cell) k rest.graph in
      loops.ended op l.merge l.gate k (record { graph = l.graph; flow = Cell rest.cell }) (omega (arith, few))
      (loops.begun (Cell first.cell) k rest.graph (omega (arith, few)) rm)

  folded_by_made : (begins : Option Value) (op : Op) (turns : Turns) (outer : List Outside) (x : Term) (g : Graph)
      → 1 ≤ turns.n → AreFit turns
      → HasShortArrays outer → AreMade g → AreMade (folded_by whole begins op turns outer x g).graph
  folded_by_made (Some v) op turns outer x g some fit arrays all = folded_from_made v op turns outer x g fit arrays all
  folded_by_made None op turns outer x g some fit arrays all = folded_first_made op turns outer x g some fit arrays all

  folded_made : (op : Op) (turns : Turns) (outer : List Outside) (x : Term) (g : Graph) → AreFit turns
      → HasShortArrays outer → AreMade g
      → AreMade (folded whole op turns outer x g).graph
  unfolding folded
  folded_made op turns outer x g fit arrays all = go (turns.n == 0) refl
    where
      made : Grown
      made = let s = folded_by whole (begun op) op turns outer x g in record { graph = s.graph; flow = Cell s.cell }

      constant : Grown
      constant = record { graph = g; flow = Constant (or_undef (begun op)) }

      go : (t : Bool) → (turns.n == 0) ≡ t → AreMade (if◌then◌else◌ {A = Grown} t constant made).graph
      go true is = all
      go false is = folded_by_made (begun op) op turns outer x g (grind (arith, is)) fit arrays all

  grown_by_made : (lo : ℤ) (n : ℕ) (outer : List Outside) (x : Term) (g : Graph) (first : Flow) → AreFit (turns_of lo n)
      → HasShortArrays outer → AreMade g
      → AreMade (grown_by whole lo n outer x g first).graph
  unfolding grown_by
  grown_by_made lo n outer x g first fit arrays all =
      let o = opened whole g first n in
      let turns : Turns = record { lo = lo; n = n; own = Some o.cell } in
      let e = element whole turns outer x o.graph in
      loops.closed e.graph o.cell e.flow
      (element_made turns outer x o.graph (record { short = fit.short; ordinary = fit.ordinary }) arrays (loops.opened g first n fit.short all))

  recurred_made : (lo : ℤ) (n : ℕ) (outer : List Outside) (first x : Term) (g : Graph) → AreFit (turns_of lo n)
      → HasShortArrays outer → AreMade g
      → AreMade (recurred whole lo n outer first x g).graph
  unfolding recurred
  recurred_made lo n outer first x g fit arrays all =
      let e = alone whole outer first g in
      let em = element_made one_turn outer first g one_fits arrays all in
      elim (n == 0) as (λ t. AreMade (if t then listed whole 1 e.graph e.flow else grown_by whole lo n outer x e.graph e.flow).graph) [
        | true ↦ listed_made 1 e.graph e.flow (omega arith) em
        | false ↦ grown_by_made lo n outer x e.graph e.flow fit arrays em
      ]

  -- ---- what stands outside

  short_arrays : (outer : List Outside) → AllByRecursion IsShort outer → HasShortArrays outer
  unfolding IsShort
  short_arrays outer all number = array (slice_get outer number) refl
    where
      array : (o : Option Outside) → slice_get outer number ≡ o → (many o).n ≤ 65536
      array (Some (Single f)) is = omega arith
      array (Some (Many a)) is = let few : a.n ≤ 4096 = all_get IsShort outer number (Many a) all is in omega (arith, few)
      array None is = omega arith

  placed_made : (outer : List Outside) (b : Body) (g : Graph) → HasRange b → HasShortArrays outer → AreMade g
      → AreMade (placed whole outer b g).graph × IsShort (placed whole outer b g).outside
  unfolding placed IsShort
  placed_made outer (body.Construct lo n x) g r arrays all = (constructed_made (turns_of lo n) outer x g (range_fits lo n r) arrays all, r.short)
  placed_made outer (body.Fold op lo n x) g r arrays all = (folded_made op (turns_of lo n) outer x g (range_fits lo n r) arrays all, tt)
  placed_made outer (body.Recurrence lo n first x) g r arrays all = (recurred_made lo n outer first x g (turns_fit lo n r) arrays all, r.short)
  placed_made outer (body.Scalar x) g r arrays all = (element_made one_turn outer x g one_fits arrays all, tt)

  shown_made : (is_result : Bool) (g : Graph) (o : Outside) → AreMade g → IsShort o
      → AreMade (shown whole is_result g o).graph × IsShort (shown whole is_result g o).outside
  unfolding shown IsShort
  shown_made true g (Single f) all short = (listed_made 1 g f (omega arith) all, tt)
  shown_made true g (Many a) all short = (all, short)
  shown_made false g o all short = (all, short)

  -- ---- programs

  input_made : (l : Laid) (i : Input) → HasExtent i.extent → IsLaidShort l → IsLaidShort (laid_input whole l i)
  unfolding IsShort
  input_made l i e good = record {
    cells = gates.cell l.graph (kind.In i.name i.basic (input_length i.extent)) [] good.cells (gates.nodes.input i.name i.basic (input_length i.extent) (few i.extent e));
    outer = all_push IsShort l.outer (input_at (length l.graph) i.extent) good.outer (short i.extent e);
  }
    where
      few : (e : Option Extent) → HasExtent e → input_length e ≤ 65536
      few (Some e) r = let s = r.short in omega (arith, s)
      few None r = omega arith

      short : (e : Option Extent) → HasExtent e → IsShort (input_at (length l.graph) e)
      short (Some e) r = r.short
      short None r = tt

  block_made : (l : Laid) (b : Block) → HasRange b.body → IsLaidShort l → IsLaidShort (laid_block whole l b)
  block_made l b r good =
      let p = placed whole l.outer b.body l.graph in
      let pm = placed_made l.outer b.body l.graph r (short_arrays l.outer good.outer) good.cells in
      let qm = shown_made b.is_result p.graph p.outside pm.0 pm.1 in
      record { cells = qm.0; outer = all_push IsShort l.outer (shown whole b.is_result p.graph p.outside).outside good.outer qm.1 }

  out_made : (k n c : ℕ) (g : Graph) → n ≤ 65536 → AreMade g → AreMade (with_cell whole g (kind.Out k n) (Cell c ∷ []))
  out_made k n c g few all = gates.cell g (kind.Out k n) (Cell c ∷ []) all (gates.nodes.output k n c few)

  result_made : (k : ℕ) (g : Graph) (o : Option Outside) → ((p : Outside) → o ≡ Some p → IsShort p) → AreMade g
      → AreMade (result_of whole k g o)
  unfolding result_of IsShort
  result_made k g (Some (Single f)) short all =
      let s = listed whole 1 g f in out_made (k + 1) 1 s.cell s.graph (omega arith) (listed_made 1 g f (omega arith) all)
  result_made k g (Some (Many a)) short all =
      let few : a.n ≤ 4096 = short (Many a) refl in out_made (k + 1) a.n a.cell g (omega (arith, few)) all
  result_made k g None short all =
      let s = pushed whole g (kind.Ctl []) [] in out_made (k + 1) 0 s.cell s.graph (omega arith) (empty_made g all)

  more_made : (outer : List Outside) → AllByRecursion IsShort outer → (s : Shown) (number : ℕ) → AreMade s.graph
      → AreMade (result_more whole outer s number).graph
  more_made outer short s number all = result_made s.count s.graph (slice_get outer number) (λ p is. all_get IsShort outer number p short is) all

  pub laid_short : (flat : Flat) → IsFlat flat → IsLaidShort (laid whole flat [])
  laid_short flat is =
      fold_keeps_each IsLaidShort (λ (b : Block). HasRange b.body) (laid_block whole) block_made flat.blocks
      (fold (laid_input whole) (record { graph = []; outer = [] }) flat.parameters) (all_each (λ (b : Block). HasRange b.body) flat.blocks is.ranges)
      (fold_keeps_each IsLaidShort (λ (i : Input). HasExtent i.extent) (laid_input whole) input_made flat.parameters (record { graph = []; outer = [] })
      (all_each (λ (i : Input). HasExtent i.extent) flat.parameters is.extents) (record { cells = tt; outer = tt }))

  pub programs_are_made : ProgramsAreMade
  unfolding program_on
  programs_are_made flat is =
      let l = laid whole flat [] in
      let lm = laid_short flat is in
      fold_keeps (λ (s : Shown). AreMade s.graph) (result_more whole l.outer) (more_made l.outer lm.outer) flat.results (record { graph = l.graph; count = 0 }) lm.cells
