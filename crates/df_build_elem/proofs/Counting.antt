-- Counting blocks and programs is building them.
use Rattle.std.proofs.Common.{◌≡◌, ℕ, ℤ, suc, ◌+◌, ◌-◌, Bool, true, false, List, [], ◌∷◌, ◌++◌, map, fold, Option, Some, None, refl, ap, ◌∙◌}
use Rattle.std.specs.Prelude.{if◌then◌else◌, slice_get, ◌==◌}
use Rattle.df_values.specs.Inputs.{input_length}
use Rattle.df_values.specs.declared.inputs.Input.{Input}
use Rattle.df_values.specs.declared.kinds.Op.{Op}
use Rattle.df_values.specs.declared.values.Value.{Value}
use Rattle.df_cells.specs.declared.kinds.Kind.TheVariants as kind
use Rattle.df_labels.specs.Graphs.{Graph, Node, no_node}
use Rattle.df_labels.specs.Patterns.{pattern, steady}
use Rattle.df_labels.specs.declared.graphs.Flow.{Flow}
use Rattle.df_labels.specs.declared.graphs.Flow.TheVariants.{Constant, Cell}
use Rattle.df_core.specs.Meaning.{begun, or_undef, before}
use Rattle.df_core.specs.declared.flat.Block.{Block}
use Rattle.df_core.specs.declared.flat.Body.{Body}
use Rattle.df_core.specs.declared.flat.Body.TheVariants as body
use Rattle.df_core.specs.declared.flat.Flat.{Flat}
use Rattle.df_core.specs.declared.terms.Term.{Term}
use Rattle.df_build_cond.specs.Counting.{over_stood, over_grown}
use Rattle.df_build_cond.specs.Gates.{patterned}
use Rattle.df_build_cond.specs.Growth.{Stood, Grown, whole, with_cell, pushed}
use Rattle.df_build_cond.specs.Laws.{GatesCountTheSame}
use Rattle.df_build_loops.specs.Folds.{Loop, loop_begun, loop_ended}
use Rattle.df_build_loops.specs.Frames.{opened, closed}
use Rattle.df_build_loops.specs.Laws.{LoopsCountTheSame}
use Rattle.df_build_terms.specs.Building as building
use Rattle.df_build_terms.specs.Building.{Built}
use Rattle.df_build_terms.specs.Counting.{TermsCountTheSame}
use Rattle.df_build_terms.specs.declared.building.Outside.{Outside}
use Rattle.df_build_terms.specs.declared.building.Outside.TheVariants.{Single, Many}
use Rattle.df_build_terms.specs.declared.building.Turns.{Turns}
use Rattle.df_build_elem.specs.Blocks.{Placed, one_turn, turns_of, as_scalar, as_array, element, alone, listed, constructed, folded_from, folded_first, folded_by, folded, grown_by, recurred, placed, shown}
use Rattle.df_build_elem.specs.Laws.{ProgramsCountTheSame}
use Rattle.df_build_elem.specs.Program.{Laid, Shown, input_at, laid_input, laid_block, laid, result_of, result_more, program_on}

abbrev none : Node → Node
none = λ _. no_node

abbrev over : Stood → Stood
over = over_stood none

abbrev over_value : Grown → Grown
over_value = over_grown none

abbrev over_loop : Loop → Loop
over_loop l = record l { graph = map none l.graph }

abbrev over_placed : Placed → Placed
over_placed p = record p { graph = map none p.graph }

abbrev over_laid : Laid → Laid
over_laid l = record l { graph = map none l.graph }

abbrev over_shown : Shown → Shown
over_shown s = record s { graph = map none s.graph }

module _ (gates : GatesCountTheSame) (loops : LoopsCountTheSame) (terms : TermsCountTheSame) where
  -- ---- blocks

  element_follows : (turns : Turns) (outer : List Outside) (x : Term) (g : Graph)
      → element none turns outer x (map none g) ≡ over_value (element whole turns outer x g)
  unfolding element
  element_follows turns outer x g =
      ap (λ (e : Built). record { graph = e.state.graph; flow = e.flow }) (terms none whole turns outer x [] (building.begun g))

  listed_follows : (n : ℕ) (g : Graph) (flow : Flow) → listed none n (map none g) flow ≡ over (listed whole n g flow)
  listed_follows n g (Constant v) = gates.pushed none whole g (kind.Ctl (steady n v)) []
  listed_follows n g (Cell c) = refl

  constructed_follows : (turns : Turns) (outer : List Outside) (x : Term) (g : Graph)
      → constructed none turns outer x (map none g) ≡ over (constructed whole turns outer x g)
  unfolding constructed
  constructed_follows turns outer x g =
      let e = element whole turns outer x g in
      elim (turns.n == 0) as (λ t. (if t then pushed none (map none g) (kind.Ctl []) []
      else (let e = element none turns outer x (map none g) in listed none turns.n e.graph e.flow))
      ≡ over (if t then pushed whole g (kind.Ctl []) [] else listed whole turns.n e.graph e.flow)) [
        | true ↦ gates.pushed none whole g (kind.Ctl []) []
        | false ↦ ap (λ (e : Grown). listed none turns.n e.graph e.flow) (element_follows turns outer x g) ∙ listed_follows turns.n e.graph e.flow
      ]

  folded_from_follows : (v : Value) (op : Op) (turns : Turns) (outer : List Outside) (x : Term) (g : Graph)
      → folded_from none v op turns outer x (map none g) ≡ over (folded_from whole v op turns outer x g)
  unfolding folded_from
  folded_from_follows v op turns outer x g =
      let l = loop_begun whole (Constant v) turns.n g in
      ap (λ (l : Loop). loop_ended none op l.merge l.gate turns.n (element none turns outer x l.graph)) (loops.begun none whole (Constant v) turns.n g)
      ∙ (ap (loop_ended none op l.merge l.gate turns.n) (element_follows turns outer x l.graph)
      ∙ loops.ended whole op l.merge l.gate turns.n (element whole turns outer x l.graph))

  folded_first_follows : (op : Op) (turns : Turns) (outer : List Outside) (x : Term) (g : Graph)
      → folded_first none op turns outer x (map none g) ≡ over (folded_first whole op turns outer x g)
  unfolding folded_first
  folded_first_follows op turns outer x g =
      let k = turns.n - 1 in
      let parts : List (ℕ × Bool) = (1, true) ∷ (k, false) ∷ [] in
      let runs = pattern parts in
      let looped : Stood → ℕ → Stood = λ rest first.
      let l = loop_begun none (Cell first) k rest.graph in loop_ended none op l.merge l.gate k (record { graph = l.graph; flow = Cell rest.cell }) in
      let begins : ℕ → Stood → Stood = λ c first. looped (patterned none first.graph kind.Fgate (Cell c ∷ []) parts) first.cell in
      let after : Stood → Stood = λ s. begins s.cell (patterned none s.graph kind.Tgate (Cell s.cell ∷ []) parts) in
      let e = element whole turns outer x g in
      let s = listed whole turns.n e.graph e.flow in
      let first = patterned whole s.graph kind.Tgate (Cell s.cell ∷ []) parts in
      let rest = patterned whole first.graph kind.Fgate (Cell s.cell ∷ []) parts in
      let l = loop_begun whole (Cell first.cell) k rest.graph in
      ap (λ (e : Grown). after (listed none turns.n e.graph e.flow)) (element_follows turns outer x g)
      ∙ (ap after (listed_follows turns.n e.graph e.flow)
      ∙ (ap (begins s.cell) (gates.ruled none whole s.graph kind.Tgate (Cell s.cell ∷ []) runs)
      ∙ (ap (λ (rest : Stood). looped rest first.cell) (gates.ruled none whole first.graph kind.Fgate (Cell s.cell ∷ []) runs)
      ∙ (ap (λ (l : Loop). loop_ended none op l.merge l.gate k (record { graph = l.graph; flow = Cell rest.cell })) (loops.begun none whole (Cell first.cell) k rest.graph)
      ∙ loops.ended whole op l.merge l.gate k (record { graph = l.graph; flow = Cell rest.cell })))))

  folded_by_follows : (begins : Option Value) (op : Op) (turns : Turns) (outer : List Outside) (x : Term) (g : Graph)
      → folded_by none begins op turns outer x (map none g) ≡ over (folded_by whole begins op turns outer x g)
  folded_by_follows (Some v) op turns outer x g = folded_from_follows v op turns outer x g
  folded_by_follows None op turns outer x g = folded_first_follows op turns outer x g

  folded_follows : (op : Op) (turns : Turns) (outer : List Outside) (x : Term) (g : Graph)
      → folded none op turns outer x (map none g) ≡ over_value (folded whole op turns outer x g)
  unfolding folded
  folded_follows op turns outer x g =
      let constant : Graph → Grown = λ g. record { graph = g; flow = Constant (or_undef (begun op)) } in
      let value : Stood → Grown = λ s. record { graph = s.graph; flow = Cell s.cell } in
      elim (turns.n == 0) as (λ t. (if t then constant (map none g) else value (folded_by none (begun op) op turns outer x (map none g)))
      ≡ over_value (if t then constant g else value (folded_by whole (begun op) op turns outer x g))) [
        | true ↦ refl
        | false ↦ ap value (folded_by_follows (begun op) op turns outer x g)
      ]

  grown_by_follows : (lo : ℤ) (n : ℕ) (outer : List Outside) (x : Term) (g : Graph) (first : Flow)
      → grown_by none lo n outer x (map none g) first ≡ over (grown_by whole lo n outer x g first)
  unfolding grown_by
  grown_by_follows lo n outer x g first =
      let o = opened whole g first n in
      let turns : Turns = record { lo = lo; n = n; own = Some o.cell } in
      let e = element whole turns outer x o.graph in
      ap (λ (o : Stood). let e = element none (record { lo = lo; n = n; own = Some o.cell }) outer x o.graph in record { graph = closed e.graph o.cell e.flow; cell = o.cell })
      (loops.opened none whole g first n)
      ∙ (ap (λ (e : Grown). record { graph = closed e.graph o.cell e.flow; cell = o.cell }) (element_follows turns outer x o.graph)
      ∙ ap (λ (h : Graph). record { graph = h; cell = o.cell }) (loops.closed e.graph o.cell e.flow))

  recurred_follows : (lo : ℤ) (n : ℕ) (outer : List Outside) (first x : Term) (g : Graph)
      → recurred none lo n outer first x (map none g) ≡ over (recurred whole lo n outer first x g)
  unfolding recurred
  recurred_follows lo n outer first x g =
      let e = alone whole outer first g in
      ap (λ (e : Grown). if n == 0 then listed none 1 e.graph e.flow else grown_by none lo n outer x e.graph e.flow) (element_follows one_turn outer first g)
      ∙ elim (n == 0) as (λ t. (if t then listed none 1 (map none e.graph) e.flow else grown_by none lo n outer x (map none e.graph) e.flow)
      ≡ over (if t then listed whole 1 e.graph e.flow else grown_by whole lo n outer x e.graph e.flow)) [
        | true ↦ listed_follows 1 e.graph e.flow
        | false ↦ grown_by_follows lo n outer x e.graph e.flow
      ]

  placed_follows : (outer : List Outside) (b : Body) (g : Graph)
      → placed none outer b (map none g) ≡ over_placed (placed whole outer b g)
  unfolding placed
  placed_follows outer (body.Construct lo n x) g = ap (as_array lo n) (constructed_follows (turns_of lo n) outer x g)
  placed_follows outer (body.Fold op lo n x) g = ap as_scalar (folded_follows op (turns_of lo n) outer x g)
  placed_follows outer (body.Recurrence lo n first x) g = ap (as_array (before lo) (suc n)) (recurred_follows lo n outer first x g)
  placed_follows outer (body.Scalar x) g = ap as_scalar (element_follows one_turn outer x g)

  shown_follows : (is_result : Bool) (g : Graph) (o : Outside)
      → shown none is_result (map none g) o ≡ over_placed (shown whole is_result g o)
  unfolding shown
  shown_follows true g (Single f) = ap (λ (s : Stood). record { graph = s.graph; outside = Single (Cell s.cell) }) (listed_follows 1 g f)
  shown_follows true g (Many a) = refl
  shown_follows false g o = refl

  -- ---- programs

  fold_follows : {L X : Type 0} (over : L → L) (f g : L → X → L) → ((l : L) (x : X) → f (over l) x ≡ over (g l x))
      → (xs : List X) (l : L)
      → fold f (over l) xs ≡ over (fold g l xs)
  fold_follows over f g h [] l = refl
  fold_follows over f g h (x ∷ xs) l = ap (λ m. fold f m xs) (h l x) ∙ fold_follows over f g h xs (g l x)

  input_follows : (l : Laid) (i : Input) → laid_input none (over_laid l) i ≡ over_laid (laid_input whole l i)
  input_follows l i =
      ap (λ (s : Stood). record { graph = s.graph; outer = l.outer ++ input_at s.cell i.extent ∷ [] })
      (gates.pushed none whole l.graph (kind.In i.name i.basic (input_length i.extent)) [])

  block_follows : (l : Laid) (b : Block) → laid_block none (over_laid l) b ≡ over_laid (laid_block whole l b)
  block_follows l b =
      let p = placed whole l.outer b.body l.graph in
      ap (λ (p : Placed). let q = shown none b.is_result p.graph p.outside in record { graph = q.graph; outer = l.outer ++ q.outside ∷ [] })
      (placed_follows l.outer b.body l.graph)
      ∙ ap (λ (q : Placed). record { graph = q.graph; outer = l.outer ++ q.outside ∷ [] }) (shown_follows b.is_result p.graph p.outside)

  result_follows : (k : ℕ) (g : Graph) (o : Option Outside)
      → result_of none k (map none g) o ≡ map none (result_of whole k g o)
  unfolding result_of
  result_follows k g (Some (Single f)) =
      let s = listed whole 1 g f in
      ap (λ (s : Stood). with_cell none s.graph (kind.Out (k + 1) 1) (Cell s.cell ∷ [])) (listed_follows 1 g f)
      ∙ gates.cell none whole s.graph (kind.Out (k + 1) 1) (Cell s.cell ∷ [])
  result_follows k g (Some (Many a)) = gates.cell none whole g (kind.Out (k + 1) a.n) (Cell a.cell ∷ [])
  result_follows k g None =
      let s = pushed whole g (kind.Ctl []) [] in
      ap (λ (s : Stood). with_cell none s.graph (kind.Out (k + 1) 0) (Cell s.cell ∷ [])) (gates.pushed none whole g (kind.Ctl []) [])
      ∙ gates.cell none whole s.graph (kind.Out (k + 1) 0) (Cell s.cell ∷ [])

  more_follows : (outer : List Outside) (s : Shown) (number : ℕ)
      → result_more none outer (over_shown s) number ≡ over_shown (result_more whole outer s number)
  more_follows outer s number = ap (λ (h : Graph). record { graph = h; count = s.count + 1 }) (result_follows s.count s.graph (slice_get outer number))

  laid_follows : (flat : Flat) (g : Graph) → laid none flat (map none g) ≡ over_laid (laid whole flat g)
  laid_follows flat g =
      ap (λ l. fold (laid_block none) l flat.blocks)
      (fold_follows over_laid (laid_input none) (laid_input whole) input_follows flat.parameters (record { graph = g; outer = [] }))
      ∙ fold_follows over_laid (laid_block none) (laid_block whole) block_follows flat.blocks
      (fold (laid_input whole) (record { graph = g; outer = [] }) flat.parameters)

  pub programs_count_the_same : ProgramsCountTheSame
  unfolding program_on
  programs_count_the_same flat g =
      let l = laid whole flat g in
      ap (λ (l : Laid). (fold (result_more none l.outer) (record { graph = l.graph; count = 0 }) flat.results).graph) (laid_follows flat g)
      ∙ ap (λ (s : Shown). s.graph)
      (fold_follows over_shown (result_more none l.outer) (result_more whole l.outer) (more_follows l.outer) flat.results (record { graph = l.graph; count = 0 }))
