-- Facts of graphs that stay where a term is built, from those that stay where its parts are.
use Rattle.std.proofs.Common.{◌≡◌, ℕ, ℤ, ◌≤◌, Bool, true, false, List, [], ◌∷◌, ◌++◌, map, length, Option, Some, None, refl, sym, subst, arith}
use Rattle.std.specs.Prelude.{if◌then◌else◌, nat_lt, slice_get}
use Rattle.df_values.specs.declared.kinds.Binary.{Binary}
use Rattle.df_values.specs.declared.kinds.Unary.{Unary}
use Rattle.df_values.specs.declared.values.Value.TheVariants as value
use Rattle.df_cells.specs.Families.{kind_of, kind_of_one}
use Rattle.df_cells.specs.declared.kinds.Kind.TheVariants as kind
use Rattle.df_labels.specs.Graphs.{Graph}
use Rattle.df_labels.specs.declared.graphs.Flow.{Flow}
use Rattle.df_labels.specs.declared.graphs.Flow.TheVariants.{Constant, Cell}
use Rattle.df_core.specs.TermInduction.{Proved, without, term_induction}
use Rattle.df_core.specs.Terms.{layer_of, fold_rolled}
use Rattle.df_core.specs.declared.terms.Branch.{Branch}
use Rattle.df_core.specs.declared.terms.Step.{Step}
use Rattle.df_core.specs.declared.terms.Term.{Term}
use Rattle.df_core.specs.declared.terms.Term.TheOpen.{Term-F}
use Rattle.df_build_cond.specs.Arms.{Arm, cross}
use Rattle.df_build_cond.specs.Growth.{whole, with_cell}
use Rattle.df_build_cond.specs.Laws.{GatesAreMade}
use Rattle.df_build_cond.specs.Made.{AreMade}
use Rattle.df_build_access.specs.Elements.{windowed}
use Rattle.df_build_access.specs.Laws.{WindowsAreMade}
use Rattle.df_build_loops.specs.Frames.{previous}
use Rattle.df_build_loops.specs.Holds.{held}
use Rattle.df_build_loops.specs.Laws.{LoopsAreMade}
use Rattle.df_build_terms.specs.Building as b
use Rattle.df_build_terms.specs.Building.{Building, Built, Make, enter, leave}
use Rattle.df_build_terms.specs.Built.{local_of, form, built, chained, choose, defined}
use Rattle.df_build_terms.specs.Made.{AreFit, HasShortArrays, KeepsGraph}
use Rattle.df_build_terms.specs.Outer.{flow_at, array_at}
use Rattle.df_build_terms.specs.declared.building.Local.{Local}
use Rattle.df_build_terms.specs.declared.building.Outside.{Outside}
use Rattle.df_build_terms.specs.declared.building.Turns.{Turns}

-- what stays where a cell of a term is made
pub record StaysWith (Q : Graph → Type 0) (turns : Turns) (outer : List Outside) : Type 0 where
  pub joined_left : (with : Binary) (c : ℕ) (y : Flow) (g : Graph) → Q g
      → Q (with_cell whole g (kind_of with) (Cell c ∷ y ∷ []))
  pub joined_right : (with : Binary) (x : Flow) (d : ℕ) (g : Graph) → Q g
      → Q (with_cell whole g (kind_of with) (x ∷ Cell d ∷ []))
  pub changed : (how : Unary) (c : ℕ) (g : Graph) → Q g → Q (with_cell whole g (kind_of_one how) (Cell c ∷ []))
  pub merge : (control : ℕ) (x y : Flow) (g : Graph) → Q g
      → Q (with_cell whole g kind.Merge (Cell control ∷ x ∷ y ∷ []))
  pub index : (g : Graph) → Q g → Q (with_cell whole g (kind.Idx turns.lo turns.n) [])
  pub cross : (level : ℕ) (g : Graph) (arms : List Arm) (flow : Flow) → Q g → Q (cross whole level g arms flow).graph
  pub held : (u : ℕ) (g : Graph) → 2 ≤ turns.n → Q g → Q (held whole g u turns.n).graph
  pub previous : (m : ℕ) (g : Graph) → Q g → Q (previous whole g m turns.n).graph
  pub windowed : (number : ℕ) (offset : ℤ) (g : Graph) → Q g
      → Q (windowed whole turns.lo turns.n (array_at outer number) offset g).graph

module _ (Q : Graph → Type 0) (turns : Turns) (outer : List Outside) (stays : StaysWith Q turns outer) where
  abbrev Kept : Built → Type 0
  Kept x = Q x.state.graph

  crossed : (level : ℕ) (s : Building) (flow : Flow) → Q s.graph → Kept (b.crossed whole level s flow)
  unfolding b.crossed
  crossed level s flow q = stays.cross level s.graph s.arms flow q

  joined : (with : Binary) (s : Building) (x y : Flow) → Q s.graph → Kept (b.joined whole with s x y)
  unfolding b.joined
  joined with s (Constant v) (Constant w) q = q
  joined with s (Constant v) (Cell d) q = stays.joined_right with (Constant v) d s.graph q
  joined with s (Cell c) y q = stays.joined_left with c y s.graph q

  changed : (how : Unary) (s : Building) (x : Flow) → Q s.graph → Kept (b.changed whole how s x)
  unfolding b.changed
  changed how s (Constant v) q = q
  changed how s (Cell c) q = stays.changed how c s.graph q

  chosen : (control : ℕ) (s : Building) (x y : Flow) → Q s.graph → Kept (b.chosen whole control s x y)
  unfolding b.chosen
  chosen control s x y q = stays.merge control x y s.graph q

  from_local : (s : Building) (l : Option Local) → Q s.graph → Kept (b.from_local whole s l)
  unfolding b.from_local
  from_local s (Some l) q = crossed l.arms s l.flow q
  from_local s None q = q

  index_met : (s : Building) (c : Option ℕ) → Q s.graph → Kept (b.index_met whole turns s c)
  index_met s (Some c) q = crossed 0 s (Cell c) q
  index_met s None q = crossed 0 _ (Cell (length s.graph)) (stays.index s.graph q)

  hold_met : (number u : ℕ) (s : Building) (h : Option ℕ) → 2 ≤ turns.n → Q s.graph
      → Kept (b.hold_met whole turns number u s h)
  hold_met number u s (Some h) two q = crossed 0 s (Cell h) q
  hold_met number u s None two q = crossed 0 _ (Cell (length s.graph)) (stays.held u s.graph two q)

  outer_met : (number : ℕ) (s : Building) (flow : Flow) → Q s.graph → Kept (b.outer_met whole turns number s flow)
  outer_met number s (Constant v) q = q
  outer_met number s (Cell u) q = go (nat_lt 1 turns.n) refl
    where
      go : (t : Bool) → nat_lt 1 turns.n ≡ t
          → Kept (if t then b.hold_met whole turns number u s (s.met.holds number) else b.crossed whole 0 s (Cell u))
      go true is = hold_met number u s (s.met.holds number) (grind (arith, is)) q
      go false is = crossed 0 s (Cell u) q

  previous_met : (m : ℕ) (s : Building) (c : Option ℕ) → Q s.graph → Kept (b.previous_met whole turns m s c)
  previous_met m s (Some c) q = crossed 0 s (Cell c) q
  previous_met m s None q = let t = previous whole s.graph m turns.n in crossed 0 (b.with_previous s t) (Cell t.cell) (stays.previous m s.graph q)

  previous_of : (s : Building) (own : Option ℕ) → Q s.graph → Kept (b.previous_of whole turns s own)
  previous_of s (Some m) q = previous_met m s s.met.previous q
  previous_of s None q = q

  element_met : (number : ℕ) (offset : ℤ) (s : Building) (flow : Option Flow) → Q s.graph
      → Kept (b.element_met whole turns (array_at outer number) number offset s flow)
  element_met number offset s (Some flow) q = crossed 0 s flow q
  element_met number offset s None q =
      let w = windowed whole turns.lo turns.n (array_at outer number) offset s.graph in
      crossed 0 (b.with_access s number offset w) w.flow (stays.windowed number offset s.graph q)

  abbrev Keeps : (Building → Built) → Type 0
  Keeps make = (s : Building) → Q s.graph → Kept (make s)

  decide : (so otherwise : Building → Built) (s : Building) (flow : Flow) → Keeps so → Keeps otherwise → Q s.graph
      → Kept (b.decide whole so otherwise s flow)
  unfolding b.decide
  decide so otherwise s (Constant (value.Truth true)) h k q = h s q
  decide so otherwise s (Constant (value.Truth false)) h k q = k s q
  decide so otherwise s (Constant (value.Int i)) h k q = q
  decide so otherwise s (Constant (value.Error e)) h k q = q
  decide so otherwise s (Cell c) h k q =
      let s1 = enter c true s in
      let x = so s1 in
      let s3 = enter c false (leave x.state) in
      let y = otherwise s3 in
      chosen c (leave y.state) x.flow y.flow (k s3 (h s1 q))

  abbrev one : Term → Make
  one = built whole turns outer

  abbrev P : Term → Type 0
  P e = KeepsGraph Q (one e)

  -- the terms of steps, branches and definitions of which something is known
  abbrev steps : List ((s : Step) × P s.operand) → List (Binary × Make)
  steps rest = map (λ (s : Step). (s.with, one s.operand)) (map (λ (e : (s : Step) × P s.operand). e.0) rest)

  abbrev branches : List ((a : Branch) × (P a.test × P a.value)) → List (Make × Make)
  branches bs = map (λ (a : Branch). (one a.test, one a.value)) (map (λ (e : (a : Branch) × (P a.test × P a.value)). e.0) bs)

  abbrev terms : List ((e : Term) × P e) → List Make
  terms ds = map one (map (λ (e : (e : Term) × P e). e.0) ds)

  chained_kept : (rest : List ((s : Step) × P s.operand)) (locals : List Local) (done : Built) → Kept done
      → Kept (chained whole done (steps rest) locals)
  chained_kept [] locals done q = q
  chained_kept (s ∷ rest) locals done q =
      let o = one s.0.operand locals done.state in
      chained_kept rest locals (b.joined whole s.0.with o.state done.flow o.flow) (joined s.0.with o.state done.flow o.flow (s.1 locals done.state q))

  defined_kept : (ds : List ((e : Term) × P e)) (locals : List Local) (s : Building) → Q s.graph
      → Q (defined (terms ds) locals s).state.graph
  defined_kept [] locals s q = q
  defined_kept (d ∷ ds) locals s q =
      let x = one d.0 locals s in defined_kept ds (locals ++ local_of x ∷ []) x.state (d.1 locals s q)

  branches_kept : (bs : List ((a : Branch) × (P a.test × P a.value))) (last : (e : Term) × P e) (locals : List Local) (s : Building)
      → Q s.graph
      → Kept (choose whole (branches bs) (one last.0) locals s)
  branches_kept [] last locals s q = last.1 locals s q
  branches_kept (a ∷ bs) last locals s q =
      let t = one a.0.test locals s in
      decide (one a.0.value locals) (choose whole (branches bs) (one last.0) locals) t.state t.flow
      (λ s' q'. a.1.1 locals s' q') (λ s' q'. branches_kept bs last locals s' q') (a.1.0 locals s q)

  index_built : (s : Building) → Q s.graph → Kept (b.index_built whole turns s)
  unfolding b.index_built
  index_built s q = index_met s s.met.index q

  previous_built : (s : Building) → Q s.graph → Kept (b.previous_built whole turns s)
  unfolding b.previous_built
  previous_built s q = previous_of s turns.own q

  outer_built : (number : ℕ) (s : Building) → Q s.graph → Kept (b.outer_built whole turns outer number s)
  unfolding b.outer_built
  outer_built number s q = outer_met number s (flow_at outer number) q

  element_built : (number : ℕ) (offset : ℤ) (s : Building) → Q s.graph
      → Kept (b.element_built whole turns outer number offset s)
  unfolding b.element_built
  element_built number offset s q = element_met number offset s (s.met.accesses number offset) q

  form_kept : (y : Proved P) → KeepsGraph Q (form whole turns outer (layer_of Make one (without P y)))
  form_kept (Term-F.Constant v) locals s q = q
  form_kept (Term-F.Local number) locals s q = from_local s (slice_get locals number) q
  form_kept Term-F.Index locals s q = index_built s q
  form_kept (Term-F.Outer number) locals s q = outer_built number s q
  form_kept (Term-F.Element array offset) locals s q = element_built array offset s q
  form_kept Term-F.Previous locals s q = previous_built s q
  form_kept (Term-F.Chain first rest) locals s q = chained_kept rest locals (one first.0 locals s) (first.1 locals s q)
  form_kept (Term-F.Change how of) locals s q = let x = one of.0 locals s in changed how x.state x.flow (of.1 locals s q)
  form_kept (Term-F.If bs last) locals s q = branches_kept bs last locals s q
  form_kept (Term-F.Let ds value) locals s q =
      let d = defined (terms ds) locals s in value.1 d.locals d.state (defined_kept ds locals s q)
  form_kept (Term-F.Loop first more test next last) locals s q = q

  pub built_kept : (e : Term) → KeepsGraph Q (one e)
  unfolding built
  built_kept = term_induction P (λ y locals s q.
      subst (λ (m : Make). Kept (m locals s)) (sym (fold_rolled Make (form whole turns outer) (without P y))) (form_kept y locals s q))

-- ---- cells are made as their kinds ask

pub made_stays : GatesAreMade → WindowsAreMade → LoopsAreMade → (turns : Turns) (outer : List Outside) → AreFit turns
    → HasShortArrays outer → StaysWith AreMade turns outer
made_stays gates windows loops turns outer fit arrays =
    let few = fit.short in
    let few' : turns.n ≤ 65536 = omega (arith, few) in
    record {
      joined_left = λ with c y g all. gates.cell g (kind_of with) (Cell c ∷ y ∷ []) all (gates.nodes.joined_left with c y);
      joined_right = λ with x d g all. gates.cell g (kind_of with) (x ∷ Cell d ∷ []) all (gates.nodes.joined_right with x d);
      changed = λ how c g all. gates.cell g (kind_of_one how) (Cell c ∷ []) all (gates.nodes.changed how c);
      merge = λ control x y g all. gates.cell g kind.Merge (Cell control ∷ x ∷ y ∷ []) all (gates.nodes.merge control x y);
      index = λ g all. gates.cell g (kind.Idx turns.lo turns.n) [] all (gates.nodes.index turns.lo turns.n few' fit.ordinary);
      cross = gates.cross;
      held = λ u g two all. loops.held g u turns.n two few' all;
      previous = λ m g all. loops.previous g m turns.n few all;
      windowed = λ number offset g all. windows turns.lo turns.n (array_at outer number) offset g few' (arrays number) all;
    }
