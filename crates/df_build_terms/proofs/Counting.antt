-- Each form of a term is built to the same, but for nodes of which less is kept.
use Rattle.std.proofs.Common.{◌≡◌, ℕ, ℤ, true, false, List, [], ◌∷◌, ◌++◌, map, Option, Some, None, refl, sym, ap, ◌∙◌}
use Rattle.std.specs.Prelude.{if◌then◌else◌, nat_lt, slice_get}
use Rattle.df_values.specs.declared.kinds.Binary.{Binary}
use Rattle.df_values.specs.declared.kinds.Unary.{Unary}
use Rattle.df_values.specs.declared.values.Value.TheVariants as value
use Rattle.df_cells.specs.Families.{kind_of, kind_of_one}
use Rattle.df_cells.specs.declared.kinds.Kind.{Kind}
use Rattle.df_cells.specs.declared.kinds.Kind.TheVariants as kind
use Rattle.df_labels.specs.Graphs.{Node}
use Rattle.df_labels.specs.declared.graphs.Flow.{Flow}
use Rattle.df_labels.specs.declared.graphs.Flow.TheVariants.{Constant, Cell}
use Rattle.df_core.specs.TermInduction.{Proved, without, term_induction}
use Rattle.df_core.specs.Terms.{layer_of, fold_rolled}
use Rattle.df_core.specs.declared.terms.Branch.{Branch}
use Rattle.df_core.specs.declared.terms.Step.{Step}
use Rattle.df_core.specs.declared.terms.Term.{Term}
use Rattle.df_core.specs.declared.terms.Term.TheOpen.{Term-F}
use Rattle.df_build_cond.specs.Arms.{Crossed}
use Rattle.df_build_cond.specs.Counting.{over_stood}
use Rattle.df_build_cond.specs.Growth.{Stood, Grown, pushed}
use Rattle.df_build_cond.specs.Laws.{GatesCountTheSame}
use Rattle.df_build_access.specs.Elements.{windowed}
use Rattle.df_build_access.specs.Laws.{WindowsCountTheSame}
use Rattle.df_build_access.specs.declared.windows.Array.{Array}
use Rattle.df_build_loops.specs.Frames.{previous}
use Rattle.df_build_loops.specs.Holds.{held}
use Rattle.df_build_loops.specs.Laws.{LoopsCountTheSame}
use Rattle.df_build_terms.specs.Building as b
use Rattle.df_build_terms.specs.Building.{Building, Built, Make, at, enter, leave, as_built, with_index, with_previous, with_hold, with_access}
use Rattle.df_build_terms.specs.Built.{Defined, local_of, form, built, chained, choose, defined}
use Rattle.df_build_terms.specs.Counting.{over, over_built, Follows, TermsCountTheSame}
use Rattle.df_build_terms.specs.Outer.{flow_at, array_at}
use Rattle.df_build_terms.specs.declared.building.Local.{Local}
use Rattle.df_build_terms.specs.declared.building.Outside.{Outside}
use Rattle.df_build_terms.specs.declared.building.Turns.{Turns}

module _ (gates : GatesCountTheSame) (windows : WindowsCountTheSame) (loops : LoopsCountTheSame) (f keep : Node → Node) where
  abbrev less : Node → Node
  less = λ n. f (keep n)

  added : (s : Building) (it : Kind) (flows : List Flow)
      → b.added less (over f s) it flows ≡ over_built f (b.added keep s it flows)
  added s it flows = ap (as_built s) (gates.pushed f keep s.graph it flows)

  crossed : (level : ℕ) (s : Building) (flow : Flow)
      → b.crossed less level (over f s) flow ≡ over_built f (b.crossed keep level s flow)
  unfolding b.crossed
  crossed level s flow =
      ap (λ (c : Crossed). at (record s { graph = c.graph; arms = c.arms }) c.flow) (gates.cross f keep level s.graph s.arms flow)

  joined : (with : Binary) (s : Building) (x y : Flow)
      → b.joined less with (over f s) x y ≡ over_built f (b.joined keep with s x y)
  unfolding b.joined
  joined with s (Constant v) (Constant w) = refl
  joined with s (Constant v) (Cell d) = added s (kind_of with) (Constant v ∷ Cell d ∷ [])
  joined with s (Cell c) y = added s (kind_of with) (Cell c ∷ y ∷ [])

  changed : (how : Unary) (s : Building) (x : Flow)
      → b.changed less how (over f s) x ≡ over_built f (b.changed keep how s x)
  unfolding b.changed
  changed how s (Constant v) = refl
  changed how s (Cell c) = added s (kind_of_one how) (Cell c ∷ [])

  chosen : (control : ℕ) (s : Building) (x y : Flow)
      → b.chosen less control (over f s) x y ≡ over_built f (b.chosen keep control s x y)
  unfolding b.chosen
  chosen control s x y = added s kind.Merge (Cell control ∷ x ∷ y ∷ [])

  from_local : (s : Building) (l : Option Local) → b.from_local less (over f s) l ≡ over_built f (b.from_local keep s l)
  unfolding b.from_local
  from_local s (Some l) = crossed l.arms s l.flow
  from_local s None = refl

  -- what is met where a cell was made
  met : (s : Building) (with : Stood → Building) → ((t : Stood) → over f (with t) ≡ with (over_stood f t))
      → (t u : Stood) → u ≡ over_stood f t
      → b.crossed less 0 (with u) (Cell u.cell) ≡ over_built f (b.crossed keep 0 (with t) (Cell t.cell))
  met s with same t u is =
      ap (λ (v : Stood). b.crossed less 0 (with v) (Cell v.cell)) is
      ∙ (ap (λ (w : Building). b.crossed less 0 w (Cell t.cell)) (sym (same t)) ∙ crossed 0 (with t) (Cell t.cell))

  index_met : (turns : Turns) (s : Building) (c : Option ℕ)
      → b.index_met less turns (over f s) c ≡ over_built f (b.index_met keep turns s c)
  index_met turns s (Some c) = crossed 0 s (Cell c)
  index_met turns s None =
      met s (with_index s) (λ t. refl) (pushed keep s.graph (kind.Idx turns.lo turns.n) []) _ (gates.pushed f keep s.graph (kind.Idx turns.lo turns.n) [])

  hold_met : (turns : Turns) (number u : ℕ) (s : Building) (h : Option ℕ)
      → b.hold_met less turns number u (over f s) h ≡ over_built f (b.hold_met keep turns number u s h)
  hold_met turns number u s (Some h) = crossed 0 s (Cell h)
  hold_met turns number u s None = met s (with_hold s number) (λ t. refl) (held keep s.graph u turns.n) _ (loops.held f keep s.graph u turns.n)

  outer_met : (turns : Turns) (number : ℕ) (s : Building) (flow : Flow)
      → b.outer_met less turns number (over f s) flow ≡ over_built f (b.outer_met keep turns number s flow)
  outer_met turns number s (Constant v) = refl
  outer_met turns number s (Cell u) =
      elim (nat_lt 1 turns.n) as (λ t. (if t then b.hold_met less turns number u (over f s) (s.met.holds number) else b.crossed less 0 (over f s) (Cell u))
      ≡ over_built f (if t then b.hold_met keep turns number u s (s.met.holds number) else b.crossed keep 0 s (Cell u))) [
        | true ↦ hold_met turns number u s (s.met.holds number)
        | false ↦ crossed 0 s (Cell u)
      ]

  previous_met : (turns : Turns) (m : ℕ) (s : Building) (c : Option ℕ)
      → b.previous_met less turns m (over f s) c ≡ over_built f (b.previous_met keep turns m s c)
  previous_met turns m s (Some c) = crossed 0 s (Cell c)
  previous_met turns m s None = met s (with_previous s) (λ t. refl) (previous keep s.graph m turns.n) _ (loops.previous f keep s.graph m turns.n)

  previous_of : (turns : Turns) (s : Building) (own : Option ℕ)
      → b.previous_of less turns (over f s) own ≡ over_built f (b.previous_of keep turns s own)
  previous_of turns s (Some m) = previous_met turns m s s.met.previous
  previous_of turns s None = refl

  element_met : (turns : Turns) (a : Array) (number : ℕ) (offset : ℤ) (s : Building) (flow : Option Flow)
      → b.element_met less turns a number offset (over f s) flow ≡ over_built f (b.element_met keep turns a number offset s flow)
  element_met turns a number offset s (Some flow) = crossed 0 s flow
  element_met turns a number offset s None =
      let w = windowed keep turns.lo turns.n a offset s.graph in
      ap (λ (v : Grown). b.crossed less 0 (with_access s number offset v) v.flow) (windows f keep turns.lo turns.n a offset s.graph)
      ∙ crossed 0 (with_access s number offset w) w.flow

  index_built : (turns : Turns) (s : Building)
      → b.index_built less turns (over f s) ≡ over_built f (b.index_built keep turns s)
  unfolding b.index_built
  index_built turns s = index_met turns s s.met.index

  previous_built : (turns : Turns) (s : Building)
      → b.previous_built less turns (over f s) ≡ over_built f (b.previous_built keep turns s)
  unfolding b.previous_built
  previous_built turns s = previous_of turns s turns.own

  outer_built : (turns : Turns) (outer : List Outside) (number : ℕ) (s : Building)
      → b.outer_built less turns outer number (over f s) ≡ over_built f (b.outer_built keep turns outer number s)
  unfolding b.outer_built
  outer_built turns outer number s = outer_met turns number s (flow_at outer number)

  element_built : (turns : Turns) (outer : List Outside) (number : ℕ) (offset : ℤ) (s : Building)
      → b.element_built less turns outer number offset (over f s) ≡ over_built f (b.element_built keep turns outer number offset s)
  unfolding b.element_built
  element_built turns outer number offset s = element_met turns (array_at outer number) number offset s (s.met.accesses number offset)

  decide : (so so' otherwise otherwise' : Building → Built)
      → ((s : Building) → so' (over f s) ≡ over_built f (so s))
      → ((s : Building) → otherwise' (over f s) ≡ over_built f (otherwise s))
      → (s : Building) (flow : Flow)
      → b.decide less so' otherwise' (over f s) flow ≡ over_built f (b.decide keep so otherwise s flow)
  unfolding b.decide
  decide so so' otherwise otherwise' h k s (Constant (value.Truth true)) = h s
  decide so so' otherwise otherwise' h k s (Constant (value.Truth false)) = k s
  decide so so' otherwise otherwise' h k s (Constant (value.Int i)) = refl
  decide so so' otherwise otherwise' h k s (Constant (value.Error e)) = refl
  decide so so' otherwise otherwise' h k s (Cell c) =
      let x = so (enter c true s) in
      let y = otherwise (enter c false (leave x.state)) in
      ap (λ (r : Built). let y = otherwise' (enter c false (leave r.state)) in b.chosen less c (leave y.state) r.flow y.flow) (h (enter c true s))
      ∙ (ap (λ (r : Built). b.chosen less c (leave r.state) x.flow r.flow) (k (enter c false (leave x.state)))
      ∙ chosen c (leave y.state) x.flow y.flow)

  module _ (turns : Turns) (outer : List Outside) where
    abbrev one : Term → Make
    one = built keep turns outer

    abbrev two : Term → Make
    two = built less turns outer

    abbrev P : Term → Type 0
    P e = Follows f (one e) (two e)

    -- the terms of steps, branches and definitions of which something is known
    abbrev steps : List ((s : Step) × P s.operand) → List Step
    steps = map (λ (e : (s : Step) × P s.operand). e.0)

    abbrev branches : List ((a : Branch) × (P a.test × P a.value)) → List Branch
    branches = map (λ (e : (a : Branch) × (P a.test × P a.value)). e.0)

    abbrev terms : List ((e : Term) × P e) → List Term
    terms = map (λ (e : (e : Term) × P e). e.0)

    abbrev stepped : (Term → Make) → List Step → List (Binary × Make)
    stepped make = map (λ (s : Step). (s.with, make s.operand))

    abbrev branched : (Term → Make) → List Branch → List (Make × Make)
    branched make = map (λ (a : Branch). (make a.test, make a.value))

    chained_follows : (rest : List ((s : Step) × P s.operand)) (locals : List Local) (done : Built)
        → chained less (over_built f done) (stepped two (steps rest)) locals ≡ over_built f (chained keep done (stepped one (steps rest)) locals)
    chained_follows [] locals done = refl
    chained_follows (s ∷ rest) locals done =
        let o = one s.0.operand locals done.state in
        ap (λ (x : Built). chained less x (stepped two (steps rest)) locals)
        (ap (λ (o : Built). b.joined less s.0.with o.state done.flow o.flow) (s.1 locals done.state) ∙ joined s.0.with o.state done.flow o.flow)
        ∙ chained_follows rest locals (b.joined keep s.0.with o.state done.flow o.flow)

    defined_follows : (ds : List ((e : Term) × P e)) (locals : List Local) (s : Building)
        → defined (map two (terms ds)) locals (over f s)
        ≡ (let d = defined (map one (terms ds)) locals s in record { locals = d.locals; state = over f d.state })
    defined_follows [] locals s = refl
    defined_follows (d ∷ ds) locals s =
        let x = one d.0 locals s in
        ap (λ (x : Built). defined (map two (terms ds)) (locals ++ local_of x ∷ []) x.state) (d.1 locals s)
        ∙ defined_follows ds (locals ++ local_of x ∷ []) x.state

    chosen_follows : (bs : List ((a : Branch) × (P a.test × P a.value))) (last : (e : Term) × P e) (locals : List Local) (s : Building)
        → choose less (branched two (branches bs)) (two last.0) locals (over f s) ≡ over_built f (choose keep (branched one (branches bs)) (one last.0) locals s)
    chosen_follows [] last locals s = last.1 locals s
    chosen_follows (a ∷ bs) last locals s =
        let t = one a.0.test locals s in
        let so = one a.0.value locals in
        let so' = two a.0.value locals in
        let otherwise = choose keep (branched one (branches bs)) (one last.0) locals in
        let otherwise' = choose less (branched two (branches bs)) (two last.0) locals in
        ap (λ (t : Built). b.decide less so' otherwise' t.state t.flow) (a.1.0 locals s)
        ∙ decide so so' otherwise otherwise' (λ s. a.1.1 locals s) (λ s. chosen_follows bs last locals s) t.state t.flow

    form_follows : (y : Proved P) (locals : List Local) (s : Building)
        → form less turns outer (layer_of Make two (without P y)) locals (over f s) ≡ over_built f (form keep turns outer (layer_of Make one (without P y)) locals s)
    form_follows (Term-F.Constant v) locals s = refl
    form_follows (Term-F.Local number) locals s = from_local s (slice_get locals number)
    form_follows Term-F.Index locals s = index_built turns s
    form_follows (Term-F.Outer number) locals s = outer_built turns outer number s
    form_follows (Term-F.Element array offset) locals s = element_built turns outer array offset s
    form_follows Term-F.Previous locals s = previous_built turns s
    form_follows (Term-F.Chain first rest) locals s =
        ap (λ (x : Built). chained less x (stepped two (steps rest)) locals) (first.1 locals s)
        ∙ chained_follows rest locals (one first.0 locals s)
    form_follows (Term-F.Change how of) locals s =
        let x = one of.0 locals s in
        ap (λ (x : Built). b.changed less how x.state x.flow) (of.1 locals s) ∙ changed how x.state x.flow
    form_follows (Term-F.If bs last) locals s = chosen_follows bs last locals s
    form_follows (Term-F.Let ds value) locals s =
        let d = defined (map one (terms ds)) locals s in
        ap (λ (d : Defined). two value.0 d.locals d.state) (defined_follows ds locals s) ∙ value.1 d.locals d.state
    form_follows (Term-F.Loop first more test next last) locals s = refl

    built_follows : (e : Term) → Follows f (one e) (two e)
    unfolding built
    built_follows = term_induction P (λ y locals s.
        ap (λ (m : Make). m locals (over f s)) (fold_rolled Make (form less turns outer) (without P y))
        ∙ (form_follows y locals s ∙ sym (ap (λ (m : Make). over_built f (m locals s)) (fold_rolled Make (form keep turns outer) (without P y)))))

pub terms_count_the_same : GatesCountTheSame → WindowsCountTheSame → LoopsCountTheSame → TermsCountTheSame
terms_count_the_same gates windows loops f keep turns outer x = built_follows gates windows loops f keep turns outer x
