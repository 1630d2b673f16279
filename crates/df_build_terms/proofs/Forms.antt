-- What each form of a term makes.
use Rattle.std.proofs.Common.{◌≡◌, ℕ, ℤ, List, [], ◌∷◌, ◌++◌, map, refl, sym, ◌∙◌, ap}
use Rattle.std.specs.Prelude.{slice_get}
use Rattle.df_values.specs.declared.values.Value.{Value}
use Rattle.df_labels.specs.Graphs.{Node}
use Rattle.df_labels.specs.declared.graphs.Flow.TheVariants.{Constant}
use Rattle.df_build_terms.specs.declared.building.Outside.{Outside}
use Rattle.df_build_terms.specs.declared.building.Local.{Local}
use Rattle.df_build_terms.specs.declared.building.Turns.{Turns}
use Rattle.df_values.specs.declared.kinds.Unary.{Unary}
use Rattle.df_build_loops.specs.Frames.{undef}
use Rattle.df_core.specs.declared.terms.Assignment.{Assignment}
use Rattle.df_core.specs.declared.terms.Branch.{Branch}
use Rattle.df_core.specs.declared.terms.Step.{Step}
use Rattle.df_core.specs.declared.terms.Term.{Term, roll-Term}
use Rattle.df_core.specs.declared.terms.Term.TheVariants as t
use Rattle.df_core.specs.declared.terms.Term.TheOpen.{Term-F}
use Rattle.df_core.specs.Terms.{Opened, layer_of, fold_rolled, fold_term}
use Rattle.df_build_terms.specs.Building.{Building, Built, Make, at, from_local, index_built, previous_built, outer_built, element_built, changed, joined, decide}
use Rattle.df_build_terms.specs.Built.{Defined, form, built, chained, choose, defined, local_of}
use Rattle.df_build_terms.specs.Parts.{chained_by, choose_by, defined_by}

module _ (keep : Node → Node) (turns : Turns) (outer : List Outside) where
  abbrev make : Term → Make
  make = built keep turns outer

  rolled_is : (e : Term) (x : Opened) (locals : List Local) (b : Building) → e ≡ roll-Term x
      → make e locals b ≡ form keep turns outer (layer_of Make (fold_term Make (form keep turns outer)) x) locals b
  unfolding built
  rolled_is e x locals b is = ap (λ e. built keep turns outer e locals b) is ∙ ap (λ (m : Make). m locals b) (fold_rolled Make (form keep turns outer) x)

  chained_map : (f : Term → Make) (done : Built) (rest : List Step) (locals : List Local)
      → chained keep done (map (λ (s : Step). (s.with, f s.operand)) rest) locals ≡ chained_by keep f locals done rest
  chained_map f done [] locals = refl
  chained_map f done (s ∷ rest) locals = let o = f s.operand locals done.state in chained_map f (joined keep s.with o.state done.flow o.flow) rest locals

  defined_map : (f : Term → Make) (ds : List Term) (locals : List Local) (b : Building)
      → defined (map f ds) locals b ≡ defined_by f (record { locals = locals; state = b }) ds
  defined_map f [] locals b = refl
  defined_map f (d ∷ ds) locals b = let x = f d locals b in defined_map f ds (locals ++ local_of x ∷ []) x.state

  choose_map : (f : Term → Make) (arms : List Branch) (last : Term) (locals : List Local)
      → choose keep (map (λ (a : Branch). (f a.test, f a.value)) arms) (f last) locals ≡ choose_by keep f arms last locals
  choose_map f [] last locals = refl
  choose_map f (a ∷ arms) last locals = ap (λ (otherwise : Building → Built). λ (b : Building). let x = f a.test locals b in decide keep (f a.value locals) otherwise x.state x.flow) (choose_map f arms last locals)

  pub constant : (e : Term) (v : Value) (locals : List Local) (b : Building) → e ≡ t.Constant v
      → make e locals b ≡ at b (Constant v)
  constant e v locals b is = rolled_is e (Term-F.Constant v) locals b (is ∙ sym (t.rolls-Constant v))

  pub local : (e : Term) (x : ℕ) (locals : List Local) (b : Building) → e ≡ t.Local x
      → make e locals b ≡ from_local keep b (slice_get locals x)
  local e x locals b is = rolled_is e (Term-F.Local x) locals b (is ∙ sym (t.rolls-Local x))

  pub index : (e : Term) (locals : List Local) (b : Building) → e ≡ t.Index → make e locals b ≡ index_built keep turns b
  index e locals b is = rolled_is e Term-F.Index locals b (is ∙ sym t.rolls-Index)

  pub previous : (e : Term) (locals : List Local) (b : Building) → e ≡ t.Previous
      → make e locals b ≡ previous_built keep turns b
  previous e locals b is = rolled_is e Term-F.Previous locals b (is ∙ sym t.rolls-Previous)

  pub outside : (e : Term) (x : ℕ) (locals : List Local) (b : Building) → e ≡ t.Outer x
      → make e locals b ≡ outer_built keep turns outer x b
  outside e x locals b is = rolled_is e (Term-F.Outer x) locals b (is ∙ sym (t.rolls-Outer x))

  pub element : (e : Term) (x : ℕ) (c : ℤ) (locals : List Local) (b : Building) → e ≡ t.Element x c
      → make e locals b ≡ element_built keep turns outer x c b
  element e x c locals b is = rolled_is e (Term-F.Element x c) locals b (is ∙ sym (t.rolls-Element x c))

  pub chain : (e first : Term) (rest : List Step) (locals : List Local) (b : Building) → e ≡ t.Chain first rest
      → make e locals b ≡ chained_by keep make locals (make first locals b) rest
  unfolding built
  chain e first rest locals b is =
      rolled_is e (Term-F.Chain first rest) locals b (is ∙ sym (t.rolls-Chain first rest)) ∙ chained_map make (make first locals b) rest locals

  pub change : (e : Term) (how : Unary) (of : Term) (locals : List Local) (b : Building) → e ≡ t.Change how of
      → make e locals b ≡ changed keep how (make of locals b).state (make of locals b).flow
  unfolding built
  change e how of locals b is = rolled_is e (Term-F.Change how of) locals b (is ∙ sym (t.rolls-Change how of))

  pub chosen : (e : Term) (arms : List Branch) (last : Term) (locals : List Local) (b : Building) → e ≡ t.If arms last
      → make e locals b ≡ choose_by keep make arms last locals b
  unfolding built
  chosen e arms last locals b is =
      rolled_is e (Term-F.If arms last) locals b (is ∙ sym (t.rolls-If arms last)) ∙ ap (λ (f : Building → Built). f b) (choose_map make arms last locals)

  pub let_is : (e : Term) (ds : List Term) (value : Term) (locals : List Local) (b : Building) → e ≡ t.Let ds value
      → make e locals b ≡ make value (defined_by make (record { locals = locals; state = b }) ds).locals (defined_by make (record { locals = locals; state = b }) ds).state
  unfolding built
  let_is e ds value locals b is =
      rolled_is e (Term-F.Let ds value) locals b (is ∙ sym (t.rolls-Let ds value)) ∙ ap (λ (d : Defined). make value d.locals d.state) (defined_map make ds locals b)

  pub loop_is : (e first : Term) (more : List Term) (test : Term) (next : List Assignment) (last : Term) (locals : List Local) (b : Building) → e ≡ t.Loop first more test next last
      → make e locals b ≡ at b (Constant undef)
  loop_is e first more test next last locals b is =
      rolled_is e (Term-F.Loop first more test next last) locals b (is ∙ sym (t.rolls-Loop first more test next last))

pub ruleset forms = (constant, local, index, previous, outside, element, change, loop_is)
