-- A part of an accepted expression whose type is an array gives one for the demands on the form too.
use Rattle.std.proofs.Common.{arith, ◌≡◌, ℕ, Bool, true, false, ◌&&◌, ◌||◌, List, [], ◌∷◌, ◌++◌, map, refl, sym, ◌∙◌, ap, subst, Option, Some, None, bytes_eq, slice_get}
use Rattle.std.specs.Prelude.{flat_map}
use Rattle.df_values.specs.declared.values.Basic as basic
use Rattle.std.specs.List.{list_any}
use Rattle.std.proofs.lemmas.Bool.{or_parts, not-true}
use Rattle.df_values.specs.declared.kinds.Op.{Op}
use Rattle.df_syntax.specs.WellShaped.{operand_type}
use Rattle.df_syntax.specs.declared.tree.Named.{Named}
use Rattle.df_syntax.specs.declared.tree.Sort.{Sort}
use Rattle.df_syntax.specs.declared.tree.Sort.TheVariants as of
use Rattle.df_syntax.specs.declared.tree.Parameter.{Parameter}
use Rattle.df_syntax.specs.declared.tree.Expr.{Expr}
use Rattle.df_syntax.specs.declared.tree.Arm.{Arm}
use Rattle.df_syntax.specs.declared.tree.Link.{Link}
use Rattle.df_syntax.specs.declared.tree.Definition.{Definition}
use Rattle.df_syntax.specs.declared.tree.Node.{roll-Node}
use Rattle.df_syntax.specs.declared.tree.Node.TheOpen.{Node-F}
use Rattle.df_syntax.specs.declared.tree.Node.TheVariants as n
use Rattle.df_syntax.specs.declared.program.Function.{Function}
use Rattle.df_syntax.specs.Demands.{first_refusal}
use Rattle.df_syntax.specs.Meaning.{Name}
use Rattle.df_syntax.specs.SourceForms.{Numbers, is_array}
use Rattle.df_syntax.specs.Trees.{Opened, layer_of}
use Rattle.df_syntax.specs.TreeInduction.{Proved, without, tree_induction}
use Rattle.df_syntax.proofs.FirstRefusals.{begin_holds, rest_holds, head_holds}
use Rattle.df_types.specs.declared.answers.CheckAnswer.TheVariants.{WrongType}
use Rattle.df_types.specs.declared.entry.Entry.{Entry}
use Rattle.df_types.specs.declared.entry.Entry.TheVariants as entry
use Rattle.df_types.specs.Demands as types
use Rattle.df_types.specs.Scopes as scopes
use Rattle.df_types.specs.Scopes.{bound}
use Rattle.df_types.specs.Sorts.{is_same, element_of, operator_sort, chain_sort, value_sort}
use Rattle.df_types.specs.Types.{Look, look_of, node_sort, node_demands, asked, asked_arms, if_sort, function_at, call_demands, call_sort, first_sort, defined, definition_demands}
use Rattle.df_types.proofs.Looks.{look_is}
use Rattle.df_names.specs.Maps.{bind}
use Rattle.df_shape.specs.declared.part.Part.{Part}
use Rattle.df_shape.specs.declared.part.Part.TheVariants.{Inside}
use Rattle.df_shape.specs.Demands as shape
use Rattle.df_shape.specs.Demands.{Around, or_array, gives_array, may_be_block, operand_part, inside, demands_of, definitions_demands}
use Rattle.df_shape.specs.Endings.{behind}
use Rattle.df_shape.specs.Sources.{is_scalar_function, are_several}
use Rattle.df_shape.proofs.Gives as gives_of
use Rattle.df_accepted.proofs.Agreed.{bind_new, bind_old}
use Rattle.df_accepted.proofs.FormDemands.{no_block, one_holds, kept_at}
use Rattle.df_accepted.proofs.TypedForms.{same_array, operand_is}

-- ---- arrays and functions that are known

-- each local array is one for the form
abbrev pub ArraysKnown : scopes.Names → (Name → Bool) → Type 0
ArraysKnown scope arrays = (m : Name) (b : basic.Basic) → scope m ≡ Some (entry.Local (of.Array b)) → arrays m ≡ true

-- each function that may be called gives a scalar
abbrev pub ScalarsCalled : List Function → (Name → Bool) → scopes.Names → Type 0
ScalarsCalled all callable scope = (m : Name) (i : ℕ) (f : Function) → scope m ≡ Some (entry.Function i) → slice_get all i ≡ Some f → callable m ≡ true → is_scalar_function f ≡ true

pub arrays_more : (scope : scopes.Names) (arrays : Name → Bool) (d : Name) (s : Sort) → ArraysKnown scope arrays → ArraysKnown (bind scope d (entry.Local s)) (or_array arrays d s)
arrays_more scope arrays d s known m b at = by (bytes_eq d m) refl
  where
    right : (c : Bool) → (c || true) ≡ true
    right true = refl
    right false = refl

    here : (t : Sort) → Some (entry.Local t) ≡ Some (entry.Local (of.Array b)) → is_array t ≡ true
    here (of.Array c) same = refl
    here (of.Basic c) same = absurd (cc)

    by : (c : Bool) → bytes_eq d m ≡ c → ((is_array s && bytes_eq d m) || arrays m) ≡ true
    by true is = ap (λ t. (t && bytes_eq d m) || arrays m) (here s (sym (bind_new scope d (entry.Local s) m is) ∙ at)) ∙ ap (λ t. t || arrays m) is
    by false is = ap (λ t. (is_array s && bytes_eq d m) || t) (known m b (sym (bind_old scope d (entry.Local s) m is) ∙ at)) ∙ right (is_array s && bytes_eq d m)

called_more : (all : List Function) (callable : Name → Bool) (scope : scopes.Names) (d : Name) (s : Sort) → ScalarsCalled all callable scope → ScalarsCalled all callable (bind scope d (entry.Local s))
called_more all callable scope d s called m i f at = by (bytes_eq d m) refl
  where
    by : (c : Bool) → bytes_eq d m ≡ c → slice_get all i ≡ Some f → callable m ≡ true → is_scalar_function f ≡ true
    by true is = let clash : Some (entry.Local s) ≡ Some (entry.Function i) = sym (bind_new scope d (entry.Local s) m is) ∙ at in absurd (cc)
    by false is = called m i f (sym (bind_old scope d (entry.Local s) m is) ∙ at)

-- ---- sorts that are no arrays

pub element_basic : (s : Sort) (b : basic.Basic) → element_of s ≡ of.Array b → ⊥
element_basic (of.Basic c) b is = cc
element_basic (of.Array c) b is = cc

pub operator_basic : (o : Op) (b : basic.Basic) → operator_sort o ≡ of.Array b → ⊥
operator_basic o b is = let bad : of.Basic (operand_type o) ≡ of.Array b = sym (operand_is o) ∙ is in cc

pub chain_basic : {A : Type 0} (links : List (Op × A)) (b : basic.Basic) → chain_sort links ≡ of.Array b → ⊥
chain_basic [] b is = cc
chain_basic (l ∷ links) b is = operator_basic l.0 b is

-- a name of an array is a local one
pub local_array : (o : Option Entry) (b : basic.Basic) → value_sort o ≡ of.Array b → o ≡ Some (entry.Local (of.Array b))
local_array None b is = absurd (cc)
local_array (Some entry.Later) b is = absurd (cc)
local_array (Some entry.Constant) b is = absurd (cc)
local_array (Some (entry.Function i)) b is = absurd (cc)
local_array (Some (entry.Local s)) b is = ap (λ (t : Sort). Some (entry.Local t)) is

-- a function that gives a scalar gives no array
scalar_result : (results : List Sort) (b : basic.Basic) → list_any is_array results ≡ false → first_sort results ≡ of.Array b → ⊥
scalar_result [] b none is = cc
scalar_result (s ∷ results) b none is = by s none is
  where
    by : (t : Sort) → (is_array t || list_any is_array results) ≡ false → t ≡ of.Array b → ⊥
    by (of.Basic c) h k = cc
    by (of.Array c) h k = cc

gives_scalar : (f : Function) (b : basic.Basic) → is_scalar_function f ≡ true → first_sort f.results ≡ of.Array b → ⊥
gives_scalar f b scalar is =
    scalar_result f.results b
    (or_parts (list_any is_array f.results) (are_several f.results) (or_parts (list_any (λ (p : Parameter). is_array p.sort) f.parameters) _ (not-true _ scalar)).1).0 is

module _ (all : List Function) (numbers : Numbers) (arrays callable gives : Name → Bool) where
  abbrev l : Expr → Look
  l = look_of all

  abbrev here : Part → Around
  here part = record { numbers = numbers; arrays = arrays; callable = callable; gives = gives; part = part }

  abbrev pub giving : (Name → Bool) → Around
  giving others = record { numbers = numbers; arrays = others; callable = callable; gives = gives; part = Inside }

  abbrev pub Given : Expr → Type 0
  Given e = (scope : scopes.Names) (part : Part) (others : Name → Bool) → may_be_block part ≡ false → ScalarsCalled all callable scope → ArraysKnown scope others
      → first_refusal ((look_of all e).demands scope) ≡ None → first_refusal (demands_of e (here part)) ≡ None
      → (b : basic.Basic) → (look_of all e).sort scope ≡ of.Array b → gives_array (giving others) e ≡ true

  sort_at : (e : Expr) (x : Opened) → e.node ≡ roll-Node x → (scope : scopes.Names) (b : basic.Basic) → (l e).sort scope ≡ of.Array b → node_sort all (layer_of Look (look_of all) x) scope ≡ of.Array b
  sort_at e x is scope b at = sym (ap (λ (k : Look). k.sort scope) (look_is all e x is)) ∙ at

  demands_at : (e : Expr) (x : Opened) → e.node ≡ roll-Node x → (scope : scopes.Names) → first_refusal ((l e).demands scope) ≡ None
      → first_refusal (node_demands all e.place (layer_of Look (look_of all) x) scope) ≡ None
  demands_at e x is scope h = subst (λ (k : Look). first_refusal (k.demands scope) ≡ None) (look_is all e x is) h

  -- a call that may be made gives no array
  pub call_scalar : (e : Expr) (name : Name) (es : List Expr) → e.node ≡ roll-Node (Node-F.Call name es) → (scope : scopes.Names) → ScalarsCalled all callable scope → callable name ≡ true
      → first_refusal ((look_of all e).demands scope) ≡ None → (b : basic.Basic) → (look_of all e).sort scope ≡ of.Array b → ⊥
  call_scalar e name es is scope called may h b at = by (scope name) refl
    where
      demanded : (o : Option Entry) → scope name ≡ o → first_refusal (call_demands (function_at all o) name e.place (map l es) scope) ≡ None
      demanded o same = subst (λ (p : Option Entry). first_refusal (call_demands (function_at all p) name e.place (map l es) scope) ≡ None) same (demands_at e (Node-F.Call name es) is scope h)

      sorted : (o : Option Entry) → scope name ≡ o → call_sort (function_at all o) ≡ of.Array b
      sorted o same = subst (λ (p : Option Entry). call_sort (function_at all p) ≡ of.Array b) same (sort_at e (Node-F.Call name es) is scope b at)

      nothing : call_sort None ≡ of.Array b → ⊥
      nothing k = cc

      by : (o : Option Entry) → scope name ≡ o → ⊥
      by None same = nothing (sorted None same)
      by (Some entry.Later) same = nothing (sorted (Some entry.Later) same)
      by (Some entry.Constant) same = nothing (sorted (Some entry.Constant) same)
      by (Some (entry.Local s)) same = nothing (sorted (Some (entry.Local s)) same)
      by (Some (entry.Function i)) same = chosen (slice_get all i) refl
        where
          chosen : (o : Option Function) → slice_get all i ≡ o → ⊥
          chosen None found = nothing (subst (λ (p : Option Function). call_sort p ≡ of.Array b) found (sorted (Some (entry.Function i)) same))
          chosen (Some f) found = gives_scalar f b (called name i f same found may) (subst (λ (p : Option Function). call_sort p ≡ of.Array b) found (sorted (Some (entry.Function i)) same))

  -- ---- definitions

  abbrev pub looked : List Definition → List (Named × Sort × Look)
  looked ds = map {B = Named × Sort × Look} (λ (d : Definition). (d.name, d.sort, look_of all d.value)) ds

  pub behind_known : (ds : List Definition) (scope : scopes.Names) (others : Name → Bool) → ScalarsCalled all callable scope → ArraysKnown scope others
      → ScalarsCalled all callable (bound (defined (looked ds)) scope) × ArraysKnown (bound (defined (looked ds)) scope) (behind ds others)
  behind_known [] scope others called known = (called, known)
  behind_known (d ∷ ds) scope others called known =
      behind_known ds (bind scope d.name.name (entry.Local d.sort)) (or_array others d.name.name d.sort)
      (called_more all callable scope d.name.name d.sort called) (arrays_more scope others d.name.name d.sort known)

  pub if_array : (arms : List (Look × Look)) (last : Look) (scope : scopes.Names) (b : basic.Basic)
      → first_refusal (asked_arms (if_sort arms last scope) arms scope ++ asked last (if_sort arms last scope) scope) ≡ None → if_sort arms last scope ≡ of.Array b → last.sort scope ≡ of.Array b
  if_array arms last scope b h is =
      let s = if_sort arms last scope in
      let end = rest_holds (asked_arms s arms scope) (asked last s scope) h in
      same_array (last.sort scope) b (subst (λ (t : Sort). is_same (last.sort scope) t ≡ true) is
      (head_holds (types.demand (is_same (last.sort scope) s) (WrongType last.place)) [] (rest_holds (last.demands scope) (types.demand (is_same (last.sort scope) s) (WrongType last.place) ∷ []) end)))

  step : (e : Expr) (y : Proved Given) → e.node ≡ roll-Node (without Given y) → Given e
  step e (Node-F.Name m) is scope part others apart called known h d b at =
      gives_of.named (giving others) e m (is ∙ n.rolls-Name m) ∙ known m b (local_array (scope m) b (sort_at e (Node-F.Name m) is scope b at))
  step e (Node-F.Call m es) is scope part others apart called known h d b at =
      absurd (call_scalar e m (map (λ a. a.0) es) is scope called (one_holds _ _ (kept_at (here part) e (Node-F.Call m (map (λ a. a.0) es)) is d).calls) h b at)
  step e (Node-F.Parens of_) is scope part others apart called known h d b at =
      gives_of.parens (giving others) e of_.0 (is ∙ n.rolls-Parens of_.0)
      ∙ of_.1 scope part others apart called known (demands_at e (Node-F.Parens of_.0) is scope h) (kept_at (here part) e (Node-F.Parens of_.0) is d).inner b (sort_at e (Node-F.Parens of_.0) is scope b at)
  step e (Node-F.If arms last) is scope part others apart called known h d b at =
      let x = Node-F.If (map (λ a. a.0) arms) last.0 in
      let asked_of = map {B = Look × Look} (λ (a : Arm). (l a.test, l a.value)) (map (λ a. a.0) arms) in
      let s = if_sort asked_of (l last.0) scope in
      let h' = demands_at e x is scope h in
      let own = flat_map (λ (a : (Expr × shape.Look) × (Expr × shape.Look)). a.0.1 (inside (here part)) ++ a.1.1 (inside (here part)))
      (map {B = (Expr × shape.Look) × (Expr × shape.Look)} (λ (a : Arm). ((a.test, demands_of a.test), (a.value, demands_of a.value))) (map (λ a. a.0) arms)) in
      gives_of.chosen (giving others) e (map (λ a. a.0) arms) last.0 (is ∙ n.rolls-If (map (λ a. a.0) arms) last.0)
      ∙ last.1 scope (operand_part part) others (no_block part) called known (begin_holds ((l last.0).demands scope) _ (rest_holds (asked_arms s asked_of scope) (asked (l last.0) s scope) h'))
      (rest_holds own (demands_of last.0 (inside (here part))) (kept_at (here part) e x is d).inner) b (if_array asked_of (l last.0) scope b h' (sort_at e x is scope b at))
  step e (Node-F.Let ds []) is scope part others apart called known h d b at =
      let h' = demands_at e (Node-F.Let (map (λ x. x.0) ds) []) is scope h in
      absurd (cc)
  step e (Node-F.Let ds (v ∷ w ∷ vs)) is scope part others apart called known h d b at =
      let h' = demands_at e (Node-F.Let (map (λ x. x.0) ds) (map (λ x. x.0) (v ∷ w ∷ vs))) is scope h in
      absurd (cc)
  step e (Node-F.Let ds (v ∷ [])) is scope part others apart called known h d b at =
      let plain_ds = map (λ x. x.0) ds in
      let x = Node-F.Let plain_ds (v.0 ∷ []) in
      let inner = bound (defined (looked plain_ds)) scope in
      let more = behind_known plain_ds scope others called known in
      let own = definitions_demands (inside (here part)) (map {B = Named × Sort × (Expr × shape.Look)} (λ (d : Definition). (d.name, d.sort, (d.value, demands_of d.value))) plain_ds) in
      gives_of.let_in (giving others) e plain_ds (v.0 ∷ []) v.0 (is ∙ n.rolls-Let plain_ds (v.0 ∷ [])) (omega arith) refl
      ∙ v.1 inner (operand_part part) (behind plain_ds others) (no_block part) more.0 more.1
      (rest_holds (definition_demands (looked plain_ds) scope) ((l v.0).demands inner) (demands_at e x is scope h))
      (begin_holds (demands_of v.0 (inside (here part))) [] (rest_holds own _ (kept_at (here part) e x is d).inner)) b (sort_at e x is scope b at)
  step e (Node-F.Construct index low high elem) is scope part others apart called known h d b at =
      gives_of.construct (giving others) e index low.0 high.0 elem.0 (is ∙ n.rolls-Construct index low.0 high.0 elem.0)
  step e (Node-F.For ds asked_test assigns last) is scope part others apart called known h d b at =
      let x = Node-F.For (map (λ a. a.0) ds) asked_test.0 (map (λ a. a.0) assigns) last.0 in
      let may = one_holds _ _ (kept_at (here part) e x is d).blocks in
      let bad : true ≡ false = sym may ∙ apart in
      absurd (cc)
  step e (Node-F.Array at_ value) is scope part others apart called known h d b at = gives_of.array (giving others) e at_.0 value.0 (is ∙ n.rolls-Array at_.0 value.0)
  step e (Node-F.Update m at_ value) is scope part others apart called known h d b at = gives_of.updated (giving others) e m at_.0 value.0 (is ∙ n.rolls-Update m at_.0 value.0)
  step e (Node-F.Number v) is scope part others apart called known h d b at = let bad = sort_at e (Node-F.Number v) is scope b at in absurd (cc)
  step e (Node-F.Truth v) is scope part others apart called known h d b at = let bad = sort_at e (Node-F.Truth v) is scope b at in absurd (cc)
  step e (Node-F.Error v c) is scope part others apart called known h d b at = let bad = sort_at e (Node-F.Error v c) is scope b at in absurd (cc)
  step e (Node-F.Access m at_) is scope part others apart called known h d b at = absurd (element_basic _ b (sort_at e (Node-F.Access m at_.0) is scope b at))
  step e (Node-F.Chain first rest) is scope part others apart called known h d b at =
      absurd (chain_basic {A = Look} (map (λ (k : Link). (k.op, l k.operand)) (map (λ k. k.0) rest)) b (sort_at e (Node-F.Chain first.0 (map (λ k. k.0) rest)) is scope b at))
  step e (Node-F.Compare r left right) is scope part others apart called known h d b at = let bad = sort_at e (Node-F.Compare r left.0 right.0) is scope b at in absurd (cc)
  step e (Node-F.Negate of_) is scope part others apart called known h d b at = let bad = sort_at e (Node-F.Negate of_.0) is scope b at in absurd (cc)
  step e (Node-F.Invert of_) is scope part others apart called known h d b at = let bad = sort_at e (Node-F.Invert of_.0) is scope b at in absurd (cc)
  step e (Node-F.Test t of_) is scope part others apart called known h d b at = let bad = sort_at e (Node-F.Test t of_.0) is scope b at in absurd (cc)
  step e (Node-F.TwoPlace o left right) is scope part others apart called known h d b at = let bad = sort_at e (Node-F.TwoPlace o left.0 right.0) is scope b at in absurd (cc)
  step e (Node-F.Fold index low high o elem) is scope part others apart called known h d b at = absurd (operator_basic o b (sort_at e (Node-F.Fold index low.0 high.0 o elem.0) is scope b at))

  pub given : (e : Expr) → Given e
  given = tree_induction Given step
