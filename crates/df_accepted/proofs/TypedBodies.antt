-- The block of a definition or a result of an accepted source has its type.
use Rattle.std.proofs.Common.{arith, ◌≡◌, Bool, true, false, not, ◌&&◌, List, [], ◌∷◌, ◌++◌, map, refl, sym, ◌∙◌, ap, ap₂, subst, Option, Some, None}
use Rattle.std.specs.Prelude.{flat_map}
use Rattle.df_values.specs.declared.values.Basic as basic
use Rattle.df_syntax.specs.declared.tree.Named.{Named}
use Rattle.df_syntax.specs.declared.tree.Sort.{Sort}
use Rattle.df_syntax.specs.declared.tree.Sort.TheVariants as of
use Rattle.df_syntax.specs.declared.tree.Expr.{Expr}
use Rattle.df_syntax.specs.declared.tree.Arm.{Arm}
use Rattle.df_syntax.specs.declared.tree.Link.{Link}
use Rattle.df_syntax.specs.declared.tree.Assign.{Assign}
use Rattle.df_syntax.specs.declared.tree.Definition.{Definition}
use Rattle.df_syntax.specs.declared.tree.Node.{roll-Node}
use Rattle.df_syntax.specs.declared.tree.Node.TheOpen.{Node-F}
use Rattle.df_syntax.specs.declared.tree.Node.TheVariants as n
use Rattle.df_syntax.specs.declared.program.Function.{Function}
use Rattle.df_syntax.specs.declared.piped.Body.TheVariants as body
use Rattle.df_syntax.specs.declared.piped.Outcome.{Outcome}
use Rattle.df_syntax.specs.Demands.{first_refusal}
use Rattle.df_syntax.specs.Meaning.{Name}
use Rattle.df_syntax.specs.SourceForms.{Numbers, bare, form, one_element, at_most, one_more, Recurrence, recurrence_of}
use Rattle.df_syntax.specs.Trees.{Opened, layer_of}
use Rattle.df_syntax.specs.WellBuilt.{is_bounded}
use Rattle.df_syntax.specs.WellShaped as shaped
use Rattle.df_syntax.specs.WellShaped.{Known, as_scalar, body_sort}
use Rattle.df_syntax.proofs.FirstRefusals.{begin_holds, rest_holds}
use Rattle.df_types.specs.Demands as types
use Rattle.df_types.specs.Scopes as scopes
use Rattle.df_types.specs.Scopes.{bound}
use Rattle.df_types.specs.declared.entry.Entry.TheVariants as entry
use Rattle.df_types.specs.Types.{Look, look_of, node_sort, node_demands, asked, asked_arms, if_sort, defined, definition_demands}
use Rattle.df_types.proofs.Looks.{look_is}
use Rattle.df_shape.specs.declared.part.Part.{Part}
use Rattle.df_shape.specs.declared.part.Part.TheVariants.{Whole, Inside}
use Rattle.df_shape.specs.declared.standing.Standing.TheVariants as standing
use Rattle.df_shape.specs.Demands as shape
use Rattle.df_shape.specs.Demands.{Around, demands_of, definitions_demands, recurrence_demands, gives_array, is_call_or_let}
use Rattle.df_shape.specs.Endings.{behind}
use Rattle.df_shape.specs.Renamed.{Names, renamed}
use Rattle.df_shape.specs.Shaped.{scalar_body, array_body, recurrence_body, body_of, name_standing}
use Rattle.df_shape.proofs.BoundsKnown.{form_plain}
use Rattle.df_shape.proofs.Gives as gives_of
use Rattle.df_accepted.proofs.Agreed.{Agrees, Sorts}
use Rattle.df_accepted.proofs.Forms.{around}
use Rattle.df_accepted.proofs.FormDemands.{is_block, one_holds, kept_at}
use Rattle.df_accepted.proofs.GivenArrays.{ArraysKnown, ScalarsCalled, given, giving, call_scalar, looked, behind_known, if_array, local_array, element_basic, operator_basic, chain_basic}
use Rattle.df_accepted.proofs.ManifestParts.{NumbersStand}
use Rattle.df_accepted.proofs.Recurrences.{loop_of}
use Rattle.df_accepted.proofs.Subscripted.{sort_bare, demands_bare, bounded_bare}
use Rattle.df_accepted.proofs.TypedElements.{never_parens, fold_typed, construct_typed}
use Rattle.df_accepted.proofs.TypedFunctions.{type_is}
use Rattle.df_accepted.proofs.TypedParts.{here, part_typed}
use Rattle.df_accepted.proofs.TypedRecurrences.{form_bare, bare_node, loop_sort, recurrence_typed}

-- the definitions and assignments of a recurrence
loop_lists : (ds : List Definition) (asked_test : Expr) (assigns : List Assign) (last : Expr) (r : Recurrence) → recurrence_of (Node-F.For ds asked_test assigns last) ≡ Some r
    → (i : Definition) × (t : Definition) × (next : Assign) × (step : Assign) × (ds ≡ i ∷ t ∷ []) × (assigns ≡ next ∷ step ∷ [])
loop_lists (i ∷ t ∷ []) asked_test (next ∷ step ∷ []) last r is = (i, t, next, step, refl, refl)
loop_lists [] asked_test assigns last r is = absurd (cc)
loop_lists (i ∷ []) asked_test assigns last r is = absurd (cc)
loop_lists (i ∷ t ∷ u ∷ ds) asked_test assigns last r is = absurd (cc)
loop_lists (i ∷ t ∷ []) asked_test [] last r is = absurd (cc)
loop_lists (i ∷ t ∷ []) asked_test (next ∷ []) last r is = absurd (cc)
loop_lists (i ∷ t ∷ []) asked_test (next ∷ step ∷ other ∷ assigns) last r is = absurd (cc)

module _ (all functions : List Function) (numbers : Numbers) (names : Names) (stand : NumbersStand numbers names) (arrays callable gives : Name → Bool)
    (scope : scopes.Names) (sorts : Sorts) (agrees : Agrees all functions callable names scope sorts) (known_arrays : ArraysKnown scope arrays)
    (placed : (m : Name) (b : basic.Basic) → scope m ≡ Some (entry.Local (of.Array b)) → (o : Outcome) × (other : Name) × (names m ≡ Some (standing.Array o other))) where
  abbrev l : Expr → Look
  l = look_of all

  abbrev at : Part → Around
  at = here all functions numbers names stand arrays callable gives

  abbrev known : shaped.Around
  known = around sorts functions Known

  called : ScalarsCalled all callable scope
  called m i f is found may = (agrees.called m i f is found may).4

  -- whether an expression gives an array does not depend on the part that it is
  any_part : (e : Expr) → gives_array (at Whole) e ≡ gives_array (giving all numbers arrays callable gives arrays) e
  unfolding gives_array
  any_part e = refl

  -- ---- loops

  a_recurrence : (e : Expr) (ds : List Definition) (asked_test : Expr) (assigns : List Assign) (last : Expr) → e.node ≡ roll-Node (Node-F.For ds asked_test assigns last)
      → first_refusal (demands_of e (at Whole)) ≡ None → (r : Recurrence) × (recurrence_of (Node-F.For ds asked_test assigns last) ≡ Some r)
  a_recurrence e ds asked_test assigns last is d =
      let x = Node-F.For ds asked_test assigns last in
      some (recurrence_of x) refl (subst (λ (y : Opened). first_refusal (recurrence_demands numbers e.place (recurrence_of y)) ≡ None) (form_plain e x is (λ of_ q. cc)) (kept_at (at Whole) e x is d).ranges)
    where
      some : (o : Option Recurrence) → recurrence_of (Node-F.For ds asked_test assigns last) ≡ o → first_refusal (recurrence_demands numbers e.place (recurrence_of (Node-F.For ds asked_test assigns last))) ≡ None
          → (r : Recurrence) × (recurrence_of (Node-F.For ds asked_test assigns last) ≡ Some r)
      some (Some r) found k = (r, found)
      some None found k = let bad = subst (λ (o : Option Recurrence). first_refusal (recurrence_demands numbers e.place o) ≡ None) found k in absurd (cc)

  -- the sort of a loop, and its block
  loop_typed : (e : Expr) (ds : List Definition) (asked_test : Expr) (assigns : List Assign) (last : Expr) → e.node ≡ roll-Node (Node-F.For ds asked_test assigns last)
      → is_bounded e ≡ true → first_refusal ((l e).demands scope) ≡ None → first_refusal (demands_of e (at Whole)) ≡ None
      → (c : basic.Basic) × ((l e).sort scope ≡ of.Array c)
      × ((d : Expr) → body_sort known (recurrence_body numbers names d (recurrence_of (Node-F.For ds asked_test assigns last))) ≡ Some (of.Array c))
  loop_typed e ds asked_test assigns last is bounded h d =
      let r = a_recurrence e ds asked_test assigns last is d in
      let lists = loop_lists ds asked_test assigns last r.0 r.1 in
      let x : List Definition → List Assign → Opened = λ ds assigns. Node-F.For ds asked_test assigns last in
      let same : x ds assigns ≡ x (lists.0 ∷ lists.1 ∷ []) (lists.2 ∷ lists.3 ∷ []) = ap₂ x lists.4 lists.5 in
      let found = sym (ap recurrence_of same) ∙ r.1 in
      let node = is ∙ ap (λ (y : Opened). roll-Node y) same in
      let loop = loop_of lists.0 lists.1 lists.2 lists.3 last r.0 (one_element (form lists.1.value)) (at_most (form asked_test)) (one_more (form lists.2.value)) refl refl found in (
        loop.basic,
        loop_sort all functions numbers names stand arrays callable gives scope sorts agrees e lists.0 lists.1 asked_test lists.2 lists.3 last r.0 loop node h,
        λ other. subst (λ (o : Option Recurrence). body_sort known (recurrence_body numbers names other o) ≡ Some (of.Array loop.basic)) (sym r.1)
            (recurrence_typed all functions numbers names stand arrays callable gives scope sorts agrees e lists.0 lists.1 asked_test lists.2 lists.3 last r.0 loop node h found bounded d
            (body.Scalar (renamed names other))),
      )

  -- ---- scalars

  scalar_typed : (e : Expr) (b : basic.Basic) → is_bounded e ≡ true → first_refusal ((l e).demands scope) ≡ None → (l e).sort scope ≡ of.Basic b → first_refusal (demands_of e (at Whole)) ≡ None
      → body_sort known (scalar_body numbers names e (form e)) ≡ Some (of.Basic b)
  scalar_typed e b bounded h sort d = by (form e) refl
    where
      bare_bounded : is_bounded (bare e) ≡ true
      bare_bounded = sym (bounded_bare e) ∙ bounded

      bare_holds : first_refusal ((l (bare e)).demands scope) ≡ None
      bare_holds = subst (λ (f : scopes.Names → List types.Demand). first_refusal (f scope) ≡ None) (demands_bare all e) h

      bare_sort : (l (bare e)).sort scope ≡ of.Basic b
      bare_sort = sym (ap (λ (f : scopes.Names → Sort). f scope) (sort_bare all e)) ∙ sort

      by : (x : Opened) → form e ≡ x → body_sort known (scalar_body numbers names e x) ≡ Some (of.Basic b)
      by (Node-F.Fold index low high o elem) same =
          fold_typed all functions numbers names stand arrays callable gives scope sorts agrees (bare e) index low high o elem (body.Scalar (renamed names e)) (bare_node e _ same)
          bare_bounded bare_holds (form_bare (at Whole) e d) b bare_sort
      by (Node-F.For ds asked_test assigns last) same =
          let loop = loop_typed (bare e) ds asked_test assigns last (bare_node e _ same) bare_bounded bare_holds (form_bare (at Whole) e d) in
          let clash : of.Basic b ≡ of.Array loop.0 = sym bare_sort ∙ loop.1 in
          absurd (cc)
      by x same =
          ap as_scalar (type_is names e known
          ∙ part_typed all functions numbers names stand arrays callable gives e scope sorts Whole agrees tt tt bounded h d (λ may. ap is_block same) b sort)

  -- ---- arrays

  -- neither a conditional nor a `let` nor a call is an array here
  module _ (e : Expr) (b : basic.Basic) (bounded : is_bounded e ≡ true) (h : first_refusal ((look_of all e).demands scope) ≡ None) (sort : (look_of all e).sort scope ≡ of.Array b)
      (d : first_refusal (demands_of e (here all functions numbers names stand arrays callable gives Whole)) ≡ None) where
    demands_here : (x : Opened) → e.node ≡ roll-Node x → first_refusal (node_demands all e.place (layer_of Look (look_of all) x) scope) ≡ None
    demands_here x is = subst (λ (k : Look). first_refusal (k.demands scope) ≡ None) (look_is all e x is) h

    sort_here : (x : Opened) → e.node ≡ roll-Node x → node_sort all (layer_of Look (look_of all) x) scope ≡ of.Array b
    sort_here x is = sym (ap (λ (k : Look). k.sort scope) (look_is all e x is)) ∙ sort

    no_conditional : (arms : List Arm) (last : Expr) → e.node ≡ roll-Node (Node-F.If arms last) → ⊥
    no_conditional arms last is =
        let x = Node-F.If arms last in
        let kept = kept_at (at Whole) e x is d in
        let asked_of = map {B = Look × Look} (λ (a : Arm). (l a.test, l a.value)) arms in
        let s = if_sort asked_of (l last) scope in
        let h' = demands_here x is in
        let own = flat_map (λ (a : (Expr × shape.Look) × (Expr × shape.Look)). a.0.1 (at Inside) ++ a.1.1 (at Inside))
        (map {B = (Expr × shape.Look) × (Expr × shape.Look)} (λ (a : Arm). ((a.test, demands_of a.test), (a.value, demands_of a.value))) arms) in
        let array : gives_array (at Whole) e ≡ true =
        gives_of.chosen (at Whole) e arms last (is ∙ n.rolls-If arms last)
        ∙ (any_part last
        ∙ given all numbers arrays callable gives last scope Inside arrays refl called known_arrays (begin_holds ((l last).demands scope) _ (rest_holds (asked_arms s asked_of scope) (asked (l last) s scope) h'))
        (rest_holds own (demands_of last (at Inside)) kept.inner) b (if_array all numbers arrays callable gives asked_of (l last) scope b h' (sort_here x is))) in
        let none = one_holds _ _ kept.conditionals in
        let bad : false ≡ true = sym (ap not array) ∙ none in
        cc

    no_let : (ds : List Definition) (values : List Expr) → e.node ≡ roll-Node (Node-F.Let ds values) → ⊥
    no_let ds [] is = let h' = demands_here (Node-F.Let ds []) is in cc
    no_let ds (v ∷ w ∷ vs) is = let h' = demands_here (Node-F.Let ds (v ∷ w ∷ vs)) is in cc
    no_let ds (v ∷ []) is =
        let x = Node-F.Let ds (v ∷ []) in
        let kept = kept_at (at Whole) e x is d in
        let inner = bound (defined (looked all numbers arrays callable gives ds)) scope in
        let more = behind_known all numbers arrays callable gives ds scope arrays called known_arrays in
        let own = definitions_demands (at Inside) (map {B = Named × Sort × (Expr × shape.Look)} (λ (d : Definition). (d.name, d.sort, (d.value, demands_of d.value))) ds) in
        let array : gives_array (at Whole) e ≡ true =
        any_part e
        ∙ (gives_of.let_in (giving all numbers arrays callable gives arrays) e ds (v ∷ []) v (is ∙ n.rolls-Let ds (v ∷ [])) (omega arith) refl
        ∙ given all numbers arrays callable gives v inner Inside (behind ds arrays) refl more.0 more.1
        (rest_holds (definition_demands (looked all numbers arrays callable gives ds) scope) ((l v).demands inner) (demands_here x is))
        (begin_holds (demands_of v (at Inside)) [] (rest_holds own _ kept.inner)) b (sort_here x is)) in
        let none : not (is_call_or_let (form e) && gives_array (at Whole) e) ≡ true = one_holds _ _ kept.defines in
        let is_let : is_call_or_let (form e) ≡ true = ap is_call_or_let (form_plain e x is (λ of_ q. cc)) in
        let bad : false ≡ true = sym (ap₂ (λ p q. not (p && q)) is_let array) ∙ none in
        cc

    no_call : (name : Name) (es : List Expr) → e.node ≡ roll-Node (Node-F.Call name es) → ⊥
    no_call name es is = call_scalar all numbers arrays callable gives e name es is scope called (one_holds _ _ (kept_at (at Whole) e (Node-F.Call name es) is d).calls) h b sort

    no_array_value : (before value : Expr) → e.node ≡ roll-Node (Node-F.Array before value) → ⊥
    no_array_value before value is = let bad = (kept_at (at Whole) e (Node-F.Array before value) is d).arrays in cc

    no_update : (name : Name) (before value : Expr) → e.node ≡ roll-Node (Node-F.Update name before value) → ⊥
    no_update name before value is = let bad = (kept_at (at Whole) e (Node-F.Update name before value) is d).arrays in cc

  array_typed : (e : Expr) (b : basic.Basic) → is_bounded e ≡ true → first_refusal ((l e).demands scope) ≡ None → (l e).sort scope ≡ of.Array b → first_refusal (demands_of e (at Whole)) ≡ None
      → ((o : Outcome) (other : Name) → name_standing numbers names (form e) ≡ Some (standing.Array o other) → ⊥)
      → body_sort known (array_body numbers names e (form e)) ≡ Some (of.Array b)
  array_typed e b bounded h sort d apart = by (form e) refl
    where
      bare_bounded : is_bounded (bare e) ≡ true
      bare_bounded = sym (bounded_bare e) ∙ bounded

      bare_holds : first_refusal ((l (bare e)).demands scope) ≡ None
      bare_holds = subst (λ (f : scopes.Names → List types.Demand). first_refusal (f scope) ≡ None) (demands_bare all e) h

      bare_sort : (l (bare e)).sort scope ≡ of.Array b
      bare_sort = sym (ap (λ (f : scopes.Names → Sort). f scope) (sort_bare all e)) ∙ sort

      bare_form : first_refusal (demands_of (bare e) (at Whole)) ≡ None
      bare_form = form_bare (at Whole) e d

      node_here : (x : Opened) → form e ≡ x → node_sort all (layer_of Look (look_of all) x) scope ≡ of.Array b
      node_here x same = sort_here (bare e) b bare_bounded bare_holds bare_sort bare_form x (bare_node e x same)

      by : (x : Opened) → form e ≡ x → body_sort known (array_body numbers names e x) ≡ Some (of.Array b)
      by (Node-F.Construct index low high elem) same =
          construct_typed all functions numbers names stand arrays callable gives scope sorts agrees (bare e) index low high elem (body.Scalar (renamed names e)) (bare_node e _ same)
          bare_bounded bare_holds bare_form b bare_sort
      by (Node-F.For ds asked_test assigns last) same =
          let loop = loop_typed (bare e) ds asked_test assigns last (bare_node e _ same) bare_bounded bare_holds bare_form in
          loop.2 e ∙ ap (λ (s : Sort). Some s) (sym loop.1 ∙ bare_sort)
      by (Node-F.Name m) same =
          let stands = placed m b (local_array (scope m) b (node_here (Node-F.Name m) same)) in
          absurd (apart stands.0 stands.1 (ap (name_standing numbers names) same ∙ stands.2))
      by (Node-F.Call m es) same = absurd (no_call (bare e) b bare_bounded bare_holds bare_sort bare_form m es (bare_node e _ same))
      by (Node-F.If arms last) same = absurd (no_conditional (bare e) b bare_bounded bare_holds bare_sort bare_form arms last (bare_node e _ same))
      by (Node-F.Let ds values) same = absurd (no_let (bare e) b bare_bounded bare_holds bare_sort bare_form ds values (bare_node e _ same))
      by (Node-F.Array before value) same = absurd (no_array_value (bare e) b bare_bounded bare_holds bare_sort bare_form before value (bare_node e _ same))
      by (Node-F.Update m before value) same = absurd (no_update (bare e) b bare_bounded bare_holds bare_sort bare_form m before value (bare_node e _ same))
      by (Node-F.Parens x) same = absurd (never_parens e x same)
      by (Node-F.Number v) same = let bad = node_here (Node-F.Number v) same in absurd (cc)
      by (Node-F.Truth v) same = let bad = node_here (Node-F.Truth v) same in absurd (cc)
      by (Node-F.Error v c) same = let bad = node_here (Node-F.Error v c) same in absurd (cc)
      by (Node-F.Access m index) same = absurd (element_basic _ b (node_here (Node-F.Access m index) same))
      by (Node-F.Chain first rest) same = absurd (chain_basic {A = Look} (map (λ (k : Link). (k.op, l k.operand)) rest) b (node_here (Node-F.Chain first rest) same))
      by (Node-F.Compare r left right) same = let bad = node_here (Node-F.Compare r left right) same in absurd (cc)
      by (Node-F.Negate x) same = let bad = node_here (Node-F.Negate x) same in absurd (cc)
      by (Node-F.Invert x) same = let bad = node_here (Node-F.Invert x) same in absurd (cc)
      by (Node-F.Test t x) same = let bad = node_here (Node-F.Test t x) same in absurd (cc)
      by (Node-F.TwoPlace o left right) same = let bad = node_here (Node-F.TwoPlace o left right) same in absurd (cc)
      by (Node-F.Fold index low high o elem) same = absurd (operator_basic o b (node_here (Node-F.Fold index low high o elem) same))

  -- what makes the value of a definition or a result
  pub body_typed : (s : Sort) (e : Expr) → is_bounded e ≡ true → first_refusal ((l e).demands scope) ≡ None → (l e).sort scope ≡ s → first_refusal (demands_of e (at Whole)) ≡ None
      → ((b : basic.Basic) (o : Outcome) (other : Name) → s ≡ of.Array b → name_standing numbers names (form e) ≡ Some (standing.Array o other) → ⊥)
      → body_sort known (body_of numbers names s e) ≡ Some s
  body_typed (of.Basic b) e bounded h sort d apart = scalar_typed e b bounded h sort d
  body_typed (of.Array b) e bounded h sort d apart = array_typed e b bounded h sort d (λ o other. apart b o other refl)
