-- A loop of an accepted source is a recurrence, and its block has its type.
use Rattle.std.proofs.Common.{◌≡◌, suc, Bool, true, ◌&&◌, nat_le, List, [], ◌∷◌, ◌++◌, sym, ◌∙◌, ap, ap₂, subst, Option, Some, None}
use Rattle.std.specs.Option.{is_some}
use Rattle.std.proofs.lemmas.Bool.{and_parts}
use Rattle.df_values.specs.declared.values.Basic as basic
use Rattle.df_syntax.specs.declared.tree.Sort.{Sort}
use Rattle.df_syntax.specs.declared.tree.Sort.TheVariants as of
use Rattle.df_syntax.specs.declared.tree.Expr.{Expr}
use Rattle.df_syntax.specs.declared.tree.Assign.{Assign}
use Rattle.df_syntax.specs.declared.tree.Definition.{Definition}
use Rattle.df_syntax.specs.declared.tree.Node.{roll-Node}
use Rattle.df_syntax.specs.declared.tree.Node.TheOpen.{Node-F}
use Rattle.df_syntax.specs.declared.program.Function.{Function}
use Rattle.df_syntax.specs.declared.piped.Body.{Body}
use Rattle.df_syntax.specs.declared.piped.Body.TheVariants as body
use Rattle.df_syntax.specs.declared.form.Form.TheVariants as rule
use Rattle.df_syntax.specs.Demands.{first_refusal}
use Rattle.df_syntax.specs.Meaning.{Name}
use Rattle.df_syntax.specs.SourceForms.{Numbers, bare, form, manifest, Recurrence, recurrence_of}
use Rattle.df_syntax.specs.Trees.{Opened}
use Rattle.df_syntax.specs.WellBuilt.{is_bounded}
use Rattle.df_syntax.specs.WellShaped.{Known, when, as_array, recurrence_type, body_sort}
use Rattle.df_syntax.proofs.FirstRefusals.{begin_holds, rest_holds, head_holds, tail_holds}
use Rattle.df_types.specs.declared.answers.CheckAnswer.TheVariants.{WrongType}
use Rattle.df_types.specs.declared.entry.Entry.TheVariants as entry
use Rattle.df_types.specs.Demands as types
use Rattle.df_types.specs.Scopes as scopes
use Rattle.df_types.specs.Sorts.{integer, boolean, is_same, is_basic, array_of, element_of, value_sort}
use Rattle.df_types.specs.Types.{Look, look_of, asked, asked_basic, fresh, known, known_array}
use Rattle.df_types.proofs.Looks.{look_is}
use Rattle.df_names.specs.Maps.{bind, nothing}
use Rattle.df_shape.specs.declared.part.Part.{Part}
use Rattle.df_shape.specs.declared.part.Part.TheVariants.{Whole, Inside, Element, First, Next}
use Rattle.df_shape.specs.declared.answers.ShapeAnswer.TheVariants.{NotPiped, RangeTooLong}
use Rattle.df_shape.specs.Demands.{Demands, Around, demand, demands_of, or_array, manifest_demand, length_between, longest, is_one_before, recurrence_demands}
use Rattle.df_shape.specs.Renamed.{Names, renamed}
use Rattle.df_shape.specs.Shaped.{between}
use Rattle.df_shape.proofs.BoundsKnown.{form_plain}
use Rattle.df_shape.proofs.Opened.{rolled_from}
use Rattle.df_accepted.proofs.Agreed.{Agrees, Sorts, bind_new}
use Rattle.df_accepted.proofs.Bare.{bare_keeps}
use Rattle.df_accepted.proofs.Forms.{around}
use Rattle.df_accepted.proofs.FormDemands.{is_nothing, kept_at}
use Rattle.df_accepted.proofs.ManifestParts.{NumbersStand}
use Rattle.df_accepted.proofs.Recurrences.{Loop}
use Rattle.df_accepted.proofs.Subscripted.{sort_bare, demands_bare, bounded_bare, name_node}
use Rattle.df_accepted.proofs.Told.{bounds_at}
use Rattle.df_accepted.proofs.TypedElements.{over_known, bound_known}
use Rattle.df_accepted.proofs.TypedForms.{same_array, is_of_itself, asked_is}
use Rattle.df_accepted.proofs.TypedLoops.{first_typed, next_typed}
use Rattle.df_accepted.proofs.TypedParts.{here}
use Rattle.df_shape.proofs.DefinedKept.{is_itself}

-- what is demanded of the form of an expression is demanded of it without its parentheses
pub form_bare : (around : Around) (e : Expr) → first_refusal (demands_of e around) ≡ None → first_refusal (demands_of (bare e) around) ≡ None
form_bare around = bare_keeps (λ e. first_refusal (demands_of e around) ≡ None) (λ e of_ is h. (kept_at around e (Node-F.Parens of_) is h).inner)

-- the node of an expression without its parentheses
pub bare_node : (e : Expr) (x : Opened) → form e ≡ x → (bare e).node ≡ roll-Node x
bare_node e x is = rolled_from (bare e).node ∙ ap (λ (y : Opened). roll-Node y) is

basic_array : (s : Sort) (b : basic.Basic) → is_basic s ≡ true → array_of s ≡ of.Array b → s ≡ of.Basic b
basic_array (of.Basic c) b h is = let same : c ≡ b = cc in ap (λ (x : basic.Basic). of.Basic x) same
basic_array (of.Array c) b h is = absurd (cc)

module _ (all functions : List Function) (numbers : Numbers) (names : Names) (stand : NumbersStand numbers names) (arrays callable gives : Name → Bool)
    (scope : scopes.Names) (sorts : Sorts) (agrees : Agrees all functions callable names scope sorts) where
  abbrev l : Expr → Look
  l = look_of all

  abbrev at : Part → Around
  at = here all functions numbers names stand arrays callable gives

  module _ (e : Expr) (i t : Definition) (asked_test : Expr) (next step : Assign) (last : Expr) (r : Recurrence) (loop : Loop i t next step last r)
      (is : e.node ≡ roll-Node (Node-F.For (i ∷ t ∷ []) asked_test (next ∷ step ∷ []) last)) (h : first_refusal ((look_of all e).demands scope) ≡ None) where
    abbrev x : Opened
    x = Node-F.For (i ∷ t ∷ []) asked_test (next ∷ step ∷ []) last

    abbrev b : basic.Basic
    b = loop.basic

    -- behind the definitions of the loop
    abbrev inner : scopes.Names
    inner = bind (bind scope i.name.name (entry.Local integer)) t.name.name (entry.Local (of.Array loop.basic))

    abbrev behind : Sort → Sort → scopes.Names
    behind s u = bind (bind scope i.name.name (entry.Local s)) t.name.name (entry.Local u)

    behind_is : behind i.sort t.sort ≡ inner
    behind_is = ap₂ behind loop.index_sort loop.array_sort

    pub loop_sort : (l e).sort scope ≡ of.Array loop.basic
    loop_sort =
        ap (λ (k : Look). k.sort scope) (look_is all e x is)
        ∙ (ap (λ (s : scopes.Names). (l last).sort s) behind_is
        ∙ (ap (λ (f : scopes.Names → Sort). f inner) (sort_bare all last)
        ∙ (ap (λ (k : Look). k.sort inner) (look_is all (bare last) (Node-F.Name t.name.name) (name_node t.name.name last loop.last_is))
        ∙ ap value_sort (bind_new (bind scope i.name.name (entry.Local integer)) t.name.name (entry.Local (of.Array loop.basic)) t.name.name (is_itself t.name.name)))))

    -- what is demanded of its types, by its parts
    abbrev definitions_asked : Sort → Sort → List types.Demand
    definitions_asked s u =
        fresh i.name scope ∷ (asked (l i.value) s scope ++ (fresh t.name (bind scope i.name.name (entry.Local s)) ∷ (asked (l t.value) u (bind scope i.name.name (entry.Local s)) ++ [])))

    abbrev loop_names : Sort → Sort → scopes.Names
    loop_names s u = bind (bind nothing i.name.name (entry.Local s)) t.name.name (entry.Local u)

    abbrev next_asked : Sort → Sort → List types.Demand
    next_asked s u = known next.name.name next.name.place (loop_names s u) ∷ asked (l next.value) (value_sort (loop_names s u next.name.name)) (behind s u)

    abbrev step_asked : Sort → Sort → List types.Demand
    step_asked s u = (known step.name.name step.name.place (loop_names s u) ∷ asked (l step.value) (value_sort (loop_names s u step.name.name)) (behind s u)) ++ []

    abbrev rest_asked : Sort → Sort → List types.Demand
    rest_asked s u = asked (l asked_test) boolean (behind s u) ++ ((next_asked s u ++ step_asked s u) ++ (l last).demands (behind s u))

    all_asked : first_refusal (definitions_asked integer (of.Array loop.basic) ++ rest_asked integer (of.Array loop.basic)) ≡ None
    all_asked =
        subst (λ (s : Sort). first_refusal (definitions_asked integer s ++ rest_asked integer s) ≡ None) loop.array_sort
        (subst (λ (s : Sort). first_refusal (definitions_asked s t.sort ++ rest_asked s t.sort) ≡ None) loop.index_sort
        (subst (λ (k : Look). first_refusal (k.demands scope) ≡ None) (look_is all e x is) h))

    definitions_hold : first_refusal (definitions_asked integer (of.Array loop.basic)) ≡ None
    definitions_hold = begin_holds (definitions_asked integer (of.Array loop.basic)) (rest_asked integer (of.Array loop.basic)) all_asked

    abbrev with_index : scopes.Names
    with_index = bind scope i.name.name (entry.Local integer)

    abbrev array_asked : List types.Demand
    array_asked = fresh t.name with_index ∷ (asked (l t.value) (of.Array loop.basic) with_index ++ [])

    index_new : scope i.name.name ≡ None
    index_new = is_nothing (scope i.name.name) (head_holds (fresh i.name scope) (asked (l i.value) integer scope ++ array_asked) definitions_hold)

    array_holds : first_refusal array_asked ≡ None
    array_holds = rest_holds (asked (l i.value) integer scope) array_asked (tail_holds (fresh i.name scope) (asked (l i.value) integer scope ++ array_asked) definitions_hold)

    array_new : with_index t.name.name ≡ None
    array_new = is_nothing (with_index t.name.name) (head_holds (fresh t.name with_index) (asked (l t.value) (of.Array loop.basic) with_index ++ []) array_holds)

    value_asked : first_refusal (asked (l t.value) (of.Array loop.basic) with_index) ≡ None
    value_asked = begin_holds (asked (l t.value) (of.Array loop.basic) with_index) [] (tail_holds (fresh t.name with_index) (asked (l t.value) (of.Array loop.basic) with_index ++ []) array_holds)

    next_holds : first_refusal ((l next.value).demands inner) ≡ None
    next_holds =
        let s = integer in
        let u = of.Array loop.basic in
        let both = begin_holds (next_asked s u ++ step_asked s u) ((l last).demands (behind s u)) (rest_holds (asked (l asked_test) boolean (behind s u)) ((next_asked s u ++ step_asked s u) ++ (l last).demands (behind s u))
        (rest_holds (definitions_asked s u) (rest_asked s u) all_asked)) in
        begin_holds ((l next.value).demands inner) _
        (tail_holds (known next.name.name next.name.place (loop_names s u)) (asked (l next.value) (value_sort (loop_names s u next.name.name)) (behind s u)) (begin_holds (next_asked s u) (step_asked s u) both))

    -- the first element, without the parentheses around its array
    first_holds : (first_refusal ((l loop.first).demands with_index) ≡ None) × ((l loop.first).sort with_index ≡ of.Basic loop.basic)
    first_holds =
        let y = Node-F.Array loop.before loop.first in
        let node = bare_node t.value y loop.value_is in
        let d = subst (λ (k : Look). first_refusal (k.demands with_index) ≡ None) (look_is all (bare t.value) y node)
        (subst (λ (f : scopes.Names → List types.Demand). first_refusal (f with_index) ≡ None) (demands_bare all t.value) (begin_holds ((l t.value).demands with_index) _ value_asked)) in
        let element = rest_holds (asked (l loop.before) integer with_index) (asked_basic (l loop.first) with_index) d in
        let some = head_holds (types.demand (is_basic ((l loop.first).sort with_index)) (WrongType (l loop.first).place)) []
        (rest_holds ((l loop.first).demands with_index) (types.demand (is_basic ((l loop.first).sort with_index)) (WrongType (l loop.first).place) ∷ []) element) in
        let sort = same_array ((l t.value).sort with_index) loop.basic (head_holds (types.demand (is_same ((l t.value).sort with_index) (of.Array loop.basic)) (WrongType (l t.value).place)) []
        (rest_holds ((l t.value).demands with_index) (types.demand (is_same ((l t.value).sort with_index) (of.Array loop.basic)) (WrongType (l t.value).place) ∷ []) value_asked)) in (
          begin_holds ((l loop.first).demands with_index) _ element,
          basic_array ((l loop.first).sort with_index) loop.basic some
              (sym (ap (λ (k : Look). k.sort with_index) (look_is all (bare t.value) y node)) ∙ (sym (ap (λ (f : scopes.Names → Sort). f with_index) (sort_bare all t.value)) ∙ sort)),
        )

    -- and the next one
    elem_holds : (first_refusal ((l loop.elem).demands inner) ≡ None) × ((l loop.elem).sort inner ≡ of.Basic loop.basic)
    elem_holds =
        let y = Node-F.Update loop.array loop.at loop.elem in
        let node = bare_node next.value y loop.next_is in
        let d = subst (λ (k : Look). first_refusal (k.demands inner) ≡ None) (look_is all (bare next.value) y node)
        (subst (λ (f : scopes.Names → List types.Demand). first_refusal (f inner) ≡ None) (demands_bare all next.value) next_holds) in
        let last_asked = rest_holds (asked (l loop.at) integer inner) (asked (l loop.elem) (element_of (value_sort (inner loop.array))) inner)
        (rest_holds (known_array loop.array (bare next.value).place inner) (asked (l loop.at) integer inner ++ asked (l loop.elem) (element_of (value_sort (inner loop.array))) inner) d) in
        let sort : element_of (value_sort (inner loop.array)) ≡ of.Basic loop.basic =
        ap (λ (m : Name). element_of (value_sort (inner m))) (sym loop.updated)
        ∙ ap (λ o. element_of (value_sort o)) (bind_new with_index t.name.name (entry.Local (of.Array loop.basic)) t.name.name (is_itself t.name.name)) in
        let elem_asked = subst (λ (s : Sort). first_refusal (asked (l loop.elem) s inner) ≡ None) sort last_asked in
        (begin_holds ((l loop.elem).demands inner) _ elem_asked, asked_is all (λ e. None) inner (l loop.elem) loop.basic elem_asked)

    -- what is demanded of its form
    module _ (found : recurrence_of x ≡ Some r) (bounded : is_bounded e ≡ true) (d : first_refusal (demands_of e (at Whole)) ≡ None) where
      abbrev rest_form : Demands
      rest_form = demand (is_one_before (manifest numbers r.before) (manifest numbers r.low)) (NotPiped rule.Recurrence e.place) ++ demand (nat_le (suc (length_between numbers r.low r.high)) longest) (RangeTooLong e.place)

      bounds_known : (is_some (manifest numbers r.low) ≡ true) × (is_some (manifest numbers r.high) ≡ true)
      bounds_known =
          let form_is : recurrence_of (form e) ≡ Some r = ap recurrence_of (form_plain e x is (λ of_ q. cc)) ∙ found in
          let ranges = subst (λ (o : Option Recurrence). first_refusal (recurrence_demands numbers e.place o) ≡ None) form_is (kept_at (at Whole) e x is d).ranges in
          let lows = bound_known numbers r.low (manifest_demand numbers r.before ++ (manifest_demand numbers r.high ++ rest_form)) ranges in
          let befores = bound_known numbers r.before (manifest_demand numbers r.high ++ rest_form) lows.1 in
          let highs = bound_known numbers r.high rest_form befores.1 in
          (lows.0, highs.0)

      abbrev more_arrays : Name → Bool
      more_arrays = or_array arrays t.name.name t.sort

      abbrev next_part : Part → Around
      next_part = here all functions numbers names stand more_arrays callable gives

      abbrev next_form : Demands
      next_form = demands_of next.value (next_part (Next i.name.name t.name.name))

      first_form : first_refusal (demands_of loop.first (at Inside)) ≡ None
      first_form =
          let y = Node-F.Array loop.before loop.first in
          (kept_at (at First) (bare t.value) y (bare_node t.value y loop.value_is)
          (form_bare (at First) t.value (begin_holds (demands_of t.value (at First)) next_form (kept_at (at Whole) e x is d).inner))).inner

      elem_form : first_refusal (demands_of loop.elem (next_part (Element i.name.name (Some t.name.name)))) ≡ None
      elem_form =
          let y = Node-F.Update loop.array loop.at loop.elem in
          let around_next = next_part (Next i.name.name t.name.name) in
          (kept_at around_next (bare next.value) y (bare_node next.value y loop.next_is)
          (form_bare around_next next.value (rest_holds (demands_of t.value (at First)) next_form (kept_at (at Whole) e x is d).inner))).inner

      part_bounds : (is_bounded loop.first ≡ true) × (is_bounded loop.elem ≡ true)
      part_bounds =
          let whole = and_parts true _ (sym (bounds_at e x is) ∙ bounded) in
          let assigns = and_parts true _ whole.1 in
          let ds = and_parts (is_bounded i.value && (is_bounded t.value && true)) _ assigns.1 in
          let value = and_parts (is_bounded t.value) true (and_parts (is_bounded i.value) _ ds.0).1 in
          let tests = and_parts (is_bounded asked_test) _ ds.1 in
          let given = and_parts (is_bounded next.value && (is_bounded step.value && true)) _ tests.1 in
          let update = and_parts (is_bounded next.value) _ given.0 in
          let y = Node-F.Array loop.before loop.first in
          let z = Node-F.Update loop.array loop.at loop.elem in (
            (and_parts (is_bounded loop.before) _ (sym (bounds_at (bare t.value) y (bare_node t.value y loop.value_is)) ∙ (sym (bounded_bare t.value) ∙ value.0))).1,
            (and_parts (is_bounded loop.at) _ (sym (bounds_at (bare next.value) z (bare_node next.value z loop.next_is)) ∙ (sym (bounded_bare next.value) ∙ update.0))).1,
          )

      -- its block has its type
      pub recurrence_typed : (otherwise : Body) → body_sort (around sorts functions Known)
          (between numbers r.low r.high otherwise (λ lo n. body.Recur r.index r.array lo n (renamed names r.first) (renamed names r.elem))) ≡ Some (of.Array loop.basic)
      recurrence_typed otherwise =
          let start = first_typed all functions numbers names stand arrays callable gives scope sorts agrees i.name.name t.name.name index_new loop.first loop.basic loop.unnamed part_bounds.0
          first_holds.0 first_holds.1 first_form in
          let further = next_typed all functions numbers names stand more_arrays callable gives scope sorts agrees i.name.name t.name.name index_new loop.elem loop.basic array_new part_bounds.1
          elem_holds.0 elem_holds.1 elem_form in
          over_known (λ (y : Body). body_sort (around sorts functions Known) y ≡ Some (of.Array loop.basic)) (manifest numbers r.low) (manifest numbers r.high) otherwise _ bounds_known.0 bounds_known.1
          (λ lo n at_n.
          ap (λ (q : Recurrence). body_sort (around sorts functions Known) (body.Recur q.index q.array lo n (renamed names q.first) (renamed names q.elem))) loop.parts_are
          ∙ (ap (λ o. as_array (recurrence_type (around sorts functions Known) i.name.name t.name.name o (renamed names loop.elem))) start
          ∙ ap (λ c. as_array (when c loop.basic)) (is_of_itself loop.basic _ further)))
