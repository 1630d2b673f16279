-- The body of the main function of an accepted source, put into blocks, keeps the demands on blocks and results.
use Rattle.std.proofs.Common.{arith, ◌≡◌, ℕ, ◌≤◌, Bool, true, false, if◌then◌else◌, ◌&&◌, All, List, [], ◌∷◌, ◌++◌, map, length, refl, sym, ◌∙◌, ap, subst, Some, None}
use Rattle.std.specs.Prelude.{flat_map}
use Rattle.std.proofs.lemmas.Bool.{and_parts, lt-ltb}
use Rattle.std.proofs.lemmas.List.Elements.{All-cons, All-nil}
use Rattle.df_syntax.specs.declared.tree.Named.{Named}
use Rattle.df_syntax.specs.declared.tree.Sort.{Sort}
use Rattle.df_syntax.specs.declared.tree.Sort.TheVariants as of
use Rattle.df_syntax.specs.declared.tree.Expr.{Expr}
use Rattle.df_syntax.specs.declared.tree.Definition.{Definition}
use Rattle.df_syntax.specs.declared.tree.Node.{roll-Node}
use Rattle.df_syntax.specs.declared.tree.Node.TheOpen.{Node-F}
use Rattle.df_syntax.specs.declared.program.Function.{Function}
use Rattle.df_syntax.specs.declared.piped.Block.{Block}
use Rattle.df_syntax.specs.declared.piped.Outcome.{Outcome}
use Rattle.df_syntax.specs.Besides.{beside_rolled}
use Rattle.df_syntax.specs.Demands.{first_refusal}
use Rattle.df_syntax.specs.Meaning.{Name}
use Rattle.df_syntax.specs.SourceForms.{Numbers, bare, form, is_let}
use Rattle.df_syntax.specs.Trees.{Opened, layer_of}
use Rattle.df_syntax.specs.TreeInduction.{Proved, without, tree_induction}
use Rattle.df_syntax.specs.WellBuilt.{is_bounded, is_some_list, all_true}
use Rattle.df_syntax.specs.WellShaped.{Around, Known, IsPlace}
use Rattle.df_syntax.proofs.FirstRefusals.{begin_holds, rest_holds, head_holds, tail_holds, both}
use Rattle.df_names.specs.Maps.{bind}
use Rattle.df_types.specs.declared.answers.CheckAnswer.TheVariants.{WrongType}
use Rattle.df_types.specs.declared.entry.Entry.TheVariants as entry
use Rattle.df_types.specs.Demands as types
use Rattle.df_types.specs.Scopes as scopes
use Rattle.df_types.specs.Scopes.{bound}
use Rattle.df_types.specs.Sorts.{is_same}
use Rattle.df_types.specs.Types.{Look, look_of, asked, asked_each, body_demands, fresh, defined, definition_demands}
use Rattle.df_types.proofs.Looks.{look_is, is_one}
use Rattle.df_shape.specs.declared.part.Part.TheVariants.{Inside}
use Rattle.df_shape.specs.Demands as shape
use Rattle.df_shape.specs.Demands.{demands_of, or_array}
use Rattle.df_shape.specs.Shaped.{Made, Blocks, define, all_defined, result, each_result, body_blocks, blocks_node, blocks_of, main_blocks}
use Rattle.df_shape.specs.Sources as source
use Rattle.df_shape.specs.Sources.{whole, with_arrays, body_definitions}
use Rattle.df_shape.proofs.BoundsKnown.{form_plain}
use Rattle.df_shape.proofs.Opened as opened
use Rattle.df_shape.proofs.Spine.{firsts, blocks_at}
use Rattle.df_accepted.proofs.Agreed.{Sorts}
use Rattle.df_accepted.proofs.Bare.{bare_same}
use Rattle.df_accepted.proofs.BlockStates.{BlocksGive, place_more, Going, Demanded, result_going}
use Rattle.df_accepted.proofs.DefinedBlocks.{define_going}
use Rattle.df_accepted.proofs.FormDemands.{is_nothing}
use Rattle.df_accepted.proofs.Forms.{around}
use Rattle.df_accepted.proofs.GivenArrays.{ArraysKnown, arrays_more}
use Rattle.df_accepted.proofs.Told.{bounds_at}
use Rattle.df_accepted.proofs.TypedElements.{never_parens}
use Rattle.df_accepted.proofs.TypedForms.{same_sort, same_array}

-- ---- what is asked of a body

same_any : (s t : Sort) → is_same s t ≡ true → s ≡ t
same_any s (of.Basic b) h = same_sort s b h
same_any s (of.Array b) h = same_array s b h

-- a part that is asked for a sort has it
asked_sort : (part : Look) (s : Sort) (scope : scopes.Names) → first_refusal (asked part s scope) ≡ None → (first_refusal (part.demands scope) ≡ None) × (is_same (part.sort scope) s ≡ true)
asked_sort part s scope h = (
  begin_holds (part.demands scope) (types.demand (is_same (part.sort scope) s) (WrongType part.place) ∷ []) h,
  head_holds (types.demand (is_same (part.sort scope) s) (WrongType part.place)) [] (rest_holds (part.demands scope) (types.demand (is_same (part.sort scope) s) (WrongType part.place) ∷ []) h),
)

asked_from : (part : Look) (s : Sort) (scope : scopes.Names) → first_refusal (part.demands scope) ≡ None → is_same (part.sort scope) s ≡ true → first_refusal (asked part s scope) ≡ None
asked_from part s scope h same =
    both (part.demands scope) (types.demand (is_same (part.sort scope) s) (WrongType part.place) ∷ []) h (ap (λ b. if b then None else Some (WrongType part.place)) same)

Asks : Look → List Sort → scopes.Names → Type 0
Asks part results scope = first_refusal (body_demands (part ∷ []) results scope) ≡ None

-- one result, or several
by_results : (part : Look) (scope : scopes.Names) (P : List Sort → Type 0) → ((s : Sort) → first_refusal (asked part s scope) ≡ None → P (s ∷ []))
    → ((s t : Sort) (ss : List Sort) → first_refusal (part.spread (s ∷ t ∷ ss) scope) ≡ None → P (s ∷ t ∷ ss))
    → (results : List Sort) → is_some_list results ≡ true → Asks part results scope → P results
unfolding Asks
by_results part scope P one many [] some h = absurd (cc)
by_results part scope P one many (s ∷ []) some h = one s (begin_holds (asked part s scope) [] h)
by_results part scope P one many (s ∷ t ∷ ss) some h =
    many s t ss (subst (λ b. first_refusal (if b then part.spread (s ∷ t ∷ ss) scope else asked_each (part ∷ []) (s ∷ t ∷ ss) scope) ≡ None) (lt-ltb 1 (length (s ∷ t ∷ ss)) (omega arith)) h)

asks_one : (part : Look) (scope : scopes.Names) (s : Sort) → first_refusal (asked part s scope) ≡ None → Asks part (s ∷ []) scope
unfolding Asks
asks_one part scope s h = both (asked part s scope) [] h refl

asks_many : (part : Look) (scope : scopes.Names) (s t : Sort) (ss : List Sort) → first_refusal (part.spread (s ∷ t ∷ ss) scope) ≡ None → Asks part (s ∷ t ∷ ss) scope
unfolding Asks
asks_many part scope s t ss h =
    subst (λ b. first_refusal (if b then part.spread (s ∷ t ∷ ss) scope else asked_each (part ∷ []) (s ∷ t ∷ ss) scope) ≡ None) (sym (lt-ltb 1 (length (s ∷ t ∷ ss)) (omega arith))) h

-- an expression that is no `let` gives one value
module _ (all : List Function) where
  spread_bare : (e : Expr) → (look_of all e).spread ≡ (look_of all (bare e)).spread
  spread_bare = bare_same (λ e. (look_of all e).spread) (λ e of_ is. ap (λ (k : Look). k.spread) (look_is all e (Node-F.Parens of_) is))

  one_value : (e : Expr) → is_let (form e) ≡ false → (results : List Sort) (scope : scopes.Names) → first_refusal ((look_of all e).spread results scope) ≡ None → ⊥
  one_value e plain results scope h =
      let none = is_one all (bare e) (λ of_ at. never_parens e of_ (opened.parens (bare e).node of_ at))
      (λ ds values at. let bad : true ≡ false = sym (ap is_let (opened.let_in (bare e).node ds values at)) ∙ plain in cc) in
      let h' = subst (λ (f : List Sort → scopes.Names → List types.Demand). first_refusal (f results scope) ≡ None) (spread_bare e ∙ none.spread_is) h in
      cc

module _ (all functions : List Function) (numbers : Numbers) (callable gives : Name → Bool) (start : Around) (parameters : ℕ) where
  abbrev l : Expr → Look
  l = look_of all

  abbrev Goes : scopes.Names → Sorts → Made → Type 0
  Goes = Going all functions numbers callable gives start parameters

  abbrev at : (Name → Bool) → shape.Around
  at arrays = record { numbers = numbers; arrays = arrays; callable = callable; gives = gives; part = Inside }

  -- what has been made in the end
  pub record Done (made : Made) (out : List Block × List Outcome) : Type 0 where
    pub sorts : Sorts
    pub blocks : BlocksGive start out.0 (around sorts functions Known)
    pub places : All (IsPlace parameters (length out.0)) out.1
    pub grows : length made.blocks ≤ length out.0

  nothing_done : (scope : scopes.Names) (sorts : Sorts) (made : Made) → Goes scope sorts made → Done made (made.blocks, [])
  nothing_done scope sorts made going = record { sorts = sorts; blocks = going.blocks; places = All-nil (IsPlace parameters (length made.blocks)); grows = omega arith }

  -- ---- results

  abbrev looks : List Expr → List (Expr × shape.Look)
  looks es = map (λ e. (e, source.body_of e)) es

  demanded : (scope : scopes.Names) (sorts : Sorts) (made : Made) (going : Goes scope sorts made) (arrays : Name → Bool) (s : Sort) (e : Expr) → is_bounded e ≡ true
      → first_refusal (asked (l e) s scope) ≡ None → first_refusal (demands_of e (whole (at arrays))) ≡ None → Demanded all functions numbers callable gives start parameters scope arrays made.names going.stand s e
  demanded scope sorts made going arrays s e bounded h d = let parts = asked_sort (l e) s scope h in record { bounded = bounded; typed = parts.0; sort = same_any ((l e).sort scope) s parts.1; form = d }

  each_done : (es : List Expr) (ss : List Sort) (scope : scopes.Names) (sorts : Sorts) (made : Made) (arrays : Name → Bool) → Goes scope sorts made → ArraysKnown scope arrays
      → all_true (map is_bounded es) ≡ true → first_refusal (asked_each (map l es) ss scope) ≡ None
      → first_refusal (flat_map (λ (e : Expr × shape.Look). demands_of e.0 (whole (at arrays))) (looks es)) ≡ None → Done made (each_result numbers es made ss)
  each_done [] ss scope sorts made arrays going known bounded h d = nothing_done scope sorts made going
  each_done (e ∷ es) [] scope sorts made arrays going known bounded h d = nothing_done scope sorts made going
  each_done (e ∷ es) (s ∷ ss) scope sorts made arrays going known bounded h d =
      let bounds = and_parts (is_bounded e) (all_true (map is_bounded es)) bounded in
      let own = demands_of e (whole (at arrays)) in
      let r = result numbers made s e in
      let here = result_going all functions numbers callable gives start parameters scope sorts made going arrays known s e
      (demanded scope sorts made going arrays s e bounds.0 (begin_holds (asked (l e) s scope) (asked_each (map l es) ss scope) h) (begin_holds own _ d)) in
      let others = each_done es ss scope sorts (record made { blocks = r.1 }) arrays here.0 known bounds.1 (rest_holds (asked (l e) s scope) (asked_each (map l es) ss scope) h) (rest_holds own _ d) in
      let end = length (each_result numbers es (record made { blocks = r.1 }) ss).0 in
      record {
        sorts = others.sorts;
        blocks = others.blocks;
        places = All-cons (IsPlace parameters end) r.0 (each_result numbers es (record made { blocks = r.1 }) ss).1 (place_more parameters (length r.1) end r.0 others.grows here.1) others.places;
        grows = (let a = here.2 in let b = others.grows in omega (arith, a, b));
      }

  -- ---- definitions

  abbrev asked_definitions : List Definition → List (Named × Sort × Look)
  asked_definitions ds = map {B = Named × Sort × Look} (λ (d : Definition). (d.name, d.sort, l d.value)) ds

  abbrev form_definitions : List Definition → List (Named × Sort × (Expr × shape.Look))
  form_definitions ds = map {B = Named × Sort × (Expr × shape.Look)} (λ (d : Definition). (d.name, d.sort, (d.value, source.body_of d.value))) ds

  abbrev block_definitions : List Definition → List (Named × Sort × (Expr × Blocks numbers))
  block_definitions ds = map {B = Named × Sort × (Expr × Blocks numbers)} (λ (d : Definition). (d.name, d.sort, (d.value, blocks_of numbers d.value))) ds

  definitions_going : (ds : List Definition) (scope : scopes.Names) (sorts : Sorts) (made : Made) (arrays : Name → Bool) → Goes scope sorts made → ArraysKnown scope arrays
      → all_true (map (λ (d : Named × Sort × Bool). d.2) (map {B = Named × Sort × Bool} (λ (d : Definition). (d.name, d.sort, is_bounded d.value)) ds)) ≡ true
      → first_refusal (definition_demands (asked_definitions ds) scope) ≡ None → first_refusal (body_definitions (at arrays) (form_definitions ds)) ≡ None
      → (more : Sorts) × Goes (bound (defined (asked_definitions ds)) scope) more (all_defined numbers made (block_definitions ds))
      × ArraysKnown (bound (defined (asked_definitions ds)) scope) (with_arrays (at arrays) (form_definitions ds)).arrays
      × (length made.blocks ≤ length (all_defined numbers made (block_definitions ds)).blocks)
  definitions_going [] scope sorts made arrays going known bounded h d = (sorts, going, known, omega arith)
  definitions_going (x ∷ ds) scope sorts made arrays going known bounded h d =
      let bounds = and_parts (is_bounded x.value) _ bounded in
      let inner = bind scope x.name.name (entry.Local x.sort) in
      let own = asked (l x.value) x.sort scope in
      let others = definition_demands (asked_definitions ds) inner in
      let new = is_nothing (scope x.name.name) (head_holds (fresh x.name scope) (own ++ others) h) in
      let h' = tail_holds (fresh x.name scope) (own ++ others) h in
      let first = demands_of x.value (whole (at arrays)) in
      let here = define_going all functions numbers callable gives start parameters scope sorts made going arrays known x.name new x.sort x.value
      (demanded scope sorts made going arrays x.sort x.value bounds.0 (begin_holds own others h') (begin_holds first _ d)) in
      let rest = definitions_going ds inner here.0 (define numbers made x.name x.sort x.value) (or_array arrays x.name.name x.sort) here.1
      (arrays_more scope arrays x.name.name x.sort known) bounds.1 (rest_holds own others h') (rest_holds first _ d) in
      (rest.0, rest.1, rest.2, (let a = here.2 in let b = rest.3 in omega (arith, a, b)))

  -- ---- the spine of a body

  abbrev Spine : Expr → Type 0
  Spine e = (scope : scopes.Names) (sorts : Sorts) (made : Made) (arrays : Name → Bool) (results : List Sort) → Goes scope sorts made → ArraysKnown scope arrays → is_bounded e ≡ true
      → is_some_list results ≡ true → Asks (look_of all e) results scope → first_refusal (source.body_of e (at arrays)) ≡ None → Done made (blocks_of numbers e made results)

  body_at : (e : Expr) (x : Opened) → e.node ≡ roll-Node x → source.body_of e ≡ source.body_node e (layer_of (Expr × shape.Look) (λ c. (c, source.body_of c)) x)
  unfolding source.body_of
  body_at e x is = beside_rolled shape.Look source.body_node e x is

  only_done : (e : Expr) (scope : scopes.Names) (sorts : Sorts) (made : Made) (arrays : Name → Bool) (results : List Sort) → Goes scope sorts made → ArraysKnown scope arrays → is_bounded e ≡ true
      → is_some_list results ≡ true → Asks (l e) results scope → first_refusal (demands_of e (whole (at arrays))) ≡ None → is_let (form e) ≡ false → Done made (each_result numbers (e ∷ []) made results)
  only_done e scope sorts made arrays results going known bounded some h d plain =
      by_results (l e) scope (λ rs. Done made (each_result numbers (e ∷ []) made rs))
      (λ s asked_e. each_done (e ∷ []) (s ∷ []) scope sorts made arrays going known (ap (λ b. b && true) bounded) (both (asked (l e) s scope) [] asked_e refl) (both (demands_of e (whole (at arrays))) [] d refl))
      (λ s t ss spread. absurd (one_value all e plain (s ∷ t ∷ ss) scope spread)) results some h

  several_done : (es : List Expr) (scope : scopes.Names) (sorts : Sorts) (made : Made) (arrays : Name → Bool) (results : List Sort) → Goes scope sorts made → ArraysKnown scope arrays
      → all_true (map is_bounded es) ≡ true → first_refusal (asked_each (map l es) results scope) ≡ None
      → first_refusal (flat_map (λ (e : Expr × shape.Look). demands_of e.0 (whole (at arrays))) (looks es)) ≡ None
      → Done made (each_result numbers (map (λ (e : Expr × Blocks numbers). e.0) (map (λ e. (e, blocks_of numbers e)) es)) made results)
  several_done es scope sorts made arrays results going known bounded h d =
      subst (λ (vs : List Expr). Done made (each_result numbers vs made results)) (sym (firsts (blocks_of numbers) es)) (each_done es results scope sorts made arrays going known bounded h d)

  values_done : (vs : List ((e : Expr) × Spine e)) (scope : scopes.Names) (sorts : Sorts) (made : Made) (arrays : Name → Bool) (results : List Sort) → Goes scope sorts made → ArraysKnown scope arrays
      → all_true (map is_bounded (map (λ e. e.0) vs)) ≡ true → is_some_list results ≡ true → first_refusal (body_demands (map l (map (λ e. e.0) vs)) results scope) ≡ None
      → first_refusal (source.body_demands (looks (map (λ e. e.0) vs)) (at arrays)) ≡ None
      → Done made (body_blocks numbers (map (λ e. (e, blocks_of numbers e)) (map (λ e. e.0) vs)) made results)
  unfolding Asks
  values_done [] scope sorts made arrays results going known bounded some h d = nothing_done scope sorts made going
  values_done (v ∷ []) scope sorts made arrays results going known bounded some h d = v.1 scope sorts made arrays results going known (and_parts (is_bounded v.0) true bounded).0 some h d
  values_done (v ∷ w ∷ vs) scope sorts made arrays results going known bounded some h d = several_done (v.0 ∷ w.0 ∷ map (λ e. e.0) vs) scope sorts made arrays results going known bounded h d

  -- what is asked of a `let` is asked of its definitions and its values
  LetAsks : List Definition → List Expr → scopes.Names → List Sort → Type 0
  LetAsks ds vs scope results =
      (first_refusal (definition_demands (asked_definitions ds) scope) ≡ None) × (first_refusal (body_demands (map l vs) results (bound (defined (asked_definitions ds)) scope)) ≡ None)

  let_asks : (e : Expr) (ds : List Definition) (vs : List Expr) (scope : scopes.Names) (results : List Sort) → e.node ≡ roll-Node (Node-F.Let ds vs) → is_some_list results ≡ true → Asks (l e) results scope
      → LetAsks ds vs scope results
  unfolding LetAsks Asks
  let_asks e ds vs scope results is some h = by_results (l e) scope (LetAsks ds vs scope) (λ s. one vs s is) (λ s t ss spread. many s t ss spread) results some h
    where
      one : (us : List Expr) (s : Sort) → e.node ≡ roll-Node (Node-F.Let ds us) → first_refusal (asked (l e) s scope) ≡ None → LetAsks ds us scope (s ∷ [])
      one [] s node k =
          let bad = subst (λ (p : Look). first_refusal (p.demands scope) ≡ None) (look_is all e (Node-F.Let ds []) node) (asked_sort (l e) s scope k).0 in
          absurd (cc)
      one (v ∷ w ∷ us) s node k =
          let bad = subst (λ (p : Look). first_refusal (p.demands scope) ≡ None) (look_is all e (Node-F.Let ds (v ∷ w ∷ us)) node) (asked_sort (l e) s scope k).0 in
          absurd (cc)
      one (v ∷ []) s node k =
          let inner = bound (defined (asked_definitions ds)) scope in
          let x = Node-F.Let ds (v ∷ []) in
          let parts = asked_sort (l e) s scope k in
          let demands_here = subst (λ (p : Look). first_refusal (p.demands scope) ≡ None) (look_is all e x node) parts.0 in
          let sort_here : is_same ((l v).sort inner) s ≡ true = subst (λ (p : Look). is_same (p.sort scope) s ≡ true) (look_is all e x node) parts.1 in (
            begin_holds (definition_demands (asked_definitions ds) scope) ((l v).demands inner) demands_here,
            asks_one (l v) inner s (asked_from (l v) s inner (rest_holds (definition_demands (asked_definitions ds) scope) ((l v).demands inner) demands_here) sort_here),
          )

      many : (s t : Sort) (ss : List Sort) → first_refusal ((l e).spread (s ∷ t ∷ ss) scope) ≡ None → LetAsks ds vs scope (s ∷ t ∷ ss)
      many s t ss spread =
          let inner = bound (defined (asked_definitions ds)) scope in
          let k = subst (λ (p : Look). first_refusal (p.spread (s ∷ t ∷ ss) scope) ≡ None) (look_is all e (Node-F.Let ds vs) is) spread in (
            begin_holds (definition_demands (asked_definitions ds) scope) (body_demands (map l vs) (s ∷ t ∷ ss) inner) k,
            rest_holds (definition_demands (asked_definitions ds) scope) (body_demands (map l vs) (s ∷ t ∷ ss) inner) k,
          )

  -- and what is asked of an expression in parentheses is asked of the expression
  parens_ask : (e inside : Expr) (scope : scopes.Names) (results : List Sort) → e.node ≡ roll-Node (Node-F.Parens inside) → is_some_list results ≡ true → Asks (l e) results scope → Asks (l inside) results scope
  parens_ask e inside scope results is some h =
      by_results (l e) scope (λ rs. Asks (l inside) rs scope)
      (λ s k. let parts = asked_sort (l e) s scope k in
      asks_one (l inside) scope s (asked_from (l inside) s scope (subst (λ (p : Look). first_refusal (p.demands scope) ≡ None) (look_is all e (Node-F.Parens inside) is) parts.0)
      (subst (λ (p : Look). is_same (p.sort scope) s ≡ true) (look_is all e (Node-F.Parens inside) is) parts.1)))
      (λ s t ss k. asks_many (l inside) scope s t ss (subst (λ (p : Look). first_refusal (p.spread (s ∷ t ∷ ss) scope) ≡ None) (look_is all e (Node-F.Parens inside) is) k)) results some h

  -- by what the node of an expression tells
  spine_by : (e : Expr) (x : Opened) → e.node ≡ roll-Node x
      → ((scope : scopes.Names) (sorts : Sorts) (made : Made) (arrays : Name → Bool) (results : List Sort) → Goes scope sorts made → ArraysKnown scope arrays → is_bounded e ≡ true
      → is_some_list results ≡ true → Asks (l e) results scope → first_refusal (source.body_node e (layer_of (Expr × shape.Look) (λ c. (c, source.body_of c)) x) (at arrays)) ≡ None
      → Done made (blocks_node numbers e (layer_of (Expr × Blocks numbers) (λ c. (c, blocks_of numbers c)) x) made results)) → Spine e
  spine_by e x is f = λ scope sorts made arrays results going known bounded some h d.
      subst (λ (b : Blocks numbers). Done made (b made results)) (sym (blocks_at numbers e x is))
      (f scope sorts made arrays results going known bounded some h (subst (λ (k : shape.Look). first_refusal (k (at arrays)) ≡ None) (body_at e x is) d))

  parens_done : (c : Bool) (e inside : Expr) → e.node ≡ roll-Node (Node-F.Parens inside) → is_let (form e) ≡ c → Spine inside
      → (scope : scopes.Names) (sorts : Sorts) (made : Made) (arrays : Name → Bool) (results : List Sort) → Goes scope sorts made → ArraysKnown scope arrays → is_bounded e ≡ true
      → is_some_list results ≡ true → Asks (l e) results scope → first_refusal ((if c then source.body_of inside else (λ around. demands_of e (whole around))) (at arrays)) ≡ None
      → Done made ((if c then blocks_of numbers inside else each_result numbers (e ∷ [])) made results)
  parens_done true e inside is same f scope sorts made arrays results going known bounded some h d =
      f scope sorts made arrays results going known (sym (bounds_at e (Node-F.Parens inside) is) ∙ bounded) some (parens_ask e inside scope results is some h) d
  parens_done false e inside is same f scope sorts made arrays results going known bounded some h d = only_done e scope sorts made arrays results going known bounded some h d same

  spine_step : (e : Expr) (y : Proved Spine) → e.node ≡ roll-Node (without Spine y) → Spine e
  unfolding LetAsks
  spine_step e (Node-F.Parens inside) is = spine_by e (Node-F.Parens inside.0) is (parens_done (is_let (form e)) e inside.0 is refl inside.1)
  spine_step e (Node-F.Let ds vs) is =
      let plain_ds = map (λ d. d.0) ds in
      let plain_vs = map (λ v. v.0) vs in
      let x = Node-F.Let plain_ds plain_vs in
      spine_by e x is (λ scope sorts made arrays results going known bounded some h d.
      let asks = let_asks e plain_ds plain_vs scope results is some h in
      let bools = map (λ (d : Named × Sort × Bool). d.2) (map {B = Named × Sort × Bool} (λ (d : Definition). (d.name, d.sort, is_bounded d.value)) plain_ds) in
      let whole_bounds = and_parts (is_some_list (map is_bounded plain_vs)) _ (and_parts (is_some_list bools) _ (sym (bounds_at e x is) ∙ bounded)).1 in
      let bounds = and_parts (all_true bools) (all_true (map is_bounded plain_vs)) whole_bounds.1 in
      let own = body_definitions (at arrays) (form_definitions plain_ds) in
      let behind = definitions_going plain_ds scope sorts made arrays going known bounds.0 asks.0 (begin_holds own _ d) in
      let more = (with_arrays (at arrays) (form_definitions plain_ds)).arrays in
      let done = values_done vs (bound (defined (asked_definitions plain_ds)) scope) behind.0 (all_defined numbers made (block_definitions plain_ds)) more results behind.1 behind.2 bounds.1 some asks.1
      (rest_holds own (source.body_demands (looks plain_vs) (at more)) d) in
      record { sorts = done.sorts; blocks = done.blocks; places = done.places; grows = (let a = behind.3 in let b = done.grows in omega (arith, a, b)) })
  spine_step e y is =
      spine_by e (without Spine y) is (λ scope sorts made arrays results going known bounded some h d.
      only_done e scope sorts made arrays results going known bounded some h d (ap is_let (form_plain e (without Spine y) is (λ of_ q. cc))))

  spine : (e : Expr) → Spine e
  spine = tree_induction Spine spine_step

  -- the body of the main function
  pub main_done : (es : List Expr) (scope : scopes.Names) (sorts : Sorts) (made : Made) (arrays : Name → Bool) (results : List Sort) → Goes scope sorts made → ArraysKnown scope arrays
      → all_true (map is_bounded es) ≡ true → is_some_list results ≡ true → first_refusal (body_demands (map l es) results scope) ≡ None
      → first_refusal (source.main_demands es (at arrays)) ≡ None → Done made (main_blocks numbers es made results)
  unfolding Asks
  main_done [] scope sorts made arrays results going known bounded some h d = nothing_done scope sorts made going
  main_done (v ∷ []) scope sorts made arrays results going known bounded some h d = spine v scope sorts made arrays results going known (and_parts (is_bounded v) true bounded).0 some h d
  main_done (v ∷ w ∷ vs) scope sorts made arrays results going known bounded some h d = several_done (v ∷ w ∷ vs) scope sorts made arrays results going known bounded h d
