-- Expressions: where what is demanded of one holds, the names that it binds are new.
use Rattle.std.proofs.Common.{◌≡◌, ℕ, ◌==◌, true, ◌&&◌, List, [], ◌∷◌, ◌++◌, map, length, refl, sym, subst, arith, Option, Some, None}
use Rattle.std.specs.Prelude.{nat_lt}
use Rattle.std.specs.List.{list_all}
use Rattle.std.proofs.lemmas.Bool.{eqb-true}
use Rattle.std.proofs.lemmas.List.{length-map}
use Rattle.df_io.specs.declared.place.Place.{Place}
use Rattle.df_names.specs.Maps.{nothing}
use Rattle.df_syntax.specs.declared.tree.Named.{Named}
use Rattle.df_syntax.specs.declared.tree.Sort.{Sort}
use Rattle.df_syntax.specs.declared.tree.Expr.{Expr}
use Rattle.df_syntax.specs.declared.tree.Parameter.{Parameter}
use Rattle.df_syntax.specs.declared.tree.Node.{roll-Node}
use Rattle.df_syntax.specs.declared.tree.Node.TheOpen.{Node-F}
use Rattle.df_syntax.specs.declared.program.Function.{Function}
use Rattle.df_syntax.specs.Demands.{first_refusal}
use Rattle.df_syntax.specs.FreshNames.{Taken, Fresh, also, is_new, with_defined, definitions_fresh, all_fresh, node_fresh, is_fresh}
use Rattle.df_syntax.specs.Trees.{Opened, layer_of, fold_rolled}
use Rattle.df_syntax.specs.TreeInduction.{Proved, without, tree_induction}
use Rattle.df_syntax.proofs.Tests.{and_left}
use Rattle.std.proofs.lemmas.Bool.{and_from}
use Rattle.df_syntax.proofs.FirstRefusals.{begin_holds, rest_holds, head_holds, tail_holds}
use Rattle.df_types.specs.declared.answers.CheckAnswer.TheVariants.{WrongArity}
use Rattle.df_types.specs.declared.entry.Entry.TheVariants as entry
use Rattle.df_types.specs.Demands.{demand}
use Rattle.df_types.specs.Scopes.{Names, bound}
use Rattle.df_types.specs.Sorts.{integer, boolean, element_of, operator_sort, chain_sort, is_equality, is_of_any, value_sort}
use Rattle.df_types.specs.Types.{Look, look_of, node_look, node_demands, node_spread, asked, asked_operand, asked_each, asked_links, asked_arms, assign_demands, fresh, definition_demands, inside, range_demands, count_of, body_demands, let_demands, for_demands, call_demands, function_at, known_array, operand_sort, if_sort}
use Rattle.df_types.proofs.NewParts.{Covers, firsts, covers_bind, new_by, Agrees, operand_new, each_new, body_new, several_are_some, New, Parts, Definitions, Assigns, names_defined, linked, armed, armed_new, assigned, assigned_new, defining, defining_new, agree_all, asked_here, links_new, arms_new, assigns_new, definitions_new}

module _ (functions : List Function) where
  abbrev look : Expr → Look
  look = look_of functions

  -- what is to be shown of a node, and of it as a body of several results
  abbrev Plainly : Expr → Opened → Type 0
  Plainly e x =
      (taken : Taken) (names : Names) → Covers taken names → first_refusal (node_demands functions e.place (layer_of Look look x) names) ≡ None → node_fresh
      (layer_of Fresh is_fresh x) taken ≡ true

  abbrev Spread : Expr → Opened → Type 0
  Spread e x =
      (taken : Taken) (names : Names) (results : List Sort) → Covers taken names → (node_look functions e.place (layer_of Look look x)).count ≡ length results
      → nat_lt 1 (length results) ≡ true
      → first_refusal (node_spread functions e.place (layer_of Look look x) results names) ≡ None → node_fresh (layer_of Fresh is_fresh x) taken ≡ true

  new_at : (e : Expr) (x : Opened) → e.node ≡ roll-Node x → Plainly e x → Spread e x → New look e
  unfolding look_of is_fresh
  new_at e x is plain spread =
      let here : look e ≡ node_look functions e.place (layer_of Look look x) = fold_rolled Look (node_look functions) e x is in
      let new : is_fresh e ≡ node_fresh (layer_of Fresh is_fresh x) = fold_rolled Fresh (λ place node. node_fresh node) e x is in
      subst (λ (l : Look). Agrees l (is_fresh e)) (sym here)
      (subst (λ (f : Fresh). Agrees (node_look functions e.place (layer_of Look look x)) f) (sym new) (record { plain = plain; spread = spread }))

  ranged_new : (index : Named) (low high : (e : Expr) × New look e) (body : Fresh) (taken : Taken) (names : Names) → Covers taken names
      → first_refusal (range_demands index (look low.0) (look high.0) names) ≡ None → body (also taken index.name) ≡ true
      → (is_fresh low.0 taken && (is_fresh high.0 taken && (is_new taken index && body (also taken index.name)))) ≡ true
  ranged_new index low high body taken names covers h inner =
      let lows = asked (look low.0) integer names in
      let highs = asked (look high.0) integer names in
      let bounds : first_refusal (lows ++ highs) ≡ None = tail_holds (fresh index names) (lows ++ highs) h in
      and_from (is_fresh low.0 taken) _ (asked_here look taken names covers low integer (begin_holds lows highs bounds))
      (and_from (is_fresh high.0 taken) _ (asked_here look taken names covers high integer (rest_holds lows highs bounds))
      (and_from (is_new taken index) _ (new_by taken names index covers (head_holds (fresh index names) (lows ++ highs) h)) inner))

  -- two parts that are asked for one behind the other
  two_new : (a b : (e : Expr) × New look e) (s t : Sort) (taken : Taken) (names : Names) → Covers taken names
      → first_refusal (asked (look a.0) s names ++ asked (look b.0) t names) ≡ None
      → (is_fresh a.0 taken && is_fresh b.0 taken) ≡ true
  two_new a b s t taken names covers h =
      and_from (is_fresh a.0 taken) (is_fresh b.0 taken)
      (asked_here look taken names covers a s (begin_holds (asked (look a.0) s names) (asked (look b.0) t names) h))
      (asked_here look taken names covers b t (rest_holds (asked (look a.0) s names) (asked (look b.0) t names) h))

  call_new : (callee : Option Function) (name : List ℕ) (place : Place) (as_ : Parts look) (taken : Taken) (names : Names)
      → Covers taken names
      → first_refusal (call_demands callee name place (map look (firsts as_)) names) ≡ None → all_fresh (map is_fresh (firsts as_)) taken ≡ true
  call_new None name place as_ taken names covers h = cc
  call_new (Some f) name place as_ taken names covers h =
      let looks = map look (firsts as_) in
      let sorts = map (λ (p : Parameter). p.sort) f.parameters in
      let many = demand (length looks == length f.parameters && length f.results == 1) (WrongArity place) in
      let same : length looks ≡ length f.parameters = eqb-true (length looks) (length f.parameters)
      (and_left (length looks == length f.parameters) (length f.results == 1) (head_holds many (asked_each looks sorts names) h)) in
      each_new taken names covers looks (map is_fresh (firsts as_)) sorts (agree_all look as_)
      (omega (arith, same, length-map f.parameters (λ (p : Parameter). p.sort)))
      (tail_holds many (asked_each looks sorts names) h)

  let_new : (place : Place) (ds : Definitions look) (es : Parts look) (taken : Taken) (names : Names) → Covers taken names
      → first_refusal (let_demands place (defining look (firsts ds)) (map look (firsts es)) names) ≡ None
      → (definitions_fresh (defining_new (firsts ds)) taken && all_fresh (map is_fresh (firsts es)) (with_defined (defining_new (firsts ds)) taken)) ≡ true
  let_new place ds [] taken names covers h = cc
  let_new place ds (e ∷ []) taken names covers h =
      let own = definition_demands (defining look (firsts ds)) names in
      let value = (look e.0).demands (bound (names_defined look ds) names) in
      let first = definitions_new look ds taken names covers (begin_holds own value h) in
      and_from (definitions_fresh (defining_new (firsts ds)) taken) _ first.0
      (and_from (is_fresh e.0 (with_defined (defining_new (firsts ds)) taken)) true (e.1.plain _ _ first.1 (rest_holds own value h)) refl)
  let_new place ds (e ∷ f ∷ es) taken names covers h = cc

  let_spread_new : (ds : Definitions look) (es : Parts look) (taken : Taken) (names : Names) (results : List Sort) → Covers taken names
      → count_of (map look (firsts es)) ≡ length results → nat_lt 1 (length results) ≡ true
      → first_refusal (definition_demands (defining look (firsts ds)) names
      ++ body_demands (map look (firsts es)) results (bound (names_defined look ds) names)) ≡ None
      → (definitions_fresh (defining_new (firsts ds)) taken && all_fresh (map is_fresh (firsts es)) (with_defined (defining_new (firsts ds)) taken)) ≡ true
  let_spread_new ds es taken names results covers count several h =
      let own = definition_demands (defining look (firsts ds)) names in
      let body = body_demands (map look (firsts es)) results (bound (names_defined look ds) names) in
      let first = definitions_new look ds taken names covers (begin_holds own body h) in
      and_from (definitions_fresh (defining_new (firsts ds)) taken) _ first.0
      (body_new _ _ first.1 (map look (firsts es)) (map is_fresh (firsts es)) results (agree_all look es) (several_are_some results several) count
      (rest_holds own body h))

  for_new : (ds : Definitions look) (test : (e : Expr) × New look e) (as_ : Assigns look) (last : (e : Expr) × New look e) (taken : Taken)
      (names : Names) → Covers taken names → first_refusal
      (for_demands (defining look (firsts ds)) (look test.0) (assigned look (firsts as_)) (look last.0) names) ≡ None
      → (definitions_fresh (defining_new (firsts ds)) taken && (is_fresh test.0 (with_defined (defining_new (firsts ds)) taken)
      && (list_all (λ (a : Named × Fresh). a.1 (with_defined (defining_new (firsts ds)) taken)) (assigned_new (firsts as_))
      && is_fresh last.0 (with_defined (defining_new (firsts ds)) taken)))) ≡ true
  for_new ds test as_ last taken names covers h =
      let inner = bound (names_defined look ds) names in
      let loop = bound (names_defined look ds) nothing in
      let own = definition_demands (defining look (firsts ds)) names in
      let tests = asked (look test.0) boolean inner in
      let assigns = assign_demands loop (assigned look (firsts as_)) inner in
      let value = (look last.0).demands inner in
      let first = definitions_new look ds taken names covers (begin_holds own (tests ++ (assigns ++ value)) h) in
      let after : first_refusal (tests ++ (assigns ++ value)) ≡ None = rest_holds own (tests ++ (assigns ++ value)) h in
      let end : first_refusal (assigns ++ value) ≡ None = rest_holds tests (assigns ++ value) after in
      and_from (definitions_fresh (defining_new (firsts ds)) taken) _ first.0
      (and_from (is_fresh test.0 _) _ (asked_here look _ _ first.1 test boolean (begin_holds tests (assigns ++ value) after))
      (and_from (list_all (λ (a : Named × Fresh). a.1 _) (assigned_new (firsts as_))) _
      (assigns_new look _ _ first.1 as_ loop (begin_holds assigns value end)) (last.1.plain _ _ first.1 (rest_holds assigns value end))))

  step : (e : Expr) (y : Proved (New look)) → e.node ≡ roll-Node (without (New look) y) → New look e
  step e (Node-F.Number v) is = new_at e (Node-F.Number v) is (λ taken names covers h. refl) (λ taken names results covers count several h. cc)
  step e (Node-F.Truth v) is = new_at e (Node-F.Truth v) is (λ taken names covers h. refl) (λ taken names results covers count several h. cc)
  step e (Node-F.Error v b) is = new_at e (Node-F.Error v b) is (λ taken names covers h. refl) (λ taken names results covers count several h. cc)
  step e (Node-F.Name name) is = new_at e (Node-F.Name name) is (λ taken names covers h. refl) (λ taken names results covers count several h. cc)
  step e (Node-F.Access name at) is =
      new_at e (Node-F.Access name at.0) is (λ taken names covers h. asked_here look taken names covers at integer
      (rest_holds (known_array name e.place names) (asked (look at.0) integer names) h))
      (λ taken names results covers count several h. cc)
  step e (Node-F.Call name arguments) is =
      new_at e (Node-F.Call name (firsts arguments)) is
      (λ taken names covers h. call_new (function_at functions (names name)) name e.place arguments taken names covers h)
      (λ taken names results covers count several h. cc)
  step e (Node-F.Chain first rest) is =
      new_at e (Node-F.Chain first.0 (firsts rest)) is
      (λ taken names covers h.
      let sort = chain_sort (linked look (firsts rest)) in
      and_from (is_fresh first.0 taken) _ (asked_here look taken names covers first sort
      (begin_holds (asked (look first.0) sort names) (asked_links sort (linked look (firsts rest)) names) h))
      (links_new look taken names covers rest sort (rest_holds (asked (look first.0) sort names) (asked_links sort (linked look (firsts rest)) names) h)))
      (λ taken names results covers count several h. cc)
  step e (Node-F.Compare rel left right) is =
      new_at e (Node-F.Compare rel left.0 right.0) is
      (λ taken names covers h.
      let one = asked_operand (is_equality rel) (look left.0) names in
      let other = operand_sort (is_equality rel) (look left.0) names in
      and_from (is_fresh left.0 taken) (is_fresh right.0 taken)
      (operand_new (look left.0) (is_fresh left.0) left.1 taken names covers (is_equality rel) (begin_holds one (asked (look right.0) other names) h))
      (asked_here look taken names covers right other (rest_holds one (asked (look right.0) other names) h)))
      (λ taken names results covers count several h. cc)
  step e (Node-F.Negate of) is =
      new_at e (Node-F.Negate of.0) is (λ taken names covers h. asked_here look taken names covers of integer h)
      (λ taken names results covers count several h. cc)
  step e (Node-F.Invert of) is =
      new_at e (Node-F.Invert of.0) is (λ taken names covers h. asked_here look taken names covers of boolean h)
      (λ taken names results covers count several h. cc)
  step e (Node-F.Parens of) is = new_at e (Node-F.Parens of.0) is of.1.plain of.1.spread
  step e (Node-F.Test test of) is =
      new_at e (Node-F.Test test of.0) is (λ taken names covers h. operand_new (look of.0) (is_fresh of.0) of.1 taken names covers (is_of_any test) h)
      (λ taken names results covers count several h. cc)
  step e (Node-F.TwoPlace o left right) is =
      new_at e (Node-F.TwoPlace o left.0 right.0) is (λ taken names covers h. two_new left right integer integer taken names covers h)
      (λ taken names results covers count several h. cc)
  step e (Node-F.If arms last) is =
      new_at e (Node-F.If (firsts arms) last.0) is
      (λ taken names covers h.
      let sort = if_sort (armed look (firsts arms)) (look last.0) names in
      let one = asked_arms sort (armed look (firsts arms)) names in
      and_from (list_all (λ (a : Fresh × Fresh). a.0 taken && a.1 taken) (armed_new (firsts arms))) _
      (arms_new look taken names covers arms sort (begin_holds one (asked (look last.0) sort names) h))
      (asked_here look taken names covers last sort (rest_holds one (asked (look last.0) sort names) h)))
      (λ taken names results covers count several h. cc)
  step e (Node-F.Let ds es) is =
      new_at e (Node-F.Let (firsts ds) (firsts es)) is (λ taken names covers h. let_new e.place ds es taken names covers h)
      (λ taken names results covers count several h. let_spread_new ds es taken names results covers count several h)
  step e (Node-F.Construct index low high elem) is =
      new_at e (Node-F.Construct index low.0 high.0 elem.0) is
      (λ taken names covers h.
      let one = range_demands index (look low.0) (look high.0) names in
      let body = asked_operand true (look elem.0) (inside index names) in
      ranged_new index low high (is_fresh elem.0) taken names covers (begin_holds one body h)
      (operand_new (look elem.0) (is_fresh elem.0) elem.1 (also taken index.name) (inside index names)
      (covers_bind taken names index.name (entry.Local integer) covers) true (rest_holds one body h)))
      (λ taken names results covers count several h. cc)
  step e (Node-F.Fold index low high o elem) is =
      new_at e (Node-F.Fold index low.0 high.0 o elem.0) is
      (λ taken names covers h.
      let one = range_demands index (look low.0) (look high.0) names in
      let body = asked (look elem.0) (operator_sort o) (inside index names) in
      ranged_new index low high (is_fresh elem.0) taken names covers (begin_holds one body h)
      (asked_here look (also taken index.name) (inside index names) (covers_bind taken names index.name (entry.Local integer) covers) elem (operator_sort o)
      (rest_holds one body h)))
      (λ taken names results covers count several h. cc)
  step e (Node-F.For ds test assigns last) is =
      new_at e (Node-F.For (firsts ds) test.0 (firsts assigns) last.0) is (λ taken names covers h. for_new ds test assigns last taken names covers h)
      (λ taken names results covers count several h. cc)
  step e (Node-F.Array at value) is =
      new_at e (Node-F.Array at.0 value.0) is
      (λ taken names covers h.
      and_from (is_fresh at.0 taken) (is_fresh value.0 taken)
      (asked_here look taken names covers at integer (begin_holds (asked (look at.0) integer names) (asked_operand true (look value.0) names) h))
      (operand_new (look value.0) (is_fresh value.0) value.1 taken names covers true
      (rest_holds (asked (look at.0) integer names) (asked_operand true (look value.0) names) h)))
      (λ taken names results covers count several h. cc)
  step e (Node-F.Update name at value) is =
      new_at e (Node-F.Update name at.0 value.0) is
      (λ taken names covers h. two_new at value integer (element_of (value_sort (names name))) taken names covers
      (rest_holds (known_array name e.place names) (asked (look at.0) integer names ++ asked (look value.0) (element_of (value_sort (names name))) names) h))
      (λ taken names results covers count several h. cc)

  -- where the demands on an expression hold, the names that it binds are new
  pub expression_new : (e : Expr) → New look e
  expression_new = tree_induction (New look) step
