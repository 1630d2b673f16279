-- The blocks of an accepted source that make arrays for all indices of a range, or fold them, have their types.
use Rattle.std.proofs.Common.{◌≡◌, ℕ, ℤ, Bool, true, nat_le, List, [], ◌∷◌, ◌++◌, refl, sym, ◌∙◌, ap, subst, Option, Some, None}
use Rattle.std.specs.Option.{is_some}
use Rattle.std.proofs.lemmas.Bool.{and_from, and_parts}
use Rattle.df_values.specs.declared.values.Basic as basic
use Rattle.df_values.specs.declared.kinds.Op.{Op}
use Rattle.df_syntax.specs.declared.tree.Named.{Named}
use Rattle.df_syntax.specs.declared.tree.Sort.{Sort}
use Rattle.df_syntax.specs.declared.tree.Sort.TheVariants as of
use Rattle.df_syntax.specs.declared.tree.Expr.{Expr}
use Rattle.df_syntax.specs.declared.tree.Node.{roll-Node}
use Rattle.df_syntax.specs.declared.tree.Node.TheOpen.{Node-F}
use Rattle.df_syntax.specs.declared.program.Function.{Function}
use Rattle.df_syntax.specs.declared.piped.Body.{Body}
use Rattle.df_syntax.specs.declared.piped.Body.TheVariants as body
use Rattle.df_syntax.specs.Demands.{first_refusal}
use Rattle.df_syntax.specs.Meaning.{Name}
use Rattle.df_syntax.specs.SourceForms.{Numbers, form, manifest}
use Rattle.df_syntax.specs.SourceMeaning.{over}
use Rattle.df_syntax.specs.Trees.{Opened}
use Rattle.df_syntax.specs.TreeInduction.{Proved, without, tree_induction}
use Rattle.df_syntax.specs.WellBuilt.{is_bounded, is_fold}
use Rattle.df_syntax.specs.WellShaped as shaped
use Rattle.df_syntax.specs.WellShaped.{Known, Offset, operand_type, has_first, when, as_array, as_scalar, elem_type, body_sort}
use Rattle.df_syntax.proofs.FirstRefusals.{begin_holds, rest_holds, head_holds}
use Rattle.df_types.specs.declared.answers.CheckAnswer.TheVariants.{WrongType}
use Rattle.df_types.specs.Demands as types
use Rattle.df_types.specs.declared.entry.Entry.TheVariants as entry
use Rattle.df_types.specs.Scopes as scopes
use Rattle.df_types.specs.Sorts.{integer, array_of, operator_sort, is_basic}
use Rattle.df_types.specs.Types.{Look, look_of, asked, asked_basic, fresh}
use Rattle.df_types.specs.Types as look
use Rattle.df_types.proofs.Looks.{look_is}
use Rattle.df_shape.specs.declared.part.Part.{Part}
use Rattle.df_shape.specs.declared.part.Part.TheVariants.{Whole, Element}
use Rattle.df_shape.specs.declared.answers.ShapeAnswer.TheVariants.{RangeTooLong, EmptyReduce, NotManifest}
use Rattle.df_shape.specs.Demands.{Demands, Around, demand, demands_of, manifest_demand, length_between, longest, range_demands}
use Rattle.df_shape.specs.Renamed.{Names, renamed}
use Rattle.df_shape.specs.Shaped.{between}
use Rattle.df_shape.proofs.BoundsKnown.{form_plain, form_parens}
use Rattle.df_accepted.proofs.Agreed.{Agrees, Sorts, agrees_inside, none_new, bind_new}
use Rattle.df_accepted.proofs.Forms.{around}
use Rattle.df_accepted.proofs.FormDemands.{is_nothing, one_holds, kept_at}
use Rattle.df_accepted.proofs.ManifestParts.{NumbersStand}
use Rattle.df_accepted.proofs.Told.{bounds_at}
use Rattle.df_accepted.proofs.TypedForms.{asked_is, is_of_itself, operand_is, the_same, basic_is}
use Rattle.df_accepted.proofs.TypedFunctions.{type_is}
use Rattle.df_accepted.proofs.TypedParts.{here, part_typed}
use Rattle.df_shape.proofs.DefinedKept.{is_itself}

-- an expression, read through parentheses, is none in parentheses
pub never_parens : (e : Expr) (inside : Expr) → form e ≡ Node-F.Parens inside → ⊥
never_parens = tree_induction (λ e. (inside : Expr) → form e ≡ Node-F.Parens inside → ⊥) step
  where
    plain : (e : Expr) (x : Opened) → e.node ≡ roll-Node x → ((inside : Expr) → x ≡ Node-F.Parens inside → ⊥) → (inside : Expr) → form e ≡ Node-F.Parens inside → ⊥
    plain e x is apart inside at = apart inside (sym (form_plain e x is apart) ∙ at)

    step : (e : Expr) (y : Proved (λ e. (inside : Expr) → form e ≡ Node-F.Parens inside → ⊥)) → e.node ≡ roll-Node (without (λ e. (inside : Expr) → form e ≡ Node-F.Parens inside → ⊥) y)
        → (inside : Expr) → form e ≡ Node-F.Parens inside → ⊥
    step e (Node-F.Parens x) is inside at = x.1 inside (sym (form_parens e x.0 is) ∙ at)
    step e y is inside at = plain e (without (λ e. (inside : Expr) → form e ≡ Node-F.Parens inside → ⊥) y) is (λ x q. cc) inside at

-- between two bounds that are there
pub over_known : (P : Body → Type 0) (a b : Option ℤ) (otherwise : Body) (f : ℤ → ℕ → Body) → is_some a ≡ true → is_some b ≡ true
    → ((lo : ℤ) (n : ℕ) → over a b 0 (λ lo n. n) ≡ n → P (f lo n)) → P (over a b otherwise f)
over_known P (Some lo) (Some hi) otherwise f h k g = g lo _ refl
over_known P None b otherwise f h k g = absurd (cc)
over_known P (Some lo) None otherwise f h k g = absurd (cc)

pub bound_known : (numbers : Numbers) (e : Expr) (rest : Demands) → first_refusal (manifest_demand numbers e ++ rest) ≡ None
    → (is_some (manifest numbers e) ≡ true) × (first_refusal rest ≡ None)
bound_known numbers e rest h = (one_holds _ (NotManifest e.place) (begin_holds (manifest_demand numbers e) rest h), rest_holds (manifest_demand numbers e) rest h)

module _ (all functions : List Function) (numbers : Numbers) (names : Names) (stand : NumbersStand numbers names) (arrays callable gives : Name → Bool)
    (scope : scopes.Names) (sorts : Sorts) (agrees : Agrees all functions callable names scope sorts) where
  abbrev l : Expr → Look
  l = look_of all

  abbrev known : shaped.Around
  known = around sorts functions Known

  abbrev at : Part → Around
  at = here all functions numbers names stand arrays callable gives

  -- the element of a block has its type where the index is an integer
  elem_typed : (index : Named) (elem : Expr) (c : basic.Basic) → scope index.name ≡ None → is_bounded elem ≡ true → first_refusal ((l elem).demands (look.inside index scope)) ≡ None
      → (l elem).sort (look.inside index scope) ≡ of.Basic c → first_refusal (demands_of elem (at (Element index.name None))) ≡ None
      → elem_type (around sorts functions (Offset index.name)) index.name (renamed names elem) ≡ Some c
  elem_typed index elem c none bounded h sort d =
      let inner = agrees_inside all functions callable names scope sorts agrees index.name integer none in
      let index_stands = none_new all functions callable names scope sorts agrees index.name integer none index.name (is_itself index.name) in
      let index_bound = ap is_some (bind_new scope index.name (entry.Local integer) index.name (is_itself index.name)) in
      type_is names elem (around (sorts ++ (index.name, integer) ∷ []) functions (Offset index.name))
      ∙ part_typed all functions numbers names stand arrays callable gives elem (look.inside index scope) (sorts ++ (index.name, integer) ∷ []) (Element index.name None) inner index_stands index_bound bounded h d (λ may. absurd (cc)) c sort

  abbrev range_asked : Named → Expr → Expr → List types.Demand
  range_asked index low high = look.range_demands index (l low) (l high) scope

  pub fold_typed : (e : Expr) (index : Named) (low high : Expr) (o : Op) (elem : Expr) (otherwise : Body) → e.node ≡ roll-Node (Node-F.Fold index low high o elem) → is_bounded e ≡ true
      → first_refusal ((l e).demands scope) ≡ None → first_refusal (demands_of e (at Whole)) ≡ None → (b : basic.Basic) → (l e).sort scope ≡ of.Basic b
      → body_sort known (between numbers low high otherwise (λ lo n. body.Fold index.name o lo n (renamed names elem))) ≡ Some (of.Basic b)
  fold_typed e index low high o elem otherwise is bounded h d b sort =
      let x = Node-F.Fold index low high o elem in
      let kept = kept_at (at Whole) e x is d in
      let range = range_demands numbers e.place low high in
      let first = demand (has_first o (length_between numbers low high)) (EmptyReduce e.place) in
      let lows = bound_known numbers low (manifest_demand numbers high ++ demand (nat_le (length_between numbers low high) longest) (RangeTooLong e.place)) (begin_holds range first kept.ranges) in
      let highs = bound_known numbers high (demand (nat_le (length_between numbers low high) longest) (RangeTooLong e.place)) lows.1 in
      let some = one_holds (has_first o (length_between numbers low high)) (EmptyReduce e.place) (rest_holds range first kept.ranges) in
      let h' = subst (λ (k : Look). first_refusal (k.demands scope) ≡ None) (look_is all e x is) h in
      let elem_asked = asked (l elem) (operator_sort o) (look.inside index scope) in
      let none = is_nothing (scope index.name) (head_holds (fresh index scope) (asked (l low) integer scope ++ asked (l high) integer scope) (begin_holds (range_asked index low high) elem_asked h')) in
      let t = operand_type o in
      let h_elem = subst (λ (s : Sort). first_refusal (asked (l elem) s (look.inside index scope)) ≡ None) (operand_is o) (rest_holds (range_asked index low high) elem_asked h') in
      let bounds = and_parts (is_bounded high) (is_bounded elem) (and_parts (is_bounded low) _ (and_parts (is_fold o) _ (sym (bounds_at e x is) ∙ bounded)).1).1 in
      let typed_elem = elem_typed index elem t none bounds.1 (begin_holds ((l elem).demands (look.inside index scope)) _ h_elem) (asked_is all (λ e. None) (look.inside index scope) (l elem) t h_elem) kept.inner in
      let same : Some t ≡ Some b = the_same t b (sym (operand_is o) ∙ (sym (ap (λ (k : Look). k.sort scope) (look_is all e x is)) ∙ sort)) in
      over_known (λ (y : Body). body_sort known y ≡ Some (of.Basic b)) (manifest numbers low) (manifest numbers high) otherwise _ lows.0 highs.0 (λ lo n at_n.
      ap (λ c. as_scalar (when c t)) (and_from (has_first o n) _ (ap (has_first o) (sym at_n) ∙ some) (is_of_itself t _ typed_elem)) ∙ ap as_scalar same)

  pub construct_typed : (e : Expr) (index : Named) (low high elem : Expr) (otherwise : Body) → e.node ≡ roll-Node (Node-F.Construct index low high elem) → is_bounded e ≡ true
      → first_refusal ((l e).demands scope) ≡ None → first_refusal (demands_of e (at Whole)) ≡ None → (b : basic.Basic) → (l e).sort scope ≡ of.Array b
      → body_sort known (between numbers low high otherwise (λ lo n. body.Construct index.name lo n (renamed names elem))) ≡ Some (of.Array b)
  construct_typed e index low high elem otherwise is bounded h d b sort =
      let x = Node-F.Construct index low high elem in
      let kept = kept_at (at Whole) e x is d in
      let lows = bound_known numbers low (manifest_demand numbers high ++ demand (nat_le (length_between numbers low high) longest) (RangeTooLong e.place)) kept.ranges in
      let highs = bound_known numbers high (demand (nat_le (length_between numbers low high) longest) (RangeTooLong e.place)) lows.1 in
      let h' = subst (λ (k : Look). first_refusal (k.demands scope) ≡ None) (look_is all e x is) h in
      let inner = look.inside index scope in
      let elem_asked = asked_basic (l elem) inner in
      let none = is_nothing (scope index.name) (head_holds (fresh index scope) (asked (l low) integer scope ++ asked (l high) integer scope) (begin_holds (range_asked index low high) elem_asked h')) in
      let h_elem = rest_holds (range_asked index low high) elem_asked h' in
      let found = basic_is ((l elem).sort inner) (head_holds (types.demand (is_basic ((l elem).sort inner)) (WrongType (l elem).place)) []
      (rest_holds ((l elem).demands inner) (types.demand (is_basic ((l elem).sort inner)) (WrongType (l elem).place) ∷ []) h_elem)) in
      let bounds = and_parts (is_bounded high) (is_bounded elem) (and_parts (is_bounded low) _ (sym (bounds_at e x is) ∙ bounded)).1 in
      let typed_elem = elem_typed index elem found.0 none bounds.1 (begin_holds ((l elem).demands inner) _ h_elem) found.1 kept.inner in
      let same : of.Array found.0 ≡ of.Array b = sym (ap array_of found.1) ∙ (sym (ap (λ (k : Look). k.sort scope) (look_is all e x is)) ∙ sort) in
      over_known (λ (y : Body). body_sort known y ≡ Some (of.Array b)) (manifest numbers low) (manifest numbers high) otherwise _ lows.0 highs.0 (λ lo n at_n.
      ap as_array typed_elem ∙ ap (λ (s : Sort). Some s) same)
