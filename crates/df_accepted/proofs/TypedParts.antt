-- A scalar expression of an accepted source has its type in blocks.
use Rattle.std.proofs.Common.{arith, length, ◌≡◌, Bool, true, false, not, if◌then◌else◌, ◌&&◌, List, [], ◌∷◌, ◌++◌, map, fold, refl, sym, ◌∙◌, ap, subst, Option, Some, None}
use Rattle.std.specs.Prelude.{flat_map}
use Rattle.std.proofs.lemmas.Bool.{and_parts, and_from}
use Rattle.std.proofs.lemmas.List.{length-map}
use Rattle.df_values.specs.declared.kinds.Op.{Op}
use Rattle.df_values.specs.declared.values.Basic as basic
use Rattle.df_syntax.specs.declared.form.Form.TheVariants as rule
use Rattle.df_syntax.specs.declared.tree.Named.{Named}
use Rattle.df_syntax.specs.declared.tree.Sort.{Sort}
use Rattle.df_syntax.specs.declared.tree.Sort.TheVariants as of
use Rattle.df_syntax.specs.declared.tree.Expr.{Expr}
use Rattle.df_syntax.specs.declared.tree.Link.{Link}
use Rattle.df_syntax.specs.declared.tree.Arm.{Arm}
use Rattle.df_syntax.specs.declared.tree.Definition.{Definition}
use Rattle.df_syntax.specs.declared.tree.Node.{roll-Node, out-Node}
use Rattle.df_syntax.specs.declared.tree.Node.TheOpen.{Node-F}
use Rattle.df_syntax.specs.declared.program.Function.{Function}
use Rattle.df_syntax.specs.Demands.{first_refusal}
use Rattle.df_syntax.specs.Meaning.{Name}
use Rattle.df_syntax.specs.SourceForms.{Numbers, form}
use Rattle.df_syntax.specs.TreeInduction.{Proved, without, tree_induction}
use Rattle.df_syntax.specs.WellBuilt.{is_bounded, has_one_level, all_true, is_some_list, is_two_place}
use Rattle.df_syntax.specs.WellShaped as shaped
use Rattle.df_syntax.specs.WellShaped.{with_name, defines, only_type, is_index}
use Rattle.df_syntax.proofs.FirstRefusals.{begin_holds, rest_holds, head_holds, tail_holds}
use Rattle.df_types.specs.declared.answers.CheckAnswer.TheVariants.{WrongType}
use Rattle.df_types.specs.declared.entry.Entry.TheVariants as entry
use Rattle.df_types.specs.Demands as types
use Rattle.df_types.specs.Scopes as scopes
use Rattle.df_types.specs.Scopes.{bound}
use Rattle.df_types.specs.Sorts.{integer, boolean, is_array, array_of, element_of, chain_sort, is_equality, is_of_any, value_sort}
use Rattle.df_types.specs.Types.{Look, look_of, asked, asked_operand, operand_sort, asked_each, asked_links, asked_arms, if_sort, fresh, known, known_array, definition_demands, defined}
use Rattle.df_names.specs.Maps.{bind}
use Rattle.df_shape.specs.declared.part.Part.{Part}
use Rattle.df_shape.specs.declared.part.Part.TheVariants.{Defined}
use Rattle.df_shape.specs.declared.answers.ShapeAnswer.TheVariants.{NotPiped}
use Rattle.df_shape.specs.Demands as shape
use Rattle.df_shape.specs.Demands.{Around, demand, operand_part, inside, may_be_block, demands_of, definition_part, definitions_demands, all_of}
use Rattle.df_shape.specs.Renamed.{Names}
use Rattle.df_shape.proofs.BoundsKnown.{form_plain, form_parens}
use Rattle.df_shape.proofs.Opened.{rolled_from}
use Rattle.df_accepted.proofs.Agreed.{Agrees, Sorts, agrees_inside}
use Rattle.df_accepted.proofs.FormDemands.{HasIndex, still_has, has_behind, no_index, same_subscripts, still_stands, no_block, is_block, is_nothing, one_holds, kept_at}
use Rattle.df_accepted.proofs.Forms.{around}
use Rattle.df_accepted.proofs.ManifestParts.{NumbersStand}
use Rattle.df_accepted.proofs.Subscripted.{StandsIn, subscripts_of, accepted}
use Rattle.df_accepted.proofs.Told.{told, bounds_at, levels_same}
use Rattle.df_accepted.proofs.TypedForms as typed
use Rattle.df_accepted.proofs.TypedForms.{is_of_itself}
use Rattle.df_accepted.proofs.TypedNodes as node

-- ---- expressions

no_scalar : (s : Sort) (b : basic.Basic) → array_of s ≡ of.Basic b → ⊥
no_scalar (of.Basic c) b is = cc
no_scalar (of.Array c) b is = cc

module _ (all functions : List Function) (numbers : Numbers) (names : Names) (stand : NumbersStand numbers names) (arrays callable gives : Name → Bool) where
  abbrev l : Expr → Look
  l = look_of all

  abbrev pub here : Part → Around
  here part = record { numbers = numbers; arrays = arrays; callable = callable; gives = gives; part = part }

  abbrev pub Typed : Expr → Type 0
  Typed e = (scope : scopes.Names) (sorts : Sorts) (part : Part) → Agrees all functions callable names scope sorts → StandsIn names part → HasIndex scope part → is_bounded e ≡ true
      → first_refusal ((look_of all e).demands scope) ≡ None → first_refusal (demands_of e (here part)) ≡ None
      → (may_be_block part ≡ true → is_block (form e) ≡ false)
      → node.Has all names scope (around sorts functions (subscripts_of part)) e

  -- no array is defined inside an expression
  never_defined : (e : Expr) → first_refusal (demands_of e (here Defined)) ≡ None → ⊥
  never_defined e h = let none : Some (NotPiped rule.ArrayDefinition e.place) ≡ None = (kept_at (here Defined) e (out-Node e.node) (rolled_from e.node) h).defines in cc

  module _ (part : Part) (stands : StandsIn names part) where
    abbrev target : Sorts → shaped.Around
    target sorts = around sorts functions (subscripts_of part)

    module _ (scope : scopes.Names) (sorts : Sorts) (agrees : Agrees all functions callable names scope sorts) (indexed : HasIndex scope part) where
      abbrev Has : Expr → Type 0
      Has = node.Has all names scope (target sorts)

      operand : (e : (e : Expr) × Typed e) → is_bounded e.0 ≡ true → first_refusal ((l e.0).demands scope) ≡ None → first_refusal (demands_of e.0 (inside (here part))) ≡ None → Has e.0
      operand e bounded h d =
          subst (λ (u : shaped.Subscripts). node.Has all names scope (around sorts functions u) e.0) (same_subscripts part)
          (e.1 scope sorts (operand_part part) agrees (still_stands names part stands) (still_has scope part indexed) bounded h d (λ may. let bad : false ≡ true = sym (no_block part) ∙ may in absurd (cc)))

      asked_operand_has : (e : (e : Expr) × Typed e) (s : Sort) → is_bounded e.0 ≡ true → first_refusal (asked (l e.0) s scope) ≡ None → first_refusal (demands_of e.0 (inside (here part))) ≡ None → Has e.0
      asked_operand_has e s bounded h d = operand e bounded (begin_holds ((l e.0).demands scope) _ h) d

      -- ---- lists of parts

      links_have : (rest : List ((k : Link) × Typed k.operand)) (s : Sort)
          → all_true (map (λ (p : Op × Bool). p.1) (map {B = Op × Bool} (λ (k : Link). (k.op, is_bounded k.operand)) (map (λ k. k.0) rest))) ≡ true
          → first_refusal (asked_links s (map {B = Op × Look} (λ (k : Link). (k.op, l k.operand)) (map (λ k. k.0) rest)) scope) ≡ None
          → first_refusal (flat_map (λ (k : Op × (Expr × shape.Look)). k.1.1 (inside (here part))) (map {B = Op × (Expr × shape.Look)} (λ (k : Link). (k.op, (k.operand, demands_of k.operand))) (map (λ k. k.0) rest))) ≡ None
          → typed.LinksHave all (node.type_told all names scope (target sorts)) scope (map (λ k. k.0) rest)
      links_have [] s bounded h d = tt
      links_have (k ∷ rest) s bounded h d =
          let bounds = and_parts (is_bounded k.0.operand) _ bounded in
          let others = asked_links s (map {B = Op × Look} (λ (k : Link). (k.op, l k.operand)) (map (λ k. k.0) rest)) scope in
          let own = demands_of k.0.operand (inside (here part)) in (
            asked_operand_has (k.0.operand, k.1) s bounds.0 (begin_holds (asked (l k.0.operand) s scope) others h) (begin_holds own _ d),
            links_have rest s bounds.1 (rest_holds (asked (l k.0.operand) s scope) others h) (rest_holds own _ d),
          )

      arms_have : (arms : List ((a : Arm) × (Typed a.test × Typed a.value))) (s : Sort)
          → all_true (map (λ (a : Bool × Bool). a.0 && a.1) (map {B = Bool × Bool} (λ (a : Arm). (is_bounded a.test, is_bounded a.value)) (map (λ a. a.0) arms))) ≡ true
          → first_refusal (asked_arms s (map {B = Look × Look} (λ (a : Arm). (l a.test, l a.value)) (map (λ a. a.0) arms)) scope) ≡ None
          → first_refusal (flat_map (λ (a : (Expr × shape.Look) × (Expr × shape.Look)). a.0.1 (inside (here part)) ++ a.1.1 (inside (here part)))
          (map {B = (Expr × shape.Look) × (Expr × shape.Look)} (λ (a : Arm). ((a.test, demands_of a.test), (a.value, demands_of a.value))) (map (λ a. a.0) arms))) ≡ None
          → typed.ArmsHave all (node.type_told all names scope (target sorts)) scope (map (λ a. a.0) arms)
      arms_have [] s bounded h d = tt
      arms_have (a ∷ arms) s bounded h d =
          let bounds = and_parts (is_bounded a.0.test && is_bounded a.0.value) _ bounded in
          let both = and_parts (is_bounded a.0.test) (is_bounded a.0.value) bounds.0 in
          let others = asked_arms s (map {B = Look × Look} (λ (a : Arm). (l a.test, l a.value)) (map (λ a. a.0) arms)) scope in
          let one = asked (l a.0.test) boolean scope ++ asked (l a.0.value) s scope in
          let own = demands_of a.0.test (inside (here part)) ++ demands_of a.0.value (inside (here part)) in
          let h' = begin_holds one others h in
          let d' = begin_holds own _ d in (
            (
              asked_operand_has (a.0.test, a.1.0) boolean both.0 (begin_holds (asked (l a.0.test) boolean scope) (asked (l a.0.value) s scope) h')
                  (begin_holds (demands_of a.0.test (inside (here part))) (demands_of a.0.value (inside (here part))) d'),
              asked_operand_has (a.0.value, a.1.1) s both.1 (rest_holds (asked (l a.0.test) boolean scope) (asked (l a.0.value) s scope) h')
                  (rest_holds (demands_of a.0.test (inside (here part))) (demands_of a.0.value (inside (here part))) d'),
            ),
            arms_have arms s bounds.1 (rest_holds one others h) (rest_holds own _ d),
          )

      -- as many arguments as there are types
      all_have : (es : List ((e : Expr) × Typed e)) (ss : List Sort) → length (map l (map (λ e. e.0) es)) ≡ length ss → all_true (map is_bounded (map (λ e. e.0) es)) ≡ true
          → first_refusal (asked_each (map l (map (λ e. e.0) es)) ss scope) ≡ None
          → first_refusal (all_of (map {B = Expr × shape.Look} (λ c. (c, demands_of c)) (map (λ e. e.0) es)) (inside (here part))) ≡ None
          → typed.AllHave all (node.type_told all names scope (target sorts)) scope (map (λ e. e.0) es)
      all_have [] ss many bounded h d = tt
      all_have (e ∷ es) [] many bounded h d = absurd (omega (arith, many))
      all_have (e ∷ es) (s ∷ ss) many bounded h d =
          let bounds = and_parts (is_bounded e.0) _ bounded in
          let own = demands_of e.0 (inside (here part)) in (
            asked_operand_has e s bounds.0 (begin_holds (asked (l e.0) s scope) (asked_each (map l (map (λ e. e.0) es)) ss scope) h) (begin_holds own _ d),
            all_have es ss (omega (arith, many)) bounds.1 (rest_holds (asked (l e.0) s scope) (asked_each (map l (map (λ e. e.0) es)) ss scope) h) (rest_holds own _ d),
          )

      two_have : (left right : (e : Expr) × Typed e) → (is_bounded left.0 && is_bounded right.0) ≡ true → first_refusal ((l left.0).demands scope) ≡ None → first_refusal ((l right.0).demands scope) ≡ None
          → first_refusal (demands_of left.0 (inside (here part)) ++ demands_of right.0 (inside (here part))) ≡ None → Has left.0 × Has right.0
      two_have left right bounded h k d =
          let bounds = and_parts (is_bounded left.0) (is_bounded right.0) bounded in (
            operand left bounds.0 h (begin_holds (demands_of left.0 (inside (here part))) (demands_of right.0 (inside (here part))) d),
            operand right bounds.1 k (rest_holds (demands_of left.0 (inside (here part))) (demands_of right.0 (inside (here part))) d),
          )

    -- ---- definitions

    abbrev asked_definitions : List ((d : Definition) × Typed d.value) → List (Named × Sort × Look)
    asked_definitions ds = map {B = Named × Sort × Look} (λ (d : Definition). (d.name, d.sort, l d.value)) (map (λ d. d.0) ds)

    abbrev told_definitions : List ((d : Definition) × Typed d.value) → List (Named × Sort × shaped.Look)
    told_definitions ds = map {B = Named × Sort × shaped.Look} (λ (d : Definition). (d.name, d.sort, told names d.value)) (map (λ d. d.0) ds)

    -- the value of a `let`, behind its definitions
    let_has : (ds : List ((d : Definition) × Typed d.value)) (v : (e : Expr) × Typed e) (scope : scopes.Names) (sorts : Sorts) → Agrees all functions callable names scope sorts → HasIndex scope part
        → all_true (map (λ (d : Named × Sort × Bool). d.2) (map {B = Named × Sort × Bool} (λ (d : Definition). (d.name, d.sort, is_bounded d.value)) (map (λ d. d.0) ds))) ≡ true
        → is_bounded v.0 ≡ true
        → first_refusal (definition_demands (asked_definitions ds) scope) ≡ None → first_refusal ((l v.0).demands (bound (defined (asked_definitions ds)) scope)) ≡ None
        → first_refusal (definitions_demands (inside (here part)) (map {B = Named × Sort × (Expr × shape.Look)} (λ (d : Definition). (d.name, d.sort, (d.value, demands_of d.value))) (map (λ d. d.0) ds))) ≡ None
        → first_refusal (demands_of v.0 (inside (here part))) ≡ None
        → (b : basic.Basic) → (l v.0).sort (bound (defined (asked_definitions ds)) scope) ≡ of.Basic b
        → only_type (told names v.0 ∷ []) (fold defines (Some (target sorts)) (told_definitions ds)) ≡ Some b
    let_has [] v scope sorts agrees indexed ds_bounded bounded h k d e b is = operand scope sorts agrees indexed v bounded k e b is
    let_has (x ∷ ds) v scope sorts agrees indexed ds_bounded bounded h k d e b is =
        let bounds = and_parts (is_bounded x.0.value) _ ds_bounded in
        let inner = bind scope x.0.name.name (entry.Local x.0.sort) in
        let own = asked (l x.0.value) x.0.sort scope in
        let others = definition_demands (asked_definitions ds) inner in
        let fresh_name = is_nothing (scope x.0.name.name) (head_holds (fresh x.0.name scope) (own ++ others) h) in
        let h' = tail_holds (fresh x.0.name scope) (own ++ others) h in
        let first = demands_of x.0.value (record (inside (here part)) { part = definition_part x.0.sort (operand_part part) }) in
        let typed_here = by x.0.sort bounds.0 (begin_holds own others h') (begin_holds first _ d) in
        let allowed =
        and_from (shaped.is_basic x.0.sort ((told names x.0.value).type_in (target sorts))) (not (is_index (subscripts_of part) x.0.name.name)) typed_here
        (no_index scope part x.0.name.name indexed fresh_name) in
        ap (λ (a : Option shaped.Around). only_type (told names v.0 ∷ []) (fold defines a (told_definitions ds)))
        (ap (λ t. if t then Some (with_name (target sorts) x.0.name.name x.0.sort) else None) allowed)
        ∙ let_has ds v inner (sorts ++ (x.0.name.name, x.0.sort) ∷ []) (agrees_inside all functions callable names scope sorts agrees x.0.name.name x.0.sort fresh_name)
        (has_behind scope part x.0.name.name (entry.Local x.0.sort) indexed) bounds.1 bounded (rest_holds own others h') k (rest_holds first _ d) e b is
      where
        by : (s : Sort) → is_bounded x.0.value ≡ true → first_refusal (asked (l x.0.value) s scope) ≡ None
            → first_refusal (demands_of x.0.value (record (inside (here part)) { part = definition_part s (operand_part part) })) ≡ None
            → shaped.is_basic s ((told names x.0.value).type_in (target sorts)) ≡ true
        by (of.Basic c) bound_here asked_here demanded =
            is_of_itself c _ (typed.asked_has all (node.type_told all names scope (target sorts)) scope x.0.value c
            (operand scope sorts agrees indexed (x.0.value, x.1) bound_here (begin_holds ((l x.0.value).demands scope) _ asked_here) demanded) asked_here)
        by (of.Array c) bound_here asked_here demanded = absurd (never_defined x.0.value demanded)

  -- ---- all forms

  demands_first : (e : Expr) (any : Bool) (scope : scopes.Names) → first_refusal (asked_operand any (l e) scope) ≡ None → first_refusal ((l e).demands scope) ≡ None
  demands_first e true scope h = begin_holds ((l e).demands scope) _ h
  demands_first e false scope h = begin_holds ((l e).demands scope) _ h

  step : (e : Expr) (y : Proved Typed) → e.node ≡ roll-Node (without Typed y) → Typed e
  step e (Node-F.Number v) is scope sorts part agrees stands indexed bounded h d apart = node.number_typed all names scope (target part stands sorts) e v is
  step e (Node-F.Truth v) is scope sorts part agrees stands indexed bounded h d apart = node.truth_typed all names scope (target part stands sorts) e v is
  step e (Node-F.Error v c) is scope sorts part agrees stands indexed bounded h d apart = node.fault_typed all names scope (target part stands sorts) e v c is
  step e (Node-F.Name name) is scope sorts part agrees stands indexed bounded h d apart = node.name_typed all names scope (target part stands sorts) functions callable agrees e name is h
  step e (Node-F.Access name at) is scope sorts part agrees stands indexed bounded h d apart =
      let kept = kept_at (here part) e (Node-F.Access name at.0) is d in
      let h' = begin_holds ((l at.0).demands scope) _
      (rest_holds (known_array name e.place scope) (asked (l at.0) integer scope) (node.holds_by all names scope (target part stands sorts) e (Node-F.Access name at.0) is h)) in
      let found = accepted numbers names stand all functions callable scope (target part stands sorts) agrees part stands name at.0 (one_holds _ _ kept.subscripts)
      (sym (bounds_at e (Node-F.Access name at.0) is) ∙ bounded) h' in
      node.access_typed all names scope (target part stands sorts) functions callable agrees e name at.0 is h found.0 found.1
  step e (Node-F.Call name es) is scope sorts part agrees stands indexed bounded h d apart =
      let arguments = map (λ a. a.0) es in
      let kept = kept_at (here part) e (Node-F.Call name arguments) is d in
      node.call_typed all names scope (target part stands sorts) functions callable agrees refl e name arguments is h (one_holds _ _ kept.calls)
      (λ f many each. all_have part stands scope sorts agrees indexed es (map (λ p. p.sort) f.parameters) (many ∙ sym (length-map f.parameters (λ p. p.sort)))
      (sym (bounds_at e (Node-F.Call name arguments) is) ∙ bounded) each kept.inner)
  step e (Node-F.Chain first rest) is scope sorts part agrees stands indexed bounded h d apart =
      let links = map (λ k. k.0) rest in
      let kept = kept_at (here part) e (Node-F.Chain first.0 links) is d in
      let s = chain_sort (map {B = Op × Look} (λ (k : Link). (k.op, l k.operand)) links) in
      let bounds = and_parts (is_bounded first.0) _ (sym (bounds_at e (Node-F.Chain first.0 links) is) ∙ bounded) in
      let inner = and_parts (has_one_level (map (λ (p : Op × Bool). p.0) (map {B = Op × Bool} (λ (k : Link). (k.op, is_bounded k.operand)) links))) _ bounds.1 in
      let h' = node.holds_by all names scope (target part stands sorts) e (Node-F.Chain first.0 links) is h in
      let others = asked_links s (map {B = Op × Look} (λ (k : Link). (k.op, l k.operand)) links) scope in
      let own = demands_of first.0 (inside (here part)) in
      node.chain_typed all names scope (target part stands sorts) e first.0 links is (ap has_one_level (sym (levels_same links)) ∙ inner.0) h
      (asked_operand_has part stands scope sorts agrees indexed first s bounds.0 (begin_holds (asked (l first.0) s scope) others h') (begin_holds own _ kept.inner))
      (links_have part stands scope sorts agrees indexed rest s inner.1 (rest_holds (asked (l first.0) s scope) others h') (rest_holds own _ kept.inner))
  step e (Node-F.Compare r left right) is scope sorts part agrees stands indexed bounded h d apart =
      let kept = kept_at (here part) e (Node-F.Compare r left.0 right.0) is d in
      let h' = node.holds_by all names scope (target part stands sorts) e (Node-F.Compare r left.0 right.0) is h in
      let first = asked_operand (is_equality r) (l left.0) scope in
      let second = asked (l right.0) (operand_sort (is_equality r) (l left.0) scope) scope in
      let both = two_have part stands scope sorts agrees indexed left right (sym (bounds_at e (Node-F.Compare r left.0 right.0) is) ∙ bounded)
      (demands_first left.0 (is_equality r) scope (begin_holds first second h')) (begin_holds ((l right.0).demands scope) _ (rest_holds first second h')) kept.inner in
      node.compare_typed all names scope (target part stands sorts) e r left.0 right.0 is h both.0 both.1
  step e (Node-F.Negate of_) is scope sorts part agrees stands indexed bounded h d apart =
      node.negate_typed all names scope (target part stands sorts) e of_.0 is h
      (asked_operand_has part stands scope sorts agrees indexed of_ integer (sym (bounds_at e (Node-F.Negate of_.0) is) ∙ bounded)
      (node.holds_by all names scope (target part stands sorts) e (Node-F.Negate of_.0) is h) (kept_at (here part) e (Node-F.Negate of_.0) is d).inner)
  step e (Node-F.Invert of_) is scope sorts part agrees stands indexed bounded h d apart =
      node.invert_typed all names scope (target part stands sorts) e of_.0 is h
      (asked_operand_has part stands scope sorts agrees indexed of_ boolean (sym (bounds_at e (Node-F.Invert of_.0) is) ∙ bounded)
      (node.holds_by all names scope (target part stands sorts) e (Node-F.Invert of_.0) is h) (kept_at (here part) e (Node-F.Invert of_.0) is d).inner)
  step e (Node-F.Parens of_) is scope sorts part agrees stands indexed bounded h d apart =
      node.parens_typed all names scope (target part stands sorts) e of_.0 is
      (of_.1 scope sorts part agrees stands indexed (sym (bounds_at e (Node-F.Parens of_.0) is) ∙ bounded) (node.holds_by all names scope (target part stands sorts) e (Node-F.Parens of_.0) is h)
      (kept_at (here part) e (Node-F.Parens of_.0) is d).inner (λ may. ap is_block (sym (form_parens e of_.0 is)) ∙ apart may))
  step e (Node-F.Test t of_) is scope sorts part agrees stands indexed bounded h d apart =
      node.test_typed all names scope (target part stands sorts) e t of_.0 is h
      (operand part stands scope sorts agrees indexed of_ (sym (bounds_at e (Node-F.Test t of_.0) is) ∙ bounded)
      (demands_first of_.0 (is_of_any t) scope (node.holds_by all names scope (target part stands sorts) e (Node-F.Test t of_.0) is h)) (kept_at (here part) e (Node-F.Test t of_.0) is d).inner)
  step e (Node-F.TwoPlace o left right) is scope sorts part agrees stands indexed bounded h d apart =
      let kept = kept_at (here part) e (Node-F.TwoPlace o left.0 right.0) is d in
      let h' = node.holds_by all names scope (target part stands sorts) e (Node-F.TwoPlace o left.0 right.0) is h in
      let bounds = and_parts (is_two_place o) _ (sym (bounds_at e (Node-F.TwoPlace o left.0 right.0) is) ∙ bounded) in
      let first = asked (l left.0) integer scope in
      let second = asked (l right.0) integer scope in
      let both = two_have part stands scope sorts agrees indexed left right bounds.1
      (begin_holds ((l left.0).demands scope) _ (begin_holds first second h')) (begin_holds ((l right.0).demands scope) _ (rest_holds first second h')) kept.inner in
      node.two_place_typed all names scope (target part stands sorts) e o left.0 right.0 is bounds.0 h both.0 both.1
  step e (Node-F.If arms last) is scope sorts part agrees stands indexed bounded h d apart =
      let plain_arms = map (λ a. a.0) arms in
      let kept = kept_at (here part) e (Node-F.If plain_arms last.0) is d in
      let h' = node.holds_by all names scope (target part stands sorts) e (Node-F.If plain_arms last.0) is h in
      let asked_of = map {B = Look × Look} (λ (a : Arm). (l a.test, l a.value)) plain_arms in
      let s = if_sort asked_of (l last.0) scope in
      let bools = map (λ (a : Bool × Bool). a.0 && a.1) (map {B = Bool × Bool} (λ (a : Arm). (is_bounded a.test, is_bounded a.value)) plain_arms) in
      let bounds = and_parts (all_true bools) (is_bounded last.0) (and_parts (is_some_list bools) _ (sym (bounds_at e (Node-F.If plain_arms last.0) is) ∙ bounded)).1 in
      let own = flat_map (λ (a : (Expr × shape.Look) × (Expr × shape.Look)). a.0.1 (inside (here part)) ++ a.1.1 (inside (here part)))
      (map {B = (Expr × shape.Look) × (Expr × shape.Look)} (λ (a : Arm). ((a.test, demands_of a.test), (a.value, demands_of a.value))) plain_arms) in
      node.if_typed all names scope (target part stands sorts) e plain_arms last.0 is h
      (arms_have part stands scope sorts agrees indexed arms s bounds.0 (begin_holds (asked_arms s asked_of scope) (asked (l last.0) s scope) h') (begin_holds own _ kept.inner))
      (asked_operand_has part stands scope sorts agrees indexed last s bounds.1 (rest_holds (asked_arms s asked_of scope) (asked (l last.0) s scope) h') (rest_holds own _ kept.inner))
  step e (Node-F.Let ds []) is scope sorts part agrees stands indexed bounded h d apart =
      let h' = node.holds_by all names scope (target part stands sorts) e (Node-F.Let (map (λ x. x.0) ds) []) is h in
      absurd (cc)
  step e (Node-F.Let ds (v ∷ w ∷ vs)) is scope sorts part agrees stands indexed bounded h d apart =
      let h' = node.holds_by all names scope (target part stands sorts) e (Node-F.Let (map (λ x. x.0) ds) (map (λ x. x.0) (v ∷ w ∷ vs))) is h in
      absurd (cc)
  step e (Node-F.Let ds (v ∷ [])) is scope sorts part agrees stands indexed bounded h d apart =
      let x = Node-F.Let (map (λ x. x.0) ds) (v.0 ∷ []) in
      let kept = kept_at (here part) e x is d in
      let h' = node.holds_by all names scope (target part stands sorts) e x is h in
      let bools = map (λ (d : Named × Sort × Bool). d.2) (map {B = Named × Sort × Bool} (λ (d : Definition). (d.name, d.sort, is_bounded d.value)) (map (λ d. d.0) ds)) in
      let some = and_parts (is_some_list bools) _ (sym (bounds_at e x is) ∙ bounded) in
      let bounds = and_parts (all_true bools) _ some.1 in
      let own = definitions_demands (inside (here part)) (map {B = Named × Sort × (Expr × shape.Look)} (λ (d : Definition). (d.name, d.sort, (d.value, demands_of d.value))) (map (λ d. d.0) ds)) in
      let named = definition_demands (asked_definitions part stands ds) scope in
      let value = (l v.0).demands (bound (defined (asked_definitions part stands ds)) scope) in
      node.has_by all names scope (target part stands sorts) e x is (λ b at.
      let_has part stands ds v scope sorts agrees indexed bounds.0 (and_parts (is_bounded v.0) true bounds.1).0 (begin_holds named value h') (rest_holds named value h')
      (begin_holds own _ kept.inner) (begin_holds (demands_of v.0 (inside (here part))) [] (rest_holds own _ kept.inner)) b at)
  step e (Node-F.Construct index low high elem) is scope sorts part agrees stands indexed bounded h d apart =
      node.has_by all names scope (target part stands sorts) e (Node-F.Construct index low.0 high.0 elem.0) is (λ b at. absurd (no_scalar _ b at))
  step e (Node-F.Fold index low high o elem) is scope sorts part agrees stands indexed bounded h d apart =
      let x = Node-F.Fold index low.0 high.0 o elem.0 in
      let block = apart (one_holds _ _ (kept_at (here part) e x is d).blocks) in
      let same : is_block (form e) ≡ true = ap is_block (form_plain e x is (λ of q. cc)) in
      absurd (cc)
  step e (Node-F.For ds asked_test assigns last) is scope sorts part agrees stands indexed bounded h d apart =
      let x = Node-F.For (map (λ a. a.0) ds) asked_test.0 (map (λ a. a.0) assigns) last.0 in
      let block = apart (one_holds _ _ (kept_at (here part) e x is d).blocks) in
      let same : is_block (form e) ≡ true = ap is_block (form_plain e x is (λ of q. cc)) in
      absurd (cc)
  step e (Node-F.Array at value) is scope sorts part agrees stands indexed bounded h d apart =
      node.has_by all names scope (target part stands sorts) e (Node-F.Array at.0 value.0) is (λ b at. absurd (no_scalar _ b at))
  step e (Node-F.Update name at value) is scope sorts part agrees stands indexed bounded h d apart =
      let x = Node-F.Update name at.0 value.0 in
      let h' = node.holds_by all names scope (target part stands sorts) e x is h in
      let array = head_holds (types.demand (is_array (value_sort (scope name))) (WrongType e.place)) []
      (tail_holds (known name e.place scope) (types.demand (is_array (value_sort (scope name))) (WrongType e.place) ∷ [])
      (begin_holds (known_array name e.place scope) (asked (l at.0) integer scope ++ asked (l value.0) (element_of (value_sort (scope name))) scope) h')) in
      node.has_by all names scope (target part stands sorts) e x is (λ b sort. let bad : true ≡ false = sym array ∙ ap is_array sort in absurd (cc))

  -- a scalar expression has its type in blocks
  pub part_typed : (e : Expr) → Typed e
  part_typed = tree_induction Typed step
