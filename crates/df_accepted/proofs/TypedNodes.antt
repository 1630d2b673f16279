-- The type that an expression has in blocks, by its node, from the types of its parts.
use Rattle.std.proofs.Common.{◌≡◌, ℕ, ℤ, Bool, true, false, ◌&&◌, ◌==◌, List, [], ◌∷◌, map, length, refl, sym, ◌∙◌, ap, subst, Option, Some, None, slice_get}
use Rattle.std.specs.List.{list_all}
use Rattle.std.proofs.lemmas.Bool.{and_from, and_parts, eqb-true}
use Rattle.std.proofs.lemmas.Simd.{map-map}
use Rattle.df_values.specs.declared.values.Basic as basic
use Rattle.df_values.specs.declared.values.Basic.TheVariants.{Integer, Boolean}
use Rattle.df_values.specs.declared.values.ErrorValue.{ErrorValue}
use Rattle.df_values.specs.declared.kinds.Op.{Op}
use Rattle.df_values.specs.declared.kinds.Rel.{Rel}
use Rattle.df_values.specs.declared.kinds.Test.{Test}
use Rattle.df_syntax.specs.declared.tree.Sort.TheVariants as of
use Rattle.df_syntax.specs.declared.tree.Expr.{Expr}
use Rattle.df_syntax.specs.declared.tree.Link.{Link}
use Rattle.df_syntax.specs.declared.tree.Arm.{Arm}
use Rattle.df_syntax.specs.declared.tree.Node.{roll-Node}
use Rattle.df_syntax.specs.declared.tree.Node.TheOpen.{Node-F}
use Rattle.df_syntax.specs.declared.program.Function.{Function}
use Rattle.df_syntax.specs.Demands.{first_refusal}
use Rattle.df_syntax.specs.Meaning.{Name}
use Rattle.df_syntax.specs.Trees.{Opened, layer_of}
use Rattle.df_syntax.specs.WellBuilt.{has_one_level, is_two_place}
use Rattle.df_syntax.specs.WellShaped as shaped
use Rattle.df_syntax.specs.WellShaped.{Around, is_of, is_alike, when, joined_type, chain_type, call_type, arguments_fit, only_result, is_accepted}
use Rattle.df_syntax.proofs.FirstRefusals.{begin_holds, rest_holds, head_holds, tail_holds}
use Rattle.df_types.specs.declared.answers.CheckAnswer.TheVariants.{WrongType, WrongArity, UnknownName}
use Rattle.df_types.specs.declared.entry.Entry.{Entry}
use Rattle.df_types.specs.declared.entry.Entry.TheVariants as entry
use Rattle.df_types.specs.Demands.{Demand, demand}
use Rattle.df_types.specs.Scopes as scopes
use Rattle.df_types.specs.Sorts.{integer, is_array, element_of, value_sort}
use Rattle.df_types.specs.Types.{Look, look_of, node_sort, node_demands, asked, asked_each, known, known_array, function_at, call_demands, call_sort}
use Rattle.df_types.proofs.Looks.{look_is}
use Rattle.df_shape.specs.declared.standing.Standing.{Standing}
use Rattle.df_shape.specs.declared.standing.Standing.TheVariants as standing
use Rattle.df_shape.specs.Renamed.{Names, array_name}
use Rattle.df_accepted.proofs.Agreed.{Agrees, name_type}
use Rattle.df_accepted.proofs.Told.{told, told_at, node_told, value_look}
use Rattle.df_accepted.proofs.TypedForms as form
use Rattle.df_accepted.proofs.TypedForms.{the_same, is_of_itself, array_is}
use Rattle.df_accepted.proofs.TypesKept.{guarded}

module _ (all : List Function) (names : Names) (scope : scopes.Names) (around : Around) where
  abbrev l : Expr → Look
  l = look_of all

  -- the type of an expression in blocks
  abbrev pub type_told : Expr → Option basic.Basic
  type_told e = (told names e).type_in around

  abbrev pub Has : Expr → Type 0
  Has = form.Has all type_told scope

  abbrev pub Holds : List Demand → Type 0
  Holds ds = first_refusal ds ≡ None

  -- by what the node tells
  pub has_by : (e : Expr) (x : Opened) → e.node ≡ roll-Node x
      → ((b : basic.Basic) → node_sort all (layer_of Look l x) scope ≡ of.Basic b → (node_told names (layer_of shaped.Look (told names) x)).type_in around ≡ Some b) → Has e
  has_by e x is h b at =
      ap (λ (t : shaped.Look). t.type_in around) (told_at names e x is) ∙ h b (sym (ap (λ (k : Look). k.sort scope) (look_is all e x is)) ∙ at)

  pub holds_by : (e : Expr) (x : Opened) → e.node ≡ roll-Node x → Holds ((l e).demands scope) → Holds (node_demands all e.place (layer_of Look l x) scope)
  holds_by e x is h = subst (λ (k : Look). Holds (k.demands scope)) (look_is all e x is) h

  -- ---- literals

  pub number_typed : (e : Expr) (v : ℤ) → e.node ≡ roll-Node (Node-F.Number v) → Has e
  number_typed e v is = has_by e (Node-F.Number v) is (λ b at. the_same Integer b at)

  pub truth_typed : (e : Expr) (v : Bool) → e.node ≡ roll-Node (Node-F.Truth v) → Has e
  truth_typed e v is = has_by e (Node-F.Truth v) is (λ b at. the_same Boolean b at)

  pub fault_typed : (e : Expr) (v : ErrorValue) (c : basic.Basic) → e.node ≡ roll-Node (Node-F.Error v c) → Has e
  fault_typed e v c is = has_by e (Node-F.Error v c) is (λ b at. the_same c b at)

  -- ---- operators

  links_told : (rest : List Link) (a : Option basic.Basic)
      → chain_type around a (map {B = Op × shaped.Look} (λ (k : Link). (k.op, told names k.operand)) rest) ≡ form.link_types all type_told scope a rest
  links_told [] a = refl
  links_told (k ∷ rest) a = links_told rest (joined_type k.op a (type_told k.operand))

  pub chain_typed : (e first : Expr) (rest : List Link) → e.node ≡ roll-Node (Node-F.Chain first rest) → has_one_level (map (λ (k : Link). k.op) rest) ≡ true
      → Holds ((l e).demands scope) → Has first → form.LinksHave all type_told scope rest → Has e
  chain_typed e first rest is level h has have =
      has_by e (Node-F.Chain first rest) is (λ b at. links_told rest (type_told first)
      ∙ form.chain_has all type_told scope first rest level has have (holds_by e (Node-F.Chain first rest) is h) b at)

  pub compare_typed : (e : Expr) (r : Rel) (left right : Expr) → e.node ≡ roll-Node (Node-F.Compare r left right) → Holds ((l e).demands scope) → Has left → Has right → Has e
  compare_typed e r left right is h a b =
      has_by e (Node-F.Compare r left right) is (λ c at. ap (λ t. when t Boolean) (form.may_be_compared all type_told scope r left right a b (holds_by e (Node-F.Compare r left right) is h))
      ∙ the_same Boolean c at)

  pub negate_typed : (e of_ : Expr) → e.node ≡ roll-Node (Node-F.Negate of_) → Holds ((l e).demands scope) → Has of_ → Has e
  negate_typed e of_ is h a =
      has_by e (Node-F.Negate of_) is (λ c at. ap (λ t. when t Integer)
      (is_of_itself Integer _ (form.asked_has all type_told scope of_ Integer a (holds_by e (Node-F.Negate of_) is h))) ∙ the_same Integer c at)

  pub invert_typed : (e of_ : Expr) → e.node ≡ roll-Node (Node-F.Invert of_) → Holds ((l e).demands scope) → Has of_ → Has e
  invert_typed e of_ is h a =
      has_by e (Node-F.Invert of_) is (λ c at. ap (λ t. when t Boolean)
      (is_of_itself Boolean _ (form.asked_has all type_told scope of_ Boolean a (holds_by e (Node-F.Invert of_) is h))) ∙ the_same Boolean c at)

  pub parens_typed : (e of_ : Expr) → e.node ≡ roll-Node (Node-F.Parens of_) → Has of_ → Has e
  parens_typed e of_ is a = has_by e (Node-F.Parens of_) is a

  pub test_typed : (e : Expr) (t : Test) (of_ : Expr) → e.node ≡ roll-Node (Node-F.Test t of_) → Holds ((l e).demands scope) → Has of_ → Has e
  test_typed e t of_ is h a =
      has_by e (Node-F.Test t of_) is (λ c at. ap (λ s. when s Boolean) (form.may_be_tested all type_told scope t of_ a (holds_by e (Node-F.Test t of_) is h)) ∙ the_same Boolean c at)

  pub two_place_typed : (e : Expr) (o : Op) (left right : Expr) → e.node ≡ roll-Node (Node-F.TwoPlace o left right) → is_two_place o ≡ true
      → Holds ((l e).demands scope) → Has left → Has right → Has e
  two_place_typed e o left right is two h a b =
      has_by e (Node-F.TwoPlace o left right) is (λ c at. form.two_place_has all type_told scope o left right two a b (holds_by e (Node-F.TwoPlace o left right) is h)
      ∙ the_same Integer c at)

  arms_told : (last : Option basic.Basic) (arms : List Arm)
      → list_all (λ (arm : shaped.Look × shaped.Look). is_of Boolean (arm.0.type_in around) && is_alike (arm.1.type_in around) last)
      (map {B = shaped.Look × shaped.Look} (λ (a : Arm). (told names a.test, told names a.value)) arms)
      ≡ form.arms_fit all type_told scope last arms
  arms_told last [] = refl
  arms_told last (a ∷ arms) = ap (λ b. (is_of Boolean (type_told a.test) && is_alike (type_told a.value) last) && b) (arms_told last arms)

  pub if_typed : (e : Expr) (arms : List Arm) (last : Expr) → e.node ≡ roll-Node (Node-F.If arms last) → Holds ((l e).demands scope)
      → form.ArmsHave all type_told scope arms → Has last → Has e
  if_typed e arms last is h have has =
      has_by e (Node-F.If arms last) is (λ b at.
      let found = form.if_has all type_told scope arms last have has (holds_by e (Node-F.If arms last) is h) b at in
      guarded _ (type_told last) b (arms_told (type_told last) arms ∙ found.0) found.1)

  -- ---- names

  module _ (functions : List Function) (callable : Name → Bool) (agrees : Agrees all functions callable names scope around.names) where
    name_is : (name : Name) (s : Option Standing) → (value_look name s).type_in around ≡ name_type around.names name s
    name_is name None = refl
    name_is name (Some (standing.Scalar o)) = refl
    name_is name (Some (standing.Constant k)) = refl
    name_is name (Some (standing.Array o other)) = refl

    pub name_typed : (e : Expr) (name : Name) → e.node ≡ roll-Node (Node-F.Name name) → Holds ((l e).demands scope) → Has e
    name_typed e name is h =
        has_by e (Node-F.Name name) is (λ b at. name_is name (names name)
        ∙ agrees.values name (of.Basic b) (head_holds (known name e.place scope) [] (holds_by e (Node-F.Name name) is h)) at)

    pub access_typed : (e : Expr) (name : Name) (at : Expr) → e.node ≡ roll-Node (Node-F.Access name at) → Holds ((l e).demands scope)
        → is_accepted around.subscripts (array_name name (names name)) (told names at) ≡ true → Has at → Has e
    access_typed e name at is h accepted has =
        let h' = holds_by e (Node-F.Access name at) is h in
        let array = begin_holds (known_array name e.place scope) (asked (l at) integer scope) h' in
        let value = head_holds (known name e.place scope) (demand (is_array (value_sort (scope name))) (WrongType e.place) ∷ []) array in
        let found = array_is (value_sort (scope name)) (head_holds (demand (is_array (value_sort (scope name))) (WrongType e.place)) []
        (tail_holds (known name e.place scope) (demand (is_array (value_sort (scope name))) (WrongType e.place) ∷ []) array)) in
        let index = form.asked_has all type_told scope at Integer has (rest_holds (known_array name e.place scope) (asked (l at) integer scope) h') in
        has_by e (Node-F.Access name at) is (λ b sort.
        guarded _ _ b (and_from _ _ accepted (is_of_itself Integer _ index))
        (agrees.values name (of.Array found.0) value found.1 ∙ the_same found.0 b (sym (ap element_of found.1) ∙ sort)))

    -- ---- calls

    pub call_typed : around.functions ≡ functions → (e : Expr) (name : Name) (es : List Expr) → e.node ≡ roll-Node (Node-F.Call name es) → Holds ((l e).demands scope)
        → callable name ≡ true
        → ((f : Function) → length (map l es) ≡ length f.parameters → Holds (asked_each (map l es) (map (λ p. p.sort) f.parameters) scope) → form.AllHave all type_told scope es)
        → Has e
    call_typed same e name es is h may have = by (scope name) refl
      where
        demanded : (o : Option Entry) → scope name ≡ o → Holds (call_demands (function_at all o) name e.place (map l es) scope)
        demanded o at = subst (λ (p : Option Entry). Holds (call_demands (function_at all p) name e.place (map l es) scope)) at (holds_by e (Node-F.Call name es) is h)

        untyped : (o : Option Entry) → scope name ≡ o → function_at all o ≡ None → Has e
        untyped o at none =
            let bad : false ≡ true = head_holds (demand false (UnknownName name e.place)) []
            (subst (λ (f : Option Function). Holds (call_demands f name e.place (map l es) scope)) none (demanded o at)) in
            absurd (cc)

        found : (i : ℕ) (f : Function) → scope name ≡ Some (entry.Function i) → slice_get all i ≡ Some f → Has e
        found i f at stands =
            let c = agrees.called name i f at stands may in
            let h' = subst (λ (o : Option Function). Holds (call_demands o name e.place (map l es) scope)) stands (demanded (Some (entry.Function i)) at) in
            let arity = demand (length (map l es) == length f.parameters && length f.results == 1) (WrongArity e.place) in
            let each = asked_each (map l es) (map (λ p. p.sort) f.parameters) scope in
            has_by e (Node-F.Call name es) is (λ b sort.
            let called : call_sort (Some f) ≡ of.Basic b = sym (ap call_sort (ap (λ (o : Option Entry). function_at all o) at ∙ stands)) ∙ sort in
            let fits = form.call_has all type_told scope f es c.4
            (have f (eqb-true _ _ (and_parts (length (map l es) == length f.parameters) _ (head_holds arity each h')).0) (tail_holds arity each h')) (head_holds arity each h') (tail_holds arity each h') b called in
            ap (λ (fs : List Function). call_type (shaped.function_at fs name) (map (λ (a : shaped.Look). a.type_in around) (map (told names) es))) same
            ∙ (ap (λ (o : Option Function). call_type o (map (λ (a : shaped.Look). a.type_in around) (map (told names) es))) c.1
            ∙ (ap (λ (ts : List (Option basic.Basic)). call_type (Some c.0) ts) (map-map (λ (a : shaped.Look). a.type_in around) (told names) es)
            ∙ guarded _ _ b (ap (λ ps. arguments_fit ps (map type_told es)) c.2 ∙ fits.0) (ap only_result c.3 ∙ fits.1))))

        by : (o : Option Entry) → scope name ≡ o → Has e
        by None at = untyped None at refl
        by (Some entry.Later) at = untyped (Some entry.Later) at refl
        by (Some entry.Constant) at = untyped (Some entry.Constant) at refl
        by (Some (entry.Local s)) at = untyped (Some (entry.Local s)) at refl
        by (Some (entry.Function i)) at = chosen (slice_get all i) refl
          where
            chosen : (o : Option Function) → slice_get all i ≡ o → Has e
            chosen None stands = untyped (Some (entry.Function i)) at stands
            chosen (Some f) stands = found i f at stands
