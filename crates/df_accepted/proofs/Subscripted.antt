-- Subscripts that are accepted in a source are accepted in blocks, and they are integers there.
use Rattle.std.proofs.Common.{◌≡◌, ℤ, pos, negsuc, zero, suc, Bool, true, false, if◌then◌else◌, ◌&&◌, List, [], ◌∷◌, map, fold, refl, sym, ◌∙◌, ap, ap₂, subst, Option, Some, None, bytes_eq}
use Rattle.std.specs.Option.{is_some}
use Rattle.std.specs.List.{list_all}
use Rattle.std.proofs.lemmas.Bool.{and_parts}
use Rattle.std.proofs.lemmas.Slice.Eq.{bytes_eq-Decides}
use Rattle.df_values.specs.declared.values.Value.{Value}
use Rattle.df_values.specs.declared.kinds.Op.{Op}
use Rattle.df_values.specs.declared.kinds.Op.TheVariants as op
use Rattle.df_syntax.specs.declared.tree.Expr.{Expr}
use Rattle.df_syntax.specs.declared.tree.Link.{Link}
use Rattle.df_syntax.specs.declared.tree.Node.{roll-Node}
use Rattle.df_syntax.specs.declared.tree.Node.TheOpen.{Node-F}
use Rattle.df_syntax.specs.declared.program.Function.{Function}
use Rattle.df_syntax.specs.Demands.{first_refusal}
use Rattle.df_syntax.specs.Meaning.{Name, exact, ordinary, is_additive}
use Rattle.df_syntax.specs.SourceForms.{Numbers, bare, form, is_form_name, is_name, manifest, manifest_value}
use Rattle.df_syntax.specs.Trees.{Opened}
use Rattle.df_syntax.specs.WellBuilt.{is_bounded, has_one_level, all_true}
use Rattle.df_syntax.specs.WellShaped as shaped
use Rattle.df_syntax.specs.WellShaped.{Subscripts, Known, Offset, Previous, Around, may_follow, is_accepted, own_offset, chain_offset}
use Rattle.df_syntax.proofs.FirstRefusals.{begin_holds, rest_holds}
use Rattle.df_types.specs.Scopes as scopes
use Rattle.df_types.specs.Sorts.{chain_sort}
use Rattle.df_types.specs.Types.{Look, look_of, asked, asked_links}
use Rattle.df_types.proofs.Looks.{look_is}
use Rattle.df_shape.specs.declared.part.Part.{Part}
use Rattle.df_shape.specs.declared.part.Part.TheVariants.{Whole, Inside, Element, Defined, First, Next}
use Rattle.df_shape.specs.declared.standing.Standing.{Standing}
use Rattle.df_shape.specs.Demands.{offset, offset_link, is_before, is_subscript}
use Rattle.df_shape.specs.Renamed.{Names, array_name}
use Rattle.df_shape.proofs.Opened.{rolled_from}
use Rattle.df_accepted.proofs.Agreed.{Agrees}
use Rattle.df_accepted.proofs.Bare.{bare_same}
use Rattle.df_accepted.proofs.ManifestParts.{NumbersStand, value_told, manifest_typed, some_guarded}
use Rattle.df_accepted.proofs.Told.{told, told_at, value_look, bounds_at, levels_same}
use Rattle.df_accepted.proofs.TypedForms as typed
use Rattle.df_accepted.proofs.TypedNodes as node
use Rattle.df_accepted.proofs.TypesKept.{guarded}
use Rattle.df_shape.proofs.DefinedKept.{is_itself}

-- the subscripts that are accepted in a part of an expression
abbrev pub subscripts_of : Part → Subscripts
subscripts_of (Element index None) = Offset index
subscripts_of (Element index (Some own)) = Previous index own
subscripts_of part = Known

-- the index of a block stands for itself, and so does its own array alone
abbrev pub StandsIn : Names → Part → Type 0
StandsIn names (Element index None) = names index ≡ None
StandsIn names (Element index (Some own)) = (names index ≡ None) × ((m : Name) → bytes_eq (array_name m (names m)) own ≡ bytes_eq own m)
StandsIn names part = Unit {0}

-- ---- without parentheses

told_bare : (names : Names) (e : Expr) → told names e ≡ told names (bare e)
told_bare names = bare_same (told names) (λ e of is. told_at names e (Node-F.Parens of) is)

pub sort_bare : (all : List Function) (e : Expr) → (look_of all e).sort ≡ (look_of all (bare e)).sort
sort_bare all = bare_same (λ e. (look_of all e).sort) (λ e of is. ap (λ (l : Look). l.sort) (look_is all e (Node-F.Parens of) is))

pub demands_bare : (all : List Function) (e : Expr) → (look_of all e).demands ≡ (look_of all (bare e)).demands
demands_bare all = bare_same (λ e. (look_of all e).demands) (λ e of is. ap (λ (l : Look). l.demands) (look_is all e (Node-F.Parens of) is))

pub bounded_bare : (e : Expr) → is_bounded e ≡ is_bounded (bare e)
bounded_bare = bare_same is_bounded (λ e of is. bounds_at e (Node-F.Parens of) is)

-- a name, read through parentheses
name_form : (index : Name) (x : Opened) → is_form_name index x ≡ true → x ≡ Node-F.Name index
name_form index (Node-F.Name other) h = ap (λ (m : Name). Node-F.Name m) (sym ((bytes_eq-Decides index other).0 h))
name_form index (Node-F.Number v) h = absurd (cc)
name_form index (Node-F.Truth v) h = absurd (cc)
name_form index (Node-F.Error v b) h = absurd (cc)
name_form index (Node-F.Access name at) h = absurd (cc)
name_form index (Node-F.Call name arguments) h = absurd (cc)
name_form index (Node-F.Chain first rest) h = absurd (cc)
name_form index (Node-F.Compare rel left right) h = absurd (cc)
name_form index (Node-F.Negate of) h = absurd (cc)
name_form index (Node-F.Invert of) h = absurd (cc)
name_form index (Node-F.Parens of) h = absurd (cc)
name_form index (Node-F.Test test of) h = absurd (cc)
name_form index (Node-F.TwoPlace o left right) h = absurd (cc)
name_form index (Node-F.If arms last) h = absurd (cc)
name_form index (Node-F.Let ds values) h = absurd (cc)
name_form index (Node-F.Construct i low high elem) h = absurd (cc)
name_form index (Node-F.Fold i low high o elem) h = absurd (cc)
name_form index (Node-F.For ds asked assigns last) h = absurd (cc)
name_form index (Node-F.Array at value) h = absurd (cc)
name_form index (Node-F.Update name at value) h = absurd (cc)

-- an expression that is a name, by the node without its parentheses
pub name_node : (index : Name) (e : Expr) → is_name index e ≡ true → (bare e).node ≡ roll-Node (Node-F.Name index)
name_node index e h = rolled_from (bare e).node ∙ ap (λ (x : Opened). roll-Node x) (name_form index (form e) h)

-- ---- offsets

exact_parts : (o : Op) (a b : Option ℤ) → is_some (exact o a b) ≡ true → (is_additive o ≡ true) × (is_some a ≡ true) × (is_some b ≡ true)
exact_parts op.Add (Some a) (Some b) h = (refl, refl, refl)
exact_parts op.Sub (Some a) (Some b) h = (refl, refl, refl)
exact_parts op.Add None b h = absurd (cc)
exact_parts op.Add (Some a) None h = absurd (cc)
exact_parts op.Sub None b h = absurd (cc)
exact_parts op.Sub (Some a) None h = absurd (cc)
exact_parts op.Mul a b h = absurd (cc)
exact_parts op.Div a b h = absurd (cc)
exact_parts op.Mod a b h = absurd (cc)
exact_parts op.And a b h = absurd (cc)
exact_parts op.Or a b h = absurd (cc)
exact_parts op.Min a b h = absurd (cc)
exact_parts op.Max a b h = absurd (cc)

pub some_is : {A : Type 0} (o : Option A) → is_some o ≡ true → (x : A) × (o ≡ Some x)
some_is None h = absurd (cc)
some_is (Some x) h = (x, refl)

ordinary_some : (o : Option Value) → is_some (ordinary o) ≡ true → is_some o ≡ true
ordinary_some None h = absurd (cc)
ordinary_some (Some v) h = refl

may_follow_is : (own : Bool) (k : Option ℤ) → (if own then is_before k else is_some k) ≡ true → may_follow own k ≡ true
may_follow_is true None h = absurd (cc)
may_follow_is true (Some (pos n)) h = absurd (cc)
may_follow_is true (Some (negsuc zero)) h = refl
may_follow_is true (Some (negsuc (suc n))) h = absurd (cc)
may_follow_is false None h = absurd (cc)
may_follow_is false (Some c) h = refl

offset_some : (own : Bool) (k : Option ℤ) → (if own then is_before k else is_some k) ≡ true → is_some k ≡ true
offset_some true None h = absurd (cc)
offset_some true (Some c) h = refl
offset_some false None h = absurd (cc)
offset_some false (Some c) h = refl

module _ (numbers : Numbers) (names : Names) (stand : NumbersStand numbers names) where
  manifest_told : (e : Expr) → is_some (manifest numbers e) ≡ true → ordinary (told names e).manifest ≡ manifest numbers e
  manifest_told e h =
      let v = some_is (manifest_value numbers e) (ordinary_some (manifest_value numbers e) h) in
      ap ordinary (value_told numbers names stand e v.0 v.1 ∙ sym v.1)

  abbrev told_links : List Link → List (Op × shaped.Look)
  told_links rest = map {B = Op × shaped.Look} (λ (k : Link). (k.op, told names k.operand)) rest

  none_stays : (rest : List Link) → fold (offset_link numbers) None rest ≡ None
  none_stays [] = refl
  none_stays (k ∷ rest) = ap (λ o. fold (offset_link numbers) o rest) (nothing k.op (manifest numbers k.operand)) ∙ none_stays rest
    where
      nothing : (o : Op) (b : Option ℤ) → exact o None b ≡ None
      nothing op.Add b = refl
      nothing op.Sub b = refl
      nothing op.Mul b = refl
      nothing op.Div b = refl
      nothing op.Mod b = refl
      nothing op.And b = refl
      nothing op.Or b = refl
      nothing op.Min b = refl
      nothing op.Max b = refl

  abbrev ManyManifest : List Link → Type 0
  ManyManifest rest = list_all (λ (k : Link). is_some (manifest_value numbers k.operand)) rest ≡ true

  links_offset : (rest : List Link) (o : Option ℤ) → is_some (fold (offset_link numbers) o rest) ≡ true
      → (list_all (λ (link : Op × shaped.Look). is_additive link.0) (told_links rest) ≡ true)
      × (chain_offset o (told_links rest) ≡ fold (offset_link numbers) o rest)
      × ManyManifest rest
  links_offset [] o h = (refl, refl, refl)
  links_offset (k ∷ rest) o h =
      let now = exact k.op o (manifest numbers k.operand) in
      let some = by now refl in
      let parts = exact_parts k.op o (manifest numbers k.operand) some in
      let others = links_offset rest now h in
      let same : exact k.op o (ordinary (told names k.operand).manifest) ≡ now = ap (exact k.op o) (manifest_told k.operand parts.2) in (
        ap₂ (λ a b. a && b) parts.0 others.0,
        ap (λ x. chain_offset x (told_links rest)) same ∙ others.1,
        ap₂ (λ a b. a && b) (ordinary_some (manifest_value numbers k.operand) parts.2) others.2,
      )
    where
      by : (x : Option ℤ) → exact k.op o (manifest numbers k.operand) ≡ x → is_some x ≡ true
      by (Some c) is = refl
      by None is =
          let none : is_some (fold (offset_link numbers) None rest) ≡ true = subst (λ x. is_some (fold (offset_link numbers) x rest) ≡ true) is h in
          let bad : false ≡ true = sym (ap is_some (none_stays rest)) ∙ none in
          absurd (cc)

  -- an expression that is a name which stands for itself is that name
  name_itself : (index : Name) (e : Expr) → names index ≡ None → e.node ≡ roll-Node (Node-F.Name index) → (told names e).is_name index ≡ bytes_eq index index
  name_itself index e none is =
      ap (λ (k : shaped.Look). k.is_name index) (told_at names e (Node-F.Name index) is) ∙ ap (λ (s : Option Standing). (value_look index s).is_name index) none

  -- the offset of a subscript is kept
  offset_told : (index : Name) (e : Expr) (x : Opened) → names index ≡ None → e.node ≡ roll-Node x → is_some (offset numbers index x) ≡ true
      → (told names e).offset index ≡ offset numbers index x
  offset_told index e (Node-F.Name name) none is h =
      let same : name ≡ index = (bytes_eq-Decides name index).0 (named (bytes_eq name index) h) in
      ap (λ (k : shaped.Look). k.offset index) (told_at names e (Node-F.Name name) is) ∙ ap (λ (s : Option Standing). (value_look name s).offset index) (ap names same ∙ none)
    where
      named : (b : Bool) → is_some (if b then Some (pos 0) else None) ≡ true → b ≡ true
      named true h = refl
      named false h = absurd (cc)
  offset_told index e (Node-F.Chain first rest) none is h =
      let parts = some_guarded (is_name index first) (fold (offset_link numbers) (Some (pos 0)) rest) h in
      let sum = some_is (fold (offset_link numbers) (Some (pos 0)) rest) parts.1 in
      let links = links_offset rest (Some (pos 0)) parts.1 in
      let start : own_offset ((told names first).is_name index) ≡ Some (pos 0) =
      ap own_offset (ap (λ (k : shaped.Look). k.is_name index) (told_bare names first) ∙ (name_itself index (bare first) none (name_node index first parts.0) ∙ is_itself index)) in
      ap (λ (k : shaped.Look). k.offset index) (told_at names e (Node-F.Chain first rest) is)
      ∙ (guarded (list_all (λ (link : Op × shaped.Look). is_additive link.0) (told_links rest)) (chain_offset (own_offset ((told names first).is_name index)) (told_links rest)) sum.0 links.0
      (ap (λ (o : Option ℤ). chain_offset o (told_links rest)) start ∙ (links.1 ∙ sum.1))
      ∙ sym (guarded (is_name index first) (fold (offset_link numbers) (Some (pos 0)) rest) sum.0 parts.0 sum.1))
  offset_told index e x none is h = absurd (cc)

  -- ---- types

  module _ (all functions : List Function) (callable : Name → Bool) (scope : scopes.Names) (around : Around) (agrees : Agrees all functions callable names scope around.names) where
    abbrev l : Expr → Look
    l = look_of all

    abbrev Has : Expr → Type 0
    Has = node.Has all names scope around

    abbrev Holds : Expr → Type 0
    Holds e = first_refusal ((look_of all e).demands scope) ≡ None

    has_bare : (e : Expr) → Has (bare e) → Has e
    has_bare e has b at = ap (λ (k : shaped.Look). k.type_in around) (told_bare names e) ∙ has b (sym (ap (λ (s : scopes.Names → _). s scope) (sort_bare all e)) ∙ at)

    holds_bare : (e : Expr) → Holds e → Holds (bare e)
    holds_bare e h = subst (λ (d : scopes.Names → _). first_refusal (d scope) ≡ None) (demands_bare all e) h

    name_has : (index : Name) (e : Expr) → is_name index e ≡ true → Holds e → Has e
    name_has index e named h = has_bare e (node.name_typed all names scope around functions callable agrees (bare e) index (name_node index e named) (holds_bare e h))

    links_have : (rest : List Link) (s : _) → ManyManifest rest → all_true (map (λ (p : Op × Bool). p.1) (map {B = Op × Bool} (λ (k : Link). (k.op, is_bounded k.operand)) rest)) ≡ true
        → first_refusal (asked_links s (map {B = Op × Look} (λ (k : Link). (k.op, l k.operand)) rest) scope) ≡ None
        → typed.LinksHave all (node.type_told all names scope around) scope rest
    links_have [] s known bounded h = tt
    links_have (k ∷ rest) s known bounded h =
        let knows = and_parts (is_some (manifest_value numbers k.operand)) _ known in
        let bounds = and_parts (is_bounded k.operand) _ bounded in
        let others = asked_links s (map {B = Op × Look} (λ (k : Link). (k.op, l k.operand)) rest) scope in
        let here = begin_holds ((l k.operand).demands scope) _ (begin_holds (asked (l k.operand) s scope) others h) in
        (manifest_typed numbers names stand all functions callable scope around agrees k.operand knows.0 bounds.0 here, links_have rest s knows.1 bounds.1 (rest_holds (asked (l k.operand) s scope) others h))

    offset_has : (index : Name) (e : Expr) (x : Opened) → e.node ≡ roll-Node x → is_some (offset numbers index x) ≡ true → is_bounded e ≡ true → Holds e → Has e
    offset_has index e (Node-F.Name name) is some bounded h = node.name_typed all names scope around functions callable agrees e name is h
    offset_has index e (Node-F.Chain first rest) is some bounded h =
        let parts = some_guarded (is_name index first) (fold (offset_link numbers) (Some (pos 0)) rest) some in
        let links = links_offset rest (Some (pos 0)) parts.1 in
        let s = chain_sort (map {B = Op × Look} (λ (k : Link). (k.op, l k.operand)) rest) in
        let others = asked_links s (map {B = Op × Look} (λ (k : Link). (k.op, l k.operand)) rest) scope in
        let bounds = and_parts (is_bounded first) _ (sym (bounds_at e (Node-F.Chain first rest) is) ∙ bounded) in
        let inner = and_parts (has_one_level (map (λ (p : Op × Bool). p.0) (map {B = Op × Bool} (λ (k : Link). (k.op, is_bounded k.operand)) rest))) _ bounds.1 in
        let h' = node.holds_by all names scope around e (Node-F.Chain first rest) is h in
        node.chain_typed all names scope around e first rest is (ap has_one_level (sym (levels_same rest)) ∙ inner.0) h
        (name_has index first parts.0 (begin_holds ((l first).demands scope) _ (begin_holds (asked (l first) s scope) others h')))
        (links_have rest s links.2 inner.1 (rest_holds (asked (l first) s scope) others h'))
    offset_has index e x is some bounded h = absurd (cc)

    -- the offset of a subscript, and its type
    offset_accepted : (index : Name) (at : Expr) → names index ≡ None → is_some (offset numbers index (form at)) ≡ true → is_bounded at ≡ true → Holds at
        → ((told names at).offset index ≡ offset numbers index (form at)) × Has at
    offset_accepted index at none some bounded h =
        let is = rolled_from (bare at).node in (
          ap (λ (k : shaped.Look). k.offset index) (told_bare names at) ∙ offset_told index (bare at) (form at) none is some,
          has_bare at (offset_has index (bare at) (form at) is some (sym (bounded_bare at) ∙ bounded) (holds_bare at h)),
        )

    manifest_accepted : (at : Expr) → is_some (manifest numbers at) ≡ true → is_bounded at ≡ true → Holds at
        → (is_some (ordinary (told names at).manifest) ≡ true) × Has at
    manifest_accepted at some bounded h = (
      ap is_some (manifest_told at some) ∙ some,
      manifest_typed numbers names stand all functions callable scope around agrees at (ordinary_some (manifest_value numbers at) some) bounded h,
    )

    pub accepted : (part : Part) → StandsIn names part → (name : Name) (at : Expr) → is_subscript numbers part name at ≡ true → is_bounded at ≡ true → Holds at
        → (is_accepted (subscripts_of part) (array_name name (names name)) (told names at) ≡ true) × Has at
    accepted (Element index None) stands name at some bounded h =
        let parts = offset_accepted index at stands some bounded h in
        (ap is_some parts.0 ∙ some, parts.1)
    accepted (Element index (Some own)) stands name at some bounded h =
        let parts = offset_accepted index at stands.0 (offset_some (bytes_eq own name) (offset numbers index (form at)) some) bounded h in (
          ap₂ may_follow (stands.1 name) parts.0 ∙ may_follow_is (bytes_eq own name) (offset numbers index (form at)) some,
          parts.1,
        )
    accepted Whole stands name at some bounded h = manifest_accepted at some bounded h
    accepted Inside stands name at some bounded h = manifest_accepted at some bounded h
    accepted Defined stands name at some bounded h = manifest_accepted at some bounded h
    accepted First stands name at some bounded h = manifest_accepted at some bounded h
    accepted (Next index own) stands name at some bounded h = manifest_accepted at some bounded h
