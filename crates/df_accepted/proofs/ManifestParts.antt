-- Expressions with a value that is known before any input: they have it in blocks too, and their type.
use Rattle.std.proofs.Common.{◌≡◌, ℤ, Bool, true, false, if◌then◌else◌, ◌&&◌, List, [], ◌∷◌, map, refl, sym, ◌∙◌, ap, subst, Option, Some, None}
use Rattle.std.specs.Option.{is_some}
use Rattle.std.specs.List.{list_all}
use Rattle.std.proofs.lemmas.Bool.{and_parts}
use Rattle.df_values.specs.declared.values.Value.{Value}
use Rattle.df_values.specs.declared.kinds.Op.{Op}
use Rattle.df_values.specs.Tables.{answer, negation}
use Rattle.df_syntax.specs.declared.tree.Expr.{Expr}
use Rattle.df_syntax.specs.declared.tree.Link.{Link}
use Rattle.df_syntax.specs.declared.tree.Sort.{Sort}
use Rattle.df_syntax.specs.declared.tree.Node.{roll-Node}
use Rattle.df_syntax.specs.declared.tree.Node.TheOpen.{Node-F}
use Rattle.df_syntax.specs.declared.program.Function.{Function}
use Rattle.df_syntax.specs.Demands.{first_refusal}
use Rattle.df_syntax.specs.Meaning.{Name, both, each}
use Rattle.df_syntax.specs.SourceForms.{Numbers, is_arithmetic, number_value, joined_value, manifest_node, manifest_value}
use Rattle.df_syntax.specs.Trees.{Opened, layer_of, fold_rolled}
use Rattle.df_syntax.specs.TreeInduction.{Proved, without, tree_induction}
use Rattle.df_syntax.specs.WellBuilt.{is_bounded, has_one_level, all_true, is_two_place}
use Rattle.df_syntax.specs.WellShaped as shaped
use Rattle.df_syntax.specs.WellShaped.{Around, chain_value}
use Rattle.df_syntax.proofs.FirstRefusals.{begin_holds, rest_holds}
use Rattle.df_types.specs.Scopes as scopes
use Rattle.df_types.specs.Sorts.{integer, chain_sort}
use Rattle.df_types.specs.Types.{Look, look_of, asked, asked_links}
use Rattle.df_shape.specs.declared.standing.Standing.{Standing}
use Rattle.df_shape.specs.declared.standing.Standing.TheVariants as standing
use Rattle.df_shape.specs.Renamed.{Names}
use Rattle.df_accepted.proofs.Agreed.{Agrees}
use Rattle.df_accepted.proofs.Told.{told, told_at, node_told, value_look, bounds_at, levels_same}
use Rattle.df_accepted.proofs.TypedForms as form
use Rattle.df_accepted.proofs.TypedNodes as node
use Rattle.df_accepted.proofs.TypesKept.{Keeps, guarded_parts, image_kept}

-- each number stands for itself in blocks
abbrev pub NumbersStand : Numbers → Names → Type 0
NumbersStand numbers names = (n : Name) (k : ℤ) → numbers n ≡ Some k → names n ≡ Some (standing.Constant k)

both_kept : (f : Value → Value → Value) (a b c d : Option Value) → Keeps a c → Keeps b d → Keeps (both f a b) (both f c d)
both_kept f None b c d k l t is = absurd (cc)
both_kept f (Some x) None c d k l t is = absurd (cc)
both_kept f (Some x) (Some y) c d k l t is = ap (λ o. both f o d) (k x refl) ∙ (ap (both f (Some x)) (l y refl) ∙ is)

-- the parts of what is there are there
both_parts : (f : Value → Value → Value) (a b : Option Value) → is_some (both f a b) ≡ true → (is_some a ≡ true) × (is_some b ≡ true)
both_parts f None b h = absurd (cc)
both_parts f (Some x) None h = absurd (cc)
both_parts f (Some x) (Some y) h = (refl, refl)

each_parts : (f : Value → Value) (a : Option Value) → is_some (each f a) ≡ true → is_some a ≡ true
each_parts f None h = absurd (cc)
each_parts f (Some x) h = refl

pub some_guarded : {A : Type 0} (p : Bool) (a : Option A) → is_some (if p then a else None) ≡ true → (p ≡ true) × (is_some a ≡ true)
some_guarded true a h = (refl, h)
some_guarded false a h = absurd (cc)

module _ (numbers : Numbers) (names : Names) (stand : NumbersStand numbers names) where
  abbrev value : Expr → Option Value
  value = manifest_value numbers

  value_at : (e : Expr) (x : Opened) → e.node ≡ roll-Node x → manifest_value numbers e ≡ manifest_node numbers (layer_of (Option Value) (manifest_value numbers) x)
  unfolding manifest_value
  value_at e x is = fold_rolled (Option Value) (λ place node. manifest_node numbers node) e x is

  -- ---- values

  abbrev KeepsValue : Expr → Type 0
  KeepsValue e = Keeps (manifest_value numbers e) (told names e).manifest

  value_by : (e : Expr) (x : Opened) → e.node ≡ roll-Node x
      → Keeps (manifest_node numbers (layer_of (Option Value) value x)) (node_told names (layer_of shaped.Look (told names) x)).manifest → KeepsValue e
  value_by e x is h t at = ap (λ (k : shaped.Look). k.manifest) (told_at names e x is) ∙ h t (sym (value_at e x is) ∙ at)

  name_value : (name : Name) (o : Option ℤ) → numbers name ≡ o → Keeps (number_value o) (value_look name (names name)).manifest
  name_value name None is t at = absurd (cc)
  name_value name (Some k) is t at = ap (λ (s : Option Standing). (value_look name s).manifest) (stand name k is) ∙ at

  links_value : (rest : List ((k : Link) × KeepsValue k.operand)) (a b : Option Value) → Keeps a b
      → Keeps (joined_value a (map {B = Op × Option Value} (λ (k : Link). (k.op, value k.operand)) (map (λ k. k.0) rest)))
      (chain_value b (map {B = Op × shaped.Look} (λ (k : Link). (k.op, told names k.operand)) (map (λ k. k.0) rest)))
  links_value [] a b k = k
  links_value (l ∷ rest) a b k = links_value rest _ _ (both_kept (answer l.0.op) a (value l.0.operand) b (told names l.0.operand).manifest k l.1)

  value_step : (e : Expr) (y : Proved KeepsValue) → e.node ≡ roll-Node (without KeepsValue y) → KeepsValue e
  value_step e (Node-F.Number v) is = value_by e (Node-F.Number v) is (λ t at. at)
  value_step e (Node-F.Truth v) is = value_by e (Node-F.Truth v) is (λ t at. at)
  value_step e (Node-F.Error v b) is = value_by e (Node-F.Error v b) is (λ t at. at)
  value_step e (Node-F.Name name) is = value_by e (Node-F.Name name) is (name_value name (numbers name) refl)
  value_step e (Node-F.Chain first rest) is =
      value_by e (Node-F.Chain first.0 (map (λ k. k.0) rest)) is (λ t at.
      links_value rest _ _ first.1 t (guarded_parts (list_all (λ (l : Op × Option Value). is_arithmetic l.0) (map (λ (k : Link). (k.op, value k.operand)) (map (λ k. k.0) rest))) _ t at).1)
  value_step e (Node-F.Negate of_) is = value_by e (Node-F.Negate of_.0) is (image_kept (each negation) refl _ _ of_.1)
  value_step e (Node-F.Parens of_) is = value_by e (Node-F.Parens of_.0) is of_.1
  value_step e (Node-F.TwoPlace o left right) is = value_by e (Node-F.TwoPlace o left.0 right.0) is (both_kept (answer o) _ _ _ _ left.1 right.1)
  value_step e y is = value_by e (without KeepsValue y) is (λ t at. absurd (cc))

  pub value_told : (e : Expr) → Keeps (manifest_value numbers e) (told names e).manifest
  value_told = tree_induction KeepsValue value_step

  -- ---- types

  module _ (all functions : List Function) (callable : Name → Bool) (scope : scopes.Names) (around : Around) (agrees : Agrees all functions callable names scope around.names) where
    abbrev l : Expr → Look
    l = look_of all

    abbrev Has : Expr → Type 0
    Has = node.Has all names scope around

    abbrev Typed : Expr → Type 0
    Typed e = is_some (manifest_value numbers e) ≡ true → is_bounded e ≡ true → first_refusal ((look_of all e).demands scope) ≡ None → Has e

    known_at : (e : Expr) (x : Opened) → e.node ≡ roll-Node x → is_some (value e) ≡ true → is_some (manifest_node numbers (layer_of (Option Value) value x)) ≡ true
    known_at e x is h = subst (λ (o : Option Value). is_some o ≡ true) (value_at e x is) h

    -- a part of which the type is asked
    asked_typed : (e : (e : Expr) × Typed e) (s : Sort) → is_some (value e.0) ≡ true → is_bounded e.0 ≡ true → first_refusal (asked (l e.0) s scope) ≡ None → Has e.0
    asked_typed e s known bounded h = e.1 known bounded (begin_holds ((l e.0).demands scope) _ h)

    links_known : (rest : List ((k : Link) × Typed k.operand)) (a : Option Value)
        → is_some (joined_value a (map {B = Op × Option Value} (λ (k : Link). (k.op, value k.operand)) (map (λ k. k.0) rest))) ≡ true
        → (is_some a ≡ true) × (list_all (λ (k : Link). is_some (value k.operand)) (map (λ k. k.0) rest) ≡ true)
    links_known [] a h = (h, refl)
    links_known (k ∷ rest) a h =
        let others = links_known rest (both (answer k.0.op) a (value k.0.operand)) h in
        let parts = both_parts (answer k.0.op) a (value k.0.operand) others.0 in
        (parts.0, ap (λ b. b && list_all (λ (k : Link). is_some (value k.operand)) (map (λ k. k.0) rest)) parts.1 ∙ others.1)

    links_typed : (rest : List ((k : Link) × Typed k.operand)) (s : Sort) → list_all (λ (k : Link). is_some (value k.operand)) (map (λ k. k.0) rest) ≡ true
        → all_true (map (λ (p : Op × Bool). p.1) (map {B = Op × Bool} (λ (k : Link). (k.op, is_bounded k.operand)) (map (λ k. k.0) rest))) ≡ true
        → first_refusal (asked_links s (map {B = Op × Look} (λ (k : Link). (k.op, l k.operand)) (map (λ k. k.0) rest)) scope) ≡ None
        → form.LinksHave all (node.type_told all names scope around) scope (map (λ k. k.0) rest)
    links_typed [] s known bounded h = tt
    links_typed (k ∷ rest) s known bounded h =
        let knows = and_parts (is_some (value k.0.operand)) _ known in
        let bounds = and_parts (is_bounded k.0.operand) _ bounded in
        let others = asked_links s (map {B = Op × Look} (λ (k : Link). (k.op, l k.operand)) (map (λ k. k.0) rest)) scope in
        (asked_typed (k.0.operand, k.1) s knows.0 bounds.0 (begin_holds (asked (l k.0.operand) s scope) others h), links_typed rest s knows.1 bounds.1 (rest_holds (asked (l k.0.operand) s scope) others h))

    step : (e : Expr) (y : Proved Typed) → e.node ≡ roll-Node (without Typed y) → Typed e
    step e (Node-F.Number v) is known bounded h = node.number_typed all names scope around e v is
    step e (Node-F.Truth v) is known bounded h = node.truth_typed all names scope around e v is
    step e (Node-F.Error v c) is known bounded h = node.fault_typed all names scope around e v c is
    step e (Node-F.Name name) is known bounded h = node.name_typed all names scope around functions callable agrees e name is h
    step e (Node-F.Chain first rest) is known bounded h =
        let links = map (λ k. k.0) rest in
        let asked_as = chain_sort (map {B = Op × Look} (λ (k : Link). (k.op, l k.operand)) links) in
        let knows = links_known rest (value first.0) (some_guarded _ _ (known_at e (Node-F.Chain first.0 links) is known)).1 in
        let bounds = and_parts (is_bounded first.0) _ (sym (bounds_at e (Node-F.Chain first.0 links) is) ∙ bounded) in
        let inner = and_parts (has_one_level (map (λ (p : Op × Bool). p.0) (map {B = Op × Bool} (λ (k : Link). (k.op, is_bounded k.operand)) links))) _ bounds.1 in
        let h' = node.holds_by all names scope around e (Node-F.Chain first.0 links) is h in
        let others = asked_links asked_as (map {B = Op × Look} (λ (k : Link). (k.op, l k.operand)) links) scope in
        node.chain_typed all names scope around e first.0 links is (ap has_one_level (sym (levels_same links)) ∙ inner.0) h
        (asked_typed first asked_as knows.0 bounds.0 (begin_holds (asked (l first.0) asked_as scope) others h'))
        (links_typed rest asked_as knows.1 inner.1 (rest_holds (asked (l first.0) asked_as scope) others h'))
    step e (Node-F.Negate of_) is known bounded h =
        node.negate_typed all names scope around e of_.0 is h
        (asked_typed of_ integer (each_parts negation (value of_.0) (known_at e (Node-F.Negate of_.0) is known)) (sym (bounds_at e (Node-F.Negate of_.0) is) ∙ bounded)
        (node.holds_by all names scope around e (Node-F.Negate of_.0) is h))
    step e (Node-F.Parens of_) is known bounded h =
        node.parens_typed all names scope around e of_.0 is
        (of_.1 (known_at e (Node-F.Parens of_.0) is known) (sym (bounds_at e (Node-F.Parens of_.0) is) ∙ bounded) (node.holds_by all names scope around e (Node-F.Parens of_.0) is h))
    step e (Node-F.TwoPlace o left right) is known bounded h =
        let knows = both_parts (answer o) (value left.0) (value right.0) (known_at e (Node-F.TwoPlace o left.0 right.0) is known) in
        let bounds = and_parts (is_two_place o) _ (sym (bounds_at e (Node-F.TwoPlace o left.0 right.0) is) ∙ bounded) in
        let inner = and_parts (is_bounded left.0) (is_bounded right.0) bounds.1 in
        let h' = node.holds_by all names scope around e (Node-F.TwoPlace o left.0 right.0) is h in
        node.two_place_typed all names scope around e o left.0 right.0 is bounds.0 h
        (asked_typed left integer knows.0 inner.0 (begin_holds (asked (l left.0) integer scope) (asked (l right.0) integer scope) h'))
        (asked_typed right integer knows.1 inner.1 (rest_holds (asked (l left.0) integer scope) (asked (l right.0) integer scope) h'))
    step e y is known bounded h = let none = known_at e (without Typed y) is known in absurd (cc)

    -- an expression with such a value has its type
    pub manifest_typed : (e : Expr) → is_some (manifest_value numbers e) ≡ true → is_bounded e ≡ true → first_refusal ((look_of all e).demands scope) ≡ None
        → node.Has all names scope around e
    manifest_typed = tree_induction Typed step
