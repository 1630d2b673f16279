-- What is demanded inside a node, by what it holds.
use Rattle.std.proofs.Common.{◌≡◌, refl, sym, ◌∙◌, ap, Bool, true, false, ◌&&◌, ◌||◌, if◌then◌else◌, bytes_eq, List, [], ◌∷◌, ◌++◌, map, drop, drop-cons, length, get_or, ℕ, suc, ◌<◌, subst, Option, Some, None, Result, Ok, Err, arith}
use Rattle.std.specs.Prelude.{flat_map}
use Rattle.std.specs.Option.{is_some}
use Rattle.std.specs.Result.{IsErrAnd, result_err}
use Rattle.df_values.specs.declared.kinds.Op.{Op}
use Rattle.df_values.specs.declared.kinds.Rel.{Rel}
use Rattle.df_syntax.specs.declared.tree.Expr.{Expr}
use Rattle.df_syntax.specs.declared.tree.Link.{Link}
use Rattle.df_syntax.specs.declared.tree.Arm.{Arm}
use Rattle.df_syntax.specs.declared.tree.Definition.{Definition}
use Rattle.df_syntax.specs.declared.tree.Assign.{Assign}
use Rattle.df_syntax.specs.declared.tree.Node.{out-Node}
use Rattle.df_syntax.specs.declared.tree.Node.TheVariants as n
use Rattle.df_syntax.specs.declared.tree.Node.TheOpen.{Node-F}
use Rattle.df_syntax.specs.Trees.{Opened, layer_of}
use Rattle.df_syntax.specs.Demands.{first_refusal}
use Rattle.df_syntax.proofs.FirstRefusals.{first_append, first_stays}
use Rattle.df_shape.specs.declared.answers.ShapeAnswer.{ShapeAnswer}
use Rattle.df_shape.specs.declared.part.Part.TheVariants.{First, Next}
use Rattle.df_shape.specs.Demands.{Demands, Around, Look, as_part, inside, or_array, demands_of, inner_demands, all_of, definitions_demands, loop_demands}
use Rattle.df_syntax.specs.Meaning.{Name}
use Rattle.df_syntax.specs.SourceForms.{is_array}
use Rattle.df_names.specs.Found.{names_of}
use Rattle.df_shape.specs.declared.context.Context.{Context}
use Rattle.df_shape.specs.declared.walk.Walk.{Walk}
use Rattle.df_shape.specs.Walks.{is_own, around_of, next_of, looked, with_looks, looks, link_looks, arm_looks, definition_looks, assign_looks, links_demands, arms_demands, turns_demands}
use Rattle.df_shape.proofs.Opened as opened

-- ---- demands one behind the other

pub refused_first : {A : Type 0} (as_ bs : Demands) (r : Result A ShapeAnswer) (x : ShapeAnswer) → IsErrAnd r (λ y. y ≡ x) → first_refusal as_ ≡ Some x → first_refusal (as_ ++ bs) ≡ result_err r
refused_first as_ bs (Ok a) x is h = absurd is
refused_first as_ bs (Err y) x is h = first_stays as_ bs x h ∙ ap Some (sym is)

pub rest_decides : (as_ bs : Demands) (o : Option ShapeAnswer) → first_refusal as_ ≡ None → first_refusal bs ≡ o → first_refusal (as_ ++ bs) ≡ o
rest_decides as_ bs o h k = first_append as_ bs h ∙ k

-- ---- nodes with several parts

inner_at : (around : Around) (e : Expr) (x : Opened) → out-Node e.node ≡ x → inner_demands around (with_looks e) ≡ inner_demands around (layer_of (Expr × Look) looked x)
inner_at around e x is = ap (λ (y : Opened). inner_demands around (layer_of (Expr × Look) looked y)) is

module _ (around : Around) (e : Expr) where
  pub chain : (first : Expr) (rest : List Link) → e.node ≡ n.Chain first rest
      → inner_demands around (with_looks e) ≡ demands_of first (inside around) ++ links_demands (inside around) (link_looks rest)
  chain first rest is = inner_at around e (Node-F.Chain first rest) (opened.chain e.node first rest is)

  pub compared : (rel : Rel) (left right : Expr) → e.node ≡ n.Compare rel left right
      → inner_demands around (with_looks e) ≡ demands_of left (inside around) ++ demands_of right (inside around)
  compared rel left right is = inner_at around e (Node-F.Compare rel left right) (opened.compared e.node rel left right is)

  pub two_place : (op : Op) (left right : Expr) → e.node ≡ n.TwoPlace op left right
      → inner_demands around (with_looks e) ≡ demands_of left (inside around) ++ demands_of right (inside around)
  two_place op left right is = inner_at around e (Node-F.TwoPlace op left right) (opened.two_place e.node op left right is)

  pub chosen : (arms : List Arm) (last : Expr) → e.node ≡ n.If arms last
      → inner_demands around (with_looks e) ≡ arms_demands (inside around) (arm_looks arms) ++ demands_of last (inside around)
  chosen arms last is = inner_at around e (Node-F.If arms last) (opened.chosen e.node arms last is)

  pub let_in : (ds : List Definition) (values : List Expr) → e.node ≡ n.Let ds values
      → inner_demands around (with_looks e) ≡ definitions_demands (inside around) (definition_looks ds) ++ all_of (looks values) (inside around)
  let_in ds values is = inner_at around e (Node-F.Let ds values) (opened.let_in e.node ds values is)

  pub loop : (ds : List Definition) (test : Expr) (assigns : List Assign) (last : Expr) → e.node ≡ n.For ds test assigns last
      → turns_demands around (with_looks e) ≡ loop_demands around (definition_looks ds) (assign_looks assigns)
  loop ds test assigns last is =
      ap (λ (y : Opened). turns_demands around (layer_of (Expr × Look) looked y)) (opened.loop e.node ds test assigns last is)

-- ---- loops

pub turns : (around : Around) (ds : List Definition) (assigns : List Assign) (i t : Definition) (next : Assign)
    → length ds ≡ 2 → i ≡ get_or ds 0 i → t ≡ get_or ds 1 t → length assigns ≡ 2 → next ≡ get_or assigns 0 next
    → loop_demands around (definition_looks ds) (assign_looks assigns)
    ≡ demands_of t.value (as_part around First) ++ demands_of next.value (record around { arrays = or_array around.arrays t.name.name t.sort; part = Next i.name.name t.name.name })
turns around (d ∷ e ∷ []) (a ∷ b ∷ []) i t next two p q two_more r = rw (p, q, r) refl
turns around [] assigns i t next two p q two_more r = absurd (omega (arith, two))
turns around (d ∷ []) assigns i t next two p q two_more r = absurd (omega (arith, two))
turns around (d ∷ e ∷ f ∷ ds) assigns i t next two p q two_more r = absurd (omega (arith, two))
turns around (d ∷ e ∷ []) [] i t next two p q two_more r = absurd (omega (arith, two_more))
turns around (d ∷ e ∷ []) (a ∷ []) i t next two p q two_more r = absurd (omega (arith, two_more))
turns around (d ∷ e ∷ []) (a ∷ b ∷ c ∷ l) i t next two p q two_more r = absurd (omega (arith, two_more))

-- a recurrence around which no other is adds its own array
own_array : (name : Name) (others : Name → Bool) (b : Bool) (own : Option Name) → own ≡ None
    → ◌≡◌ {A = Name → Bool} (λ o. (b && bytes_eq name o) || (is_own own o || others o)) (λ o. is_own (if b then Some name else None) o || others o)
own_array name others b own none =
    ap {B = Name → Bool} (λ (w : Option Name). λ (o : Name). (b && bytes_eq name o) || (is_own w o || others o)) none ∙ by b
  where
    by : (b : Bool) → ◌≡◌ {A = Name → Bool} (λ o. (b && bytes_eq name o) || (is_own None o || others o)) (λ o. is_own (if b then Some name else None) o || others o)
    by true = refl
    by false = refl

pub next_around : (walk : Walk) (c : Context) (i t : Definition) → c.own ≡ None
    → record (around_of walk c) { arrays = or_array (around_of walk c).arrays t.name.name t.sort; part = Next i.name.name t.name.name } ≡ around_of walk (next_of i t)
next_around walk c i t none =
    ap (λ (arrays : Name → Bool). record (around_of walk c) { arrays = arrays; part = Next i.name.name t.name.name })
    (own_array t.name.name (λ name. is_some (names_of walk.arrays.now name)) (is_array t.sort) c.own none)

-- ---- the members of a list

module _ {X Y : Type 0} (g : Y → Demands) (f : X → Y) where
  -- the demands on a member fail: so do those on the whole
  pub each_refused : {A : Type 0} (o : Option ShapeAnswer) (xs : List X) (i : ℕ) (y : X) (r : Result A ShapeAnswer) (x : ShapeAnswer) → o ≡ first_refusal (flat_map g (map f (drop i xs)))
      → i < length xs → y ≡ get_or xs i y → IsErrAnd r (λ z. z ≡ x) → first_refusal (g (f y)) ≡ Some x → o ≡ result_err r
  each_refused {A} o xs i y r x left below is err h =
      left
      ∙ rw (drop-cons xs i y)
      (refused_first (g (f (get_or xs i y))) (flat_map g (map f (drop (suc i) xs))) r x err (subst (λ (z : X). first_refusal (g (f z)) ≡ Some x) is h))
