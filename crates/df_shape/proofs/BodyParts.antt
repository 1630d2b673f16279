-- What is demanded of a body, by its node.
use Rattle.std.proofs.Common.{◌≡◌, ℕ, suc, ◌+◌, ◌<◌, refl, sym, ◌∙◌, ap, subst, Bool, true, false, ◌&&◌, ◌||◌, if◌then◌else◌, bytes_eq, List, [], ◌∷◌, ◌++◌, length, get_or, drop, drop-cons, add-one, Some, None}
use Rattle.std.specs.Prelude.{flat_map}
use Rattle.std.specs.Option.{is_some}
use Rattle.df_syntax.specs.declared.tree.Expr.{Expr}
use Rattle.df_syntax.specs.declared.tree.Definition.{Definition}
use Rattle.df_syntax.specs.declared.tree.Node.{out-Node}
use Rattle.df_syntax.specs.declared.tree.Node.TheVariants as n
use Rattle.df_syntax.specs.declared.tree.Node.TheOpen.{Node-F}
use Rattle.df_syntax.specs.Trees.{Opened, layer_of}
use Rattle.df_syntax.specs.Besides.{beside_rolled}
use Rattle.df_syntax.specs.Demands.{first_refusal}
use Rattle.df_syntax.specs.Meaning.{Name}
use Rattle.df_syntax.specs.SourceForms.{form, is_let, is_array}
use Rattle.df_syntax.proofs.FirstRefusals.{first_append, first_stays}
use Rattle.df_names.specs.declared.map.NameMap.{NameMap}
use Rattle.df_names.specs.Found.{names_of}
use Rattle.df_names.specs.Maps.{Names, bind}
use Rattle.df_shape.specs.declared.answers.ShapeAnswer.{ShapeAnswer}
use Rattle.df_shape.specs.declared.body.Main.{Main}
use Rattle.df_shape.specs.Demands.{Demands, Around, Look, or_array, demands_of}
use Rattle.df_shape.specs.Sources.{whole, body_definitions, with_arrays, body_demands, body_node, body_of}
use Rattle.df_shape.specs.Bodies.{main_around, as_body, bodies, body_looks}
use Rattle.df_shape.proofs.Opened.{rolled_from, is_parens, is_let as is_let_node}
use Rattle.df_shape.proofs.Opened as opened

body_at : (e : Expr) (x : Opened) → out-Node e.node ≡ x → body_of e ≡ body_node e (layer_of (Expr × Look) as_body x)
unfolding body_of
body_at e x is =
    beside_rolled Look body_node e (out-Node e.node) (rolled_from e.node)
    ∙ ap (λ (y : Opened). body_node e (layer_of (Expr × Look) as_body y)) is

module _ (around : Around) (e : Expr) where
  pub let_inside : (of : Expr) → e.node ≡ n.Parens of → is_let (form e) ≡ true → body_of e around ≡ body_of of around
  let_inside of is h =
      ap (λ (look : Look). look around) (body_at e (Node-F.Parens of) (opened.parens e.node of is))
      ∙ ap (λ (b : Bool). (if b then body_of of else (λ (w : Around). demands_of e (whole w))) around) h

  pub none_inside : (of : Expr) → e.node ≡ n.Parens of → is_let (form e) ≡ false → body_of e around ≡ demands_of e (whole around)
  none_inside of is h =
      ap (λ (look : Look). look around) (body_at e (Node-F.Parens of) (opened.parens e.node of is))
      ∙ ap (λ (b : Bool). (if b then body_of of else (λ (w : Around). demands_of e (whole w))) around) h

  pub let_in : (ds : List Definition) (values : List Expr) → e.node ≡ n.Let ds values
      → body_of e around ≡ body_definitions around (body_looks ds) ++ body_demands (bodies values) (with_arrays around (body_looks ds))
  let_in ds values is = ap (λ (look : Look). look around) (body_at e (Node-F.Let ds values) (opened.let_in e.node ds values is))

  other_at : (x : Opened) → ((of : Expr) → x ≡ Node-F.Parens of → ⊥) → ((ds : List Definition) (values : List Expr) → x ≡ Node-F.Let ds values → ⊥)
      → body_node e (layer_of (Expr × Look) as_body x) around ≡ demands_of e (whole around)
  other_at (Node-F.Parens of) p l = absurd (p of refl)
  other_at (Node-F.Let ds values) p l = absurd (l ds values refl)
  other_at x p l = refl

  pub other : ((of : Expr) → e.node ≡ n.Parens of → ⊥) → ((ds : List Definition) (values : List Expr) → e.node ≡ n.Let ds values → ⊥) → body_of e around ≡ demands_of e (whole around)
  other p l =
      ap (λ (look : Look). look around) (body_at e (out-Node e.node) refl)
      ∙ other_at (out-Node e.node) (λ of is. p of (is_parens e.node of is)) (λ ds values is. l ds values (is_let_node e.node ds values is))

-- ---- results

wholes : (around : Around) (es : List Expr) → flat_map (λ (p : Expr × Look). demands_of p.0 (whole around)) (bodies es) ≡ flat_map (λ (e : Expr). demands_of e (whole around)) es
wholes around [] = refl
wholes around (e ∷ es) = ap (λ (ds : Demands). demands_of e (whole around) ++ ds) (wholes around es)

pub results : (around : Around) (es : List Expr) → (length es ≡ 1 → ⊥) → body_demands (bodies es) around ≡ flat_map (λ (e : Expr). demands_of e (whole around)) es
results around [] other = refl
results around (e ∷ []) other = absurd (other refl)
results around (e ∷ d ∷ es) other = wholes around (e ∷ d ∷ es)

-- ---- definitions

pub definition_step : (around after : Around) (ds : List Definition) (i : ℕ) (d : Definition) → i < length ds → d ≡ get_or ds i d → after ≡ record around { arrays = or_array around.arrays d.name.name d.sort }
    → first_refusal (demands_of d.value (whole around)) ≡ None
    → first_refusal (body_definitions around (body_looks (drop i ds))) ≡ first_refusal (body_definitions after (body_looks (drop (i + 1) ds)))
definition_step around after ds i d below is next h =
    (subst (λ (y : Definition). first_refusal (body_definitions around (body_looks (drop i ds))) ≡ first_refusal (body_definitions (record around { arrays = or_array around.arrays y.name.name y.sort }) (body_looks (drop (i + 1) ds)))) (sym is)
    (let y = get_or ds i d in
    rw (add-one i, drop-cons ds i d)
    (first_append (demands_of y.value (whole around)) (body_definitions (record around { arrays = or_array around.arrays y.name.name y.sort }) (body_looks (drop (suc i) ds)))
    (subst (λ (z : Definition). first_refusal (demands_of z.value (whole around)) ≡ None) is h)))
    ∙ ap (λ (w : Around). first_refusal (body_definitions w (body_looks (drop (i + 1) ds)))) (sym next))

pub definition_stop : (around : Around) (ds : List Definition) (i : ℕ) (d : Definition) (x : ShapeAnswer) → i < length ds → d ≡ get_or ds i d → first_refusal (demands_of d.value (whole around)) ≡ Some x
    → first_refusal (body_definitions around (body_looks (drop i ds))) ≡ Some x
definition_stop around ds i d x below is h =
    let y = get_or ds i d in
    rw (drop-cons ds i d)
    (first_stays (demands_of y.value (whole around)) (body_definitions (record around { arrays = or_array around.arrays y.name.name y.sort }) (body_looks (drop (suc i) ds))) x
    (subst (λ (z : Definition). first_refusal (demands_of z.value (whole around)) ≡ Some x) is h))

pub arrays_step : (around after : Around) (ds : List Definition) (i : ℕ) (d : Definition) → i < length ds → d ≡ get_or ds i d → after ≡ record around { arrays = or_array around.arrays d.name.name d.sort }
    → with_arrays around (body_looks (drop i ds)) ≡ with_arrays after (body_looks (drop (i + 1) ds))
arrays_step around after ds i d below is next =
    subst (λ (y : Definition). with_arrays around (body_looks (drop i ds)) ≡ with_arrays (record around { arrays = or_array around.arrays y.name.name y.sort }) (body_looks (drop (i + 1) ds))) (sym is)
    (rw (add-one i, drop-cons ds i d) refl)
    ∙ ap (λ (w : Around). with_arrays w (body_looks (drop (i + 1) ds))) (sym next)

-- ---- names of arrays

pub is_in : (names : Names (Unit {0})) (name other : Name) → is_some (bind names name tt other) ≡ (bytes_eq name other || is_some (names other))
unfolding bind
is_in names name other = by (bytes_eq name other)
  where
    by : (b : Bool) → is_some (if b then Some (tt {0}) else names other) ≡ (b || is_some (names other))
    by true = refl
    by false = refl

-- one name more
pub one_array : (main : Main) (before after : NameMap (Unit {0})) (d : Definition) → is_array d.sort ≡ true → names_of after ≡ bind (names_of before) d.name.name tt
    → main_around main after ≡ record (main_around main before) { arrays = or_array (main_around main before).arrays d.name.name d.sort }
one_array main before after d array is =
    ap (λ (arrays : Name → Bool). record (main_around main before) { arrays = arrays })
    (λ i. λ (other : Name).
    (ap (λ (names : Names (Unit {0})). is_some (names other)) is ∙ (is_in (names_of before) d.name.name other ∙ ap (λ (b : Bool). (b && bytes_eq d.name.name other) || is_some (names_of before other)) (sym array))) i)

pub no_array : (main : Main) (before : NameMap (Unit {0})) (d : Definition) → is_array d.sort ≡ false
    → main_around main before ≡ record (main_around main before) { arrays = or_array (main_around main before).arrays d.name.name d.sort }
no_array main before d scalar =
    ap (λ (b : Bool). record (main_around main before) { arrays = λ (other : Name). (b && bytes_eq d.name.name other) || is_some (names_of before other) }) (sym scalar)
