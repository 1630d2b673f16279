-- Whether the value of an expression is an array, by what its node holds.
use Rattle.std.proofs.Common.{◌≡◌, ◌≤◌, ◌<◌, length, get_or, arith, Bool, true, false, ◌&&◌, ◌||◌, List, [], ◌∷◌, map, ap, refl, sym, ◌∙◌, bytes_eq}
use Rattle.df_syntax.specs.declared.tree.Named.{Named}
use Rattle.df_syntax.specs.declared.tree.Expr.{Expr}
use Rattle.df_syntax.specs.declared.tree.Arm.{Arm}
use Rattle.df_syntax.specs.declared.tree.Definition.{Definition}
use Rattle.df_syntax.specs.declared.tree.Assign.{Assign}
use Rattle.df_syntax.specs.declared.tree.Node.{out-Node}
use Rattle.df_syntax.specs.declared.tree.Node.TheVariants as n
use Rattle.df_syntax.specs.declared.tree.Node.TheOpen.{Node-F}
use Rattle.df_syntax.specs.Trees.{Opened, layer_of, fold_rolled}
use Rattle.df_syntax.specs.Meaning.{Name}
use Rattle.df_syntax.specs.SourceForms.{is_array}
use Rattle.df_shape.specs.Demands.{Around, Gives, or_array, names_defined, gives_node, gives_array}
use Rattle.df_shape.specs.Endings.{defines, behind, with_defined}
use Rattle.df_shape.proofs.Opened.{rolled_from, is_name, is_call, is_parens, is_if, is_let, is_construct, is_for, is_array as is_element, is_update}
use Rattle.df_shape.proofs.Opened as opened

-- whether an expression gives an array among other arrays
abbrev among : Around → Expr → Gives
among around e arrays = gives_array (record around { arrays = arrays }) e

gives_at : (around : Around) (e : Expr) (x : Opened) → out-Node e.node ≡ x → gives_array around e ≡ gives_node around.gives (layer_of Gives (among around) x) around.arrays
unfolding gives_array
gives_at around e x is =
    ap (λ (g : Gives). g around.arrays) (fold_rolled Gives (λ place node. gives_node around.gives node) e (out-Node e.node) (rolled_from e.node))
    ∙ ap (λ (y : Opened). gives_node around.gives (layer_of Gives (among around) y) around.arrays) is

defined_map : (f : Expr → Gives) (ds : List Definition) (arrays : Name → Bool)
    → names_defined (map (λ (d : Definition). (d.name, d.sort, f d.value)) ds) arrays ≡ behind ds arrays
defined_map f [] arrays = refl
defined_map f (d ∷ ds) arrays = defined_map f ds (or_array arrays d.name.name d.sort)

-- ---- one equation for each form that may be an array

pub named : (around : Around) (e : Expr) (name : Name) → e.node ≡ n.Name name → gives_array around e ≡ around.arrays name
named around e name is = gives_at around e (Node-F.Name name) (opened.named e.node name is)

pub called : (around : Around) (e : Expr) (name : Name) (arguments : List Expr) → e.node ≡ n.Call name arguments → gives_array around e ≡ around.gives name
called around e name arguments is = gives_at around e (Node-F.Call name arguments) (opened.called e.node name arguments is)

pub parens : (around : Around) (e : Expr) (of : Expr) → e.node ≡ n.Parens of → gives_array around e ≡ gives_array around of
parens around e of is = gives_at around e (Node-F.Parens of) (opened.parens e.node of is)

pub chosen : (around : Around) (e : Expr) (arms : List Arm) (last : Expr) → e.node ≡ n.If arms last → gives_array around e ≡ gives_array around last
chosen around e arms last is = gives_at around e (Node-F.If arms last) (opened.chosen e.node arms last is)

pub let_in : (around : Around) (e : Expr) (ds : List Definition) (values : List Expr) (value : Expr) → e.node ≡ n.Let ds values → 1 ≤ length values → value ≡ get_or values 0 value
    → gives_array around e ≡ gives_array (with_defined ds around) value
let_in around e ds [] value is some first = absurd (omega (arith, some))
let_in around e ds (other ∷ values) value is some first =
    gives_at around e (Node-F.Let ds (other ∷ values)) (opened.let_in e.node ds (other ∷ values) is)
    ∙ (ap (λ arrays. gives_array (record around { arrays = arrays }) other) (defined_map (among around) ds around.arrays)
    ∙ ap (gives_array (with_defined ds around)) (sym first))

pub let_nothing : (around : Around) (e : Expr) (ds : List Definition) (values : List Expr) → e.node ≡ n.Let ds values → length values < 1 → gives_array around e ≡ false
let_nothing around e ds [] is none = gives_at around e (Node-F.Let ds []) (opened.let_in e.node ds [] is)
let_nothing around e ds (value ∷ values) is none = absurd (omega (arith, none))

pub construct : (around : Around) (e : Expr) (index : Named) (low high elem : Expr) → e.node ≡ n.Construct index low high elem → gives_array around e ≡ true
construct around e index low high elem is = gives_at around e (Node-F.Construct index low high elem) (opened.construct e.node index low high elem is)

pub loop : (around : Around) (e : Expr) (ds : List Definition) (test : Expr) (assigns : List Assign) (last : Expr) → e.node ≡ n.For ds test assigns last
    → gives_array around e ≡ gives_array (with_defined ds around) last
loop around e ds test assigns last is =
    gives_at around e (Node-F.For ds test assigns last) (opened.loop e.node ds test assigns last is)
    ∙ ap (λ arrays. gives_array (record around { arrays = arrays }) last) (defined_map (among around) ds around.arrays)

pub array : (around : Around) (e : Expr) (at value : Expr) → e.node ≡ n.Array at value → gives_array around e ≡ true
array around e at value is = gives_at around e (Node-F.Array at value) (opened.array e.node at value is)

pub updated : (around : Around) (e : Expr) (name : Name) (at value : Expr) → e.node ≡ n.Update name at value → gives_array around e ≡ true
updated around e name at value is = gives_at around e (Node-F.Update name at value) (opened.updated e.node name at value is)

scalar_at : (calls arrays : Name → Bool) (f : Expr → Gives) (x : Opened)
    → ((name : Name) → x ≡ Node-F.Name name → ⊥)
    → ((name : Name) (arguments : List Expr) → x ≡ Node-F.Call name arguments → ⊥)
    → ((of : Expr) → x ≡ Node-F.Parens of → ⊥)
    → ((arms : List Arm) (last : Expr) → x ≡ Node-F.If arms last → ⊥)
    → ((ds : List Definition) (values : List Expr) → x ≡ Node-F.Let ds values → ⊥)
    → ((index : Named) (low high elem : Expr) → x ≡ Node-F.Construct index low high elem → ⊥)
    → ((ds : List Definition) (test : Expr) (assigns : List Assign) (last : Expr) → x ≡ Node-F.For ds test assigns last → ⊥)
    → ((at value : Expr) → x ≡ Node-F.Array at value → ⊥)
    → ((name : Name) (at value : Expr) → x ≡ Node-F.Update name at value → ⊥)
    → gives_node calls (layer_of Gives f x) arrays ≡ false
scalar_at calls arrays f (Node-F.Name name) a_ b_ c_ d_ e_ f_ g_ h_ i_ = absurd (a_ name refl)
scalar_at calls arrays f (Node-F.Call name arguments) a_ b_ c_ d_ e_ f_ g_ h_ i_ = absurd (b_ name arguments refl)
scalar_at calls arrays f (Node-F.Parens of) a_ b_ c_ d_ e_ f_ g_ h_ i_ = absurd (c_ of refl)
scalar_at calls arrays f (Node-F.If arms last) a_ b_ c_ d_ e_ f_ g_ h_ i_ = absurd (d_ arms last refl)
scalar_at calls arrays f (Node-F.Let ds values) a_ b_ c_ d_ e_ f_ g_ h_ i_ = absurd (e_ ds values refl)
scalar_at calls arrays f (Node-F.Construct index low high elem) a_ b_ c_ d_ e_ f_ g_ h_ i_ = absurd (f_ index low high elem refl)
scalar_at calls arrays f (Node-F.For ds test assigns last) a_ b_ c_ d_ e_ f_ g_ h_ i_ = absurd (g_ ds test assigns last refl)
scalar_at calls arrays f (Node-F.Array at value) a_ b_ c_ d_ e_ f_ g_ h_ i_ = absurd (h_ at value refl)
scalar_at calls arrays f (Node-F.Update name at value) a_ b_ c_ d_ e_ f_ g_ h_ i_ = absurd (i_ name at value refl)
scalar_at calls arrays f x a_ b_ c_ d_ e_ f_ g_ h_ i_ = refl

-- any other expression is a scalar
pub scalar : (around : Around) (e : Expr)
    → ((name : Name) → e.node ≡ n.Name name → ⊥)
    → ((name : Name) (arguments : List Expr) → e.node ≡ n.Call name arguments → ⊥)
    → ((of : Expr) → e.node ≡ n.Parens of → ⊥)
    → ((arms : List Arm) (last : Expr) → e.node ≡ n.If arms last → ⊥)
    → ((ds : List Definition) (values : List Expr) → e.node ≡ n.Let ds values → ⊥)
    → ((index : Named) (low high elem : Expr) → e.node ≡ n.Construct index low high elem → ⊥)
    → ((ds : List Definition) (test : Expr) (assigns : List Assign) (last : Expr) → e.node ≡ n.For ds test assigns last → ⊥)
    → ((at value : Expr) → e.node ≡ n.Array at value → ⊥)
    → ((name : Name) (at value : Expr) → e.node ≡ n.Update name at value → ⊥)
    → gives_array around e ≡ false
scalar around e a_ b_ c_ d_ e_ f_ g_ h_ i_ =
    gives_at around e (out-Node e.node) refl
    ∙ scalar_at around.gives around.arrays (among around) (out-Node e.node)
    (λ name is. a_ name (is_name e.node name is))
    (λ name arguments is. b_ name arguments (is_call e.node name arguments is))
    (λ of is. c_ of (is_parens e.node of is))
    (λ arms last is. d_ arms last (is_if e.node arms last is))
    (λ ds values is. e_ ds values (is_let e.node ds values is))
    (λ index low high elem is. f_ index low high elem (is_construct e.node index low high elem is))
    (λ ds test assigns last is. g_ ds test assigns last (is_for e.node ds test assigns last is))
    (λ at value is. h_ at value (is_element e.node at value is))
    (λ name at value is. i_ name at value (is_update e.node name at value is))

-- ---- names behind definitions

in_turn : (a b c : Bool) → (a || (b || c)) ≡ ((b || a) || c)
in_turn true true c = refl
in_turn true false c = refl
in_turn false true c = refl
in_turn false false c = refl

-- a name is that of an array behind definitions if one of them is such an array, or if it was before
pub behind_is : (ds : List Definition) (arrays : Name → Bool) (name : Name) → behind ds arrays name ≡ (defines ds name || arrays name)
behind_is [] arrays name = refl
behind_is (d ∷ ds) arrays name =
    behind_is ds (or_array arrays d.name.name d.sort) name ∙ in_turn (defines ds name) (is_array d.sort && bytes_eq d.name.name name) (arrays name)
