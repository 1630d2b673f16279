-- Whether a name stands in an expression, by what the node holds.
use Rattle.std.proofs.Common.{◌≡◌, ℤ, Bool, List, [], ◌∷◌, map, ap, refl, ◌∙◌, false, ◌||◌, bytes_eq}
use Rattle.std.specs.List.{list_any}
use Rattle.df_values.specs.declared.values.Basic.{Basic}
use Rattle.df_values.specs.declared.values.ErrorValue.{ErrorValue}
use Rattle.df_values.specs.declared.kinds.Op.{Op}
use Rattle.df_values.specs.declared.kinds.Rel.{Rel}
use Rattle.df_values.specs.declared.kinds.Test.{Test}
use Rattle.df_syntax.specs.declared.tree.Named.{Named}
use Rattle.df_syntax.specs.declared.tree.Sort.{Sort}
use Rattle.df_syntax.specs.declared.tree.Expr.{Expr}
use Rattle.df_syntax.specs.declared.tree.Link.{Link}
use Rattle.df_syntax.specs.declared.tree.Arm.{Arm}
use Rattle.df_syntax.specs.declared.tree.Definition.{Definition}
use Rattle.df_syntax.specs.declared.tree.Assign.{Assign}
use Rattle.df_syntax.specs.declared.tree.Node.{out-Node}
use Rattle.df_syntax.specs.declared.tree.Node.TheVariants as n
use Rattle.df_syntax.specs.declared.tree.Node.TheOpen.{Node-F}
use Rattle.df_syntax.specs.Trees.{Opened, layer_of, fold_rolled}
use Rattle.df_syntax.specs.Meaning.{Name}
use Rattle.df_syntax.specs.SourceForms.{names_it, names_node}
use Rattle.df_shape.specs.NamesInside.{in_links, in_arms, in_definitions, in_assigns, in_values}
use Rattle.df_shape.proofs.Opened.{rolled_from}
use Rattle.df_shape.proofs.Opened as opened

names_at : (name : Name) (e : Expr) (x : Opened) → out-Node e.node ≡ x → names_it name e ≡ names_node name (layer_of Bool (names_it name) x)
unfolding names_it
names_at name e x is =
    fold_rolled Bool (λ place node. names_node name node) e (out-Node e.node) (rolled_from e.node)
    ∙ ap (λ (y : Opened). names_node name (layer_of Bool (names_it name) y)) is

-- ---- the parts of a form

-- whether one of these is so
any_of : {X Y : Type 0} (g : Y → Bool) (f : X → Y) (xs : List X) → list_any g (map f xs) ≡ list_any (λ x. g (f x)) xs
any_of g f [] = refl
any_of g f (x ∷ xs) = ap (λ b. g (f x) || b) (any_of g f xs)

-- ---- one equation for each form

pub number : (name : Name) (e : Expr) (v : ℤ) → e.node ≡ n.Number v → names_it name e ≡ false
number name e v is = names_at name e (Node-F.Number v) (opened.number e.node v is)

pub truth : (name : Name) (e : Expr) (v : Bool) → e.node ≡ n.Truth v → names_it name e ≡ false
truth name e v is = names_at name e (Node-F.Truth v) (opened.truth e.node v is)

pub fault : (name : Name) (e : Expr) (v : ErrorValue) (b : Basic) → e.node ≡ n.Error v b → names_it name e ≡ false
fault name e v b is = names_at name e (Node-F.Error v b) (opened.fault e.node v b is)

pub named : (name : Name) (e : Expr) (other : Name) → e.node ≡ n.Name other → names_it name e ≡ bytes_eq name other
named name e other is = names_at name e (Node-F.Name other) (opened.named e.node other is)

pub access : (name : Name) (e : Expr) (array : Name) (at : Expr) → e.node ≡ n.Access array at → names_it name e ≡ names_it name at
access name e array at is = names_at name e (Node-F.Access array at) (opened.access e.node array at is)

pub called : (name : Name) (e : Expr) (function : Name) (arguments : List Expr) → e.node ≡ n.Call function arguments → names_it name e ≡ in_values name arguments
called name e function arguments is =
    names_at name e (Node-F.Call function arguments) (opened.called e.node function arguments is) ∙ any_of (λ b. b) (names_it name) arguments

pub chain : (name : Name) (e : Expr) (first : Expr) (rest : List Link) → e.node ≡ n.Chain first rest → names_it name e ≡ (names_it name first || in_links name rest)
chain name e first rest is =
    names_at name e (Node-F.Chain first rest) (opened.chain e.node first rest is)
    ∙ ap (λ b. names_it name first || b) (any_of (λ (l : Op × Bool). l.1) (λ (l : Link). (l.op, names_it name l.operand)) rest)

pub compared : (name : Name) (e : Expr) (rel : Rel) (left right : Expr) → e.node ≡ n.Compare rel left right → names_it name e ≡ (names_it name left || names_it name right)
compared name e rel left right is = names_at name e (Node-F.Compare rel left right) (opened.compared e.node rel left right is)

pub negate : (name : Name) (e : Expr) (of : Expr) → e.node ≡ n.Negate of → names_it name e ≡ names_it name of
negate name e of is = names_at name e (Node-F.Negate of) (opened.negate e.node of is)

pub invert : (name : Name) (e : Expr) (of : Expr) → e.node ≡ n.Invert of → names_it name e ≡ names_it name of
invert name e of is = names_at name e (Node-F.Invert of) (opened.invert e.node of is)

pub parens : (name : Name) (e : Expr) (of : Expr) → e.node ≡ n.Parens of → names_it name e ≡ names_it name of
parens name e of is = names_at name e (Node-F.Parens of) (opened.parens e.node of is)

pub tested : (name : Name) (e : Expr) (test : Test) (of : Expr) → e.node ≡ n.Test test of → names_it name e ≡ names_it name of
tested name e test of is = names_at name e (Node-F.Test test of) (opened.tested e.node test of is)

pub two_place : (name : Name) (e : Expr) (op : Op) (left right : Expr) → e.node ≡ n.TwoPlace op left right → names_it name e ≡ (names_it name left || names_it name right)
two_place name e op left right is = names_at name e (Node-F.TwoPlace op left right) (opened.two_place e.node op left right is)

pub chosen : (name : Name) (e : Expr) (arms : List Arm) (last : Expr) → e.node ≡ n.If arms last → names_it name e ≡ (in_arms name arms || names_it name last)
chosen name e arms last is =
    names_at name e (Node-F.If arms last) (opened.chosen e.node arms last is)
    ∙ ap (λ b. b || names_it name last) (any_of (λ (a : Bool × Bool). a.0 || a.1) (λ (a : Arm). (names_it name a.test, names_it name a.value)) arms)

pub let_in : (name : Name) (e : Expr) (ds : List Definition) (values : List Expr) → e.node ≡ n.Let ds values → names_it name e ≡ (in_definitions name ds || in_values name values)
let_in name e ds values is =
    names_at name e (Node-F.Let ds values) (opened.let_in e.node ds values is)
    ∙ (ap (λ b. b || list_any (λ b. b) (map (names_it name) values)) (any_of (λ (d : Named × Sort × Bool). d.2) (λ (d : Definition). (d.name, d.sort, names_it name d.value)) ds)
    ∙ ap (λ b. in_definitions name ds || b) (any_of (λ b. b) (names_it name) values))

pub construct : (name : Name) (e : Expr) (index : Named) (low high elem : Expr) → e.node ≡ n.Construct index low high elem
    → names_it name e ≡ (names_it name low || (names_it name high || names_it name elem))
construct name e index low high elem is = names_at name e (Node-F.Construct index low high elem) (opened.construct e.node index low high elem is)

pub folded : (name : Name) (e : Expr) (index : Named) (low high : Expr) (op : Op) (elem : Expr) → e.node ≡ n.Fold index low high op elem
    → names_it name e ≡ (names_it name low || (names_it name high || names_it name elem))
folded name e index low high op elem is = names_at name e (Node-F.Fold index low high op elem) (opened.folded e.node index low high op elem is)

pub loop : (name : Name) (e : Expr) (ds : List Definition) (test : Expr) (assigns : List Assign) (last : Expr) → e.node ≡ n.For ds test assigns last
    → names_it name e ≡ (in_definitions name ds || (names_it name test || (in_assigns name assigns || names_it name last)))
loop name e ds test assigns last is =
    names_at name e (Node-F.For ds test assigns last) (opened.loop e.node ds test assigns last is)
    ∙ (ap (λ b. b || (names_it name test || (list_any (λ (a : Named × Bool). a.1) (map (λ (a : Assign). (a.name, names_it name a.value)) assigns) || names_it name last)))
    (any_of (λ (d : Named × Sort × Bool). d.2) (λ (d : Definition). (d.name, d.sort, names_it name d.value)) ds)
    ∙ ap (λ b. in_definitions name ds || (names_it name test || (b || names_it name last)))
    (any_of (λ (a : Named × Bool). a.1) (λ (a : Assign). (a.name, names_it name a.value)) assigns))

pub array : (name : Name) (e : Expr) (at value : Expr) → e.node ≡ n.Array at value → names_it name e ≡ (names_it name at || names_it name value)
array name e at value is = names_at name e (Node-F.Array at value) (opened.array e.node at value is)

pub updated : (name : Name) (e : Expr) (array : Name) (at value : Expr) → e.node ≡ n.Update array at value → names_it name e ≡ (names_it name at || names_it name value)
updated name e array at value is = names_at name e (Node-F.Update array at value) (opened.updated e.node array at value is)

pub ruleset forms =
    (number, truth, fault, named, access, called, chain, compared, negate, invert, parens, tested, two_place, chosen, let_in, construct, folded, loop, array, updated)
