-- Each form in blocks, by what its node holds.
use Rattle.std.proofs.Common.{◌≡◌, ℤ, Bool, List, map, ap, sym, ◌∙◌}
use Rattle.df_values.specs.declared.values.Basic.{Basic}
use Rattle.df_values.specs.declared.values.ErrorValue.{ErrorValue}
use Rattle.df_values.specs.declared.kinds.Op.{Op}
use Rattle.df_values.specs.declared.kinds.Rel.{Rel}
use Rattle.df_values.specs.declared.kinds.Test.{Test}
use Rattle.df_syntax.specs.declared.tree.Named.{Named}
use Rattle.df_syntax.specs.declared.tree.Sort.{Sort}
use Rattle.df_syntax.specs.declared.tree.Expr.{Expr}
use Rattle.df_syntax.specs.declared.tree.Link.{Link}
use Rattle.df_syntax.specs.declared.tree.Arm.{Arm}
use Rattle.df_syntax.specs.declared.tree.Assign.{Assign}
use Rattle.df_syntax.specs.declared.tree.Definition.{Definition}
use Rattle.df_syntax.specs.declared.tree.Node.{roll-Node}
use Rattle.df_syntax.specs.declared.tree.Node.TheVariants as n
use Rattle.df_syntax.specs.declared.tree.Node.TheOpen.{Node-F}
use Rattle.df_syntax.specs.Grammar.{made_at, link_of, arm_of, definition_of, assign_of}
use Rattle.df_syntax.specs.Trees.{Opened, layer_of, fold_rolled, rolled}
use Rattle.df_syntax.specs.Meaning.{Name}
use Rattle.df_shape.specs.Renamed.{Names, value_renamed, array_name, node_renamed, renamed}
use Rattle.df_shape.specs.RenamedParts.{links_renamed, arms_renamed, definitions_renamed, assigns_renamed}
use Rattle.std.proofs.lemmas.Simd.{map-map}

renamed_whole : (names : Names) (e : Expr) (x : Opened) → e.node ≡ roll-Node x
    → renamed names e ≡ made_at e.place (node_renamed names (layer_of Expr (renamed names) x))
unfolding renamed
renamed_whole names e x is = fold_rolled Expr (λ place node. made_at place (node_renamed names node)) e x is

pub renamed_node : (names : Names) (e : Expr) (x : Opened) → e.node ≡ roll-Node x
    → (renamed names e).node ≡ node_renamed names (layer_of Expr (renamed names) x)
renamed_node names e x is = ap (λ (d : Expr). d.node) (renamed_whole names e x is)

pub call : (names : Names) (e : Expr) (name : Name) (arguments : List Expr) → e.node ≡ n.Call name arguments
    → (renamed names e).node ≡ n.Call name (map (renamed names) arguments)
call names e name arguments is = renamed_node names e (Node-F.Call name arguments) (is ∙ sym (n.rolls-Call name arguments))

pub number : (names : Names) (e : Expr) (v : ℤ) → e.node ≡ n.Number v → (renamed names e).node ≡ n.Number v
number names e v is = renamed_node names e (Node-F.Number v) (is ∙ sym (n.rolls-Number v))

pub truth : (names : Names) (e : Expr) (v : Bool) → e.node ≡ n.Truth v → (renamed names e).node ≡ n.Truth v
truth names e v is = renamed_node names e (Node-F.Truth v) (is ∙ sym (n.rolls-Truth v))

pub error : (names : Names) (e : Expr) (v : ErrorValue) (b : Basic) → e.node ≡ n.Error v b → (renamed names e).node ≡ n.Error v b
error names e v b is = renamed_node names e (Node-F.Error v b) (is ∙ sym (n.rolls-Error v b))

pub named : (names : Names) (e : Expr) (name : Name) → e.node ≡ n.Name name → (renamed names e).node ≡ value_renamed name (names name)
named names e name is = renamed_node names e (Node-F.Name name) (is ∙ sym (n.rolls-Name name))

pub access : (names : Names) (e : Expr) (name : Name) (at : Expr) → e.node ≡ n.Access name at
    → (renamed names e).node ≡ n.Access (array_name name (names name)) (renamed names at)
access names e name at is = renamed_node names e (Node-F.Access name at) (is ∙ sym (n.rolls-Access name at))

pub chain : (names : Names) (e : Expr) (first : Expr) (rest : List Link) → e.node ≡ n.Chain first rest
    → (renamed names e).node ≡ n.Chain (renamed names first) (links_renamed names rest)
chain names e first rest is =
    renamed_node names e (Node-F.Chain first rest) (is ∙ sym (n.rolls-Chain first rest))
    ∙ ap (n.Chain (renamed names first)) (map-map link_of (λ (l : Link). (l.op, renamed names l.operand)) rest)

pub compared : (names : Names) (e : Expr) (rel : Rel) (left right : Expr) → e.node ≡ n.Compare rel left right
    → (renamed names e).node ≡ n.Compare rel (renamed names left) (renamed names right)
compared names e rel left right is = renamed_node names e (Node-F.Compare rel left right) (is ∙ sym (n.rolls-Compare rel left right))

pub negate : (names : Names) (e : Expr) (of : Expr) → e.node ≡ n.Negate of → (renamed names e).node ≡ n.Negate (renamed names of)
negate names e of is = renamed_node names e (Node-F.Negate of) (is ∙ sym (n.rolls-Negate of))

pub invert : (names : Names) (e : Expr) (of : Expr) → e.node ≡ n.Invert of → (renamed names e).node ≡ n.Invert (renamed names of)
invert names e of is = renamed_node names e (Node-F.Invert of) (is ∙ sym (n.rolls-Invert of))

pub parens : (names : Names) (e : Expr) (of : Expr) → e.node ≡ n.Parens of → (renamed names e).node ≡ n.Parens (renamed names of)
parens names e of is = renamed_node names e (Node-F.Parens of) (is ∙ sym (n.rolls-Parens of))

pub tested : (names : Names) (e : Expr) (test : Test) (of : Expr) → e.node ≡ n.Test test of → (renamed names e).node ≡ n.Test test (renamed names of)
tested names e test of is = renamed_node names e (Node-F.Test test of) (is ∙ sym (n.rolls-Test test of))

pub two_place : (names : Names) (e : Expr) (op : Op) (left right : Expr) → e.node ≡ n.TwoPlace op left right
    → (renamed names e).node ≡ n.TwoPlace op (renamed names left) (renamed names right)
two_place names e op left right is = renamed_node names e (Node-F.TwoPlace op left right) (is ∙ sym (n.rolls-TwoPlace op left right))

pub chosen : (names : Names) (e : Expr) (arms : List Arm) (last : Expr) → e.node ≡ n.If arms last
    → (renamed names e).node ≡ n.If (arms_renamed names arms) (renamed names last)
chosen names e arms last is =
    renamed_node names e (Node-F.If arms last) (is ∙ sym (n.rolls-If arms last))
    ∙ ap (λ l. n.If l (renamed names last)) (map-map (λ (a : Expr × Expr). arm_of a.0 a.1) (λ (a : Arm). (renamed names a.test, renamed names a.value)) arms)

defined : (names : Names) (ds : List Definition)
    → map (λ (d : Named × Sort × Expr). definition_of d.0 d.1 d.2) (map (λ (d : Definition). (d.name, d.sort, renamed names d.value)) ds) ≡
    definitions_renamed names ds
defined names ds = map-map (λ (d : Named × Sort × Expr). definition_of d.0 d.1 d.2) (λ (d : Definition). (d.name, d.sort, renamed names d.value)) ds

assigned : (names : Names) (assigns : List Assign)
    → map (λ (a : Named × Expr). assign_of a.0 a.1) (map (λ (a : Assign). (a.name, renamed names a.value)) assigns) ≡ assigns_renamed names assigns
assigned names assigns = map-map (λ (a : Named × Expr). assign_of a.0 a.1) (λ (a : Assign). (a.name, renamed names a.value)) assigns

pub let_is : (names : Names) (e : Expr) (ds : List Definition) (es : List Expr) → e.node ≡ n.Let ds es
    → (renamed names e).node ≡ n.Let (definitions_renamed names ds) (map (renamed names) es)
let_is names e ds es is =
    renamed_node names e (Node-F.Let ds es) (is ∙ sym (n.rolls-Let ds es)) ∙ ap (λ l. n.Let l (map (renamed names) es)) (defined names ds)

pub construct : (names : Names) (e : Expr) (index : Named) (low high elem : Expr) → e.node ≡ n.Construct index low high elem
    → (renamed names e).node ≡ n.Construct index (renamed names low) (renamed names high) (renamed names elem)
construct names e index low high elem is = renamed_node names e (Node-F.Construct index low high elem) (is ∙ sym (n.rolls-Construct index low high elem))

pub folded : (names : Names) (e : Expr) (index : Named) (low high : Expr) (op : Op) (elem : Expr) → e.node ≡ n.Fold index low high op elem
    → (renamed names e).node ≡ n.Fold index (renamed names low) (renamed names high) op (renamed names elem)
folded names e index low high op elem is = renamed_node names e (Node-F.Fold index low high op elem) (is ∙ sym (n.rolls-Fold index low high op elem))

pub looped : (names : Names) (e : Expr) (ds : List Definition) (test : Expr) (assigns : List Assign) (last : Expr) → e.node ≡ n.For ds test assigns last
    → (renamed names e).node ≡ n.For (definitions_renamed names ds) (renamed names test) (assigns_renamed names assigns) (renamed names last)
looped names e ds test assigns last is =
    renamed_node names e (Node-F.For ds test assigns last) (is ∙ sym (n.rolls-For ds test assigns last))
    ∙ (ap (λ l. n.For l (renamed names test)
    (map (λ (a : Named × Expr). assign_of a.0 a.1) (map (λ (a : Assign). (a.name, renamed names a.value)) assigns)) (renamed names last)) (defined names ds)
    ∙ ap (λ l. n.For (definitions_renamed names ds) (renamed names test) l (renamed names last)) (assigned names assigns))

-- the same from what its parts are
pub looped_by : (names : Names) (e : Expr) (ds : List Definition) (test : Expr) (assigns : List Assign) (last : Expr)
    (new_ds : List Definition) (new_test : Expr) (new_assigns : List Assign) (new_last : Expr) → e.node ≡ n.For ds test assigns last
    → new_ds ≡ definitions_renamed names ds → new_test ≡ renamed names test → new_assigns ≡ assigns_renamed names assigns → new_last ≡ renamed names last
    → n.For new_ds new_test new_assigns new_last ≡ (renamed names e).node
looped_by names e ds test assigns last new_ds new_test new_assigns new_last is p q r s =
    ap (λ x. n.For x new_test new_assigns new_last) p
    ∙ (ap (λ x. n.For (definitions_renamed names ds) x new_assigns new_last) q
    ∙ (ap (λ x. n.For (definitions_renamed names ds) (renamed names test) x new_last) r
    ∙ (ap (λ x. n.For (definitions_renamed names ds) (renamed names test) (assigns_renamed names assigns) x) s
    ∙ sym (looped names e ds test assigns last is))))

pub array : (names : Names) (e : Expr) (at value : Expr) → e.node ≡ n.Array at value → (renamed names e).node ≡ n.Array (renamed names at) (renamed names value)
array names e at value is = renamed_node names e (Node-F.Array at value) (is ∙ sym (n.rolls-Array at value))

pub updated : (names : Names) (e : Expr) (name : Name) (at value : Expr) → e.node ≡ n.Update name at value
    → (renamed names e).node ≡ n.Update name (renamed names at) (renamed names value)
updated names e name at value is = renamed_node names e (Node-F.Update name at value) (is ∙ sym (n.rolls-Update name at value))

-- an expression keeps its place
pub placed : (names : Names) (e : Expr) → renamed names e ≡ made_at e.place (renamed names e).node
placed names e =
    let r = rolled e.node in
    renamed_whole names e r.0 r.1 ∙ ap (made_at e.place) (sym (renamed_node names e r.0 r.1))

pub ruleset forms = (number, truth, error, named, access, compared, negate, invert, parens, tested, two_place, array)
