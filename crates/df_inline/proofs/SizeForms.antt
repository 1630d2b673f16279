-- The size of each form, by what its node holds.
use Rattle.std.proofs.Common.{◌≡◌, ℤ, Bool, List, map, ap, sym, ◌∙◌}
use Rattle.std.proofs.lemmas.Simd.{map-map}
use Rattle.df_values.specs.declared.values.Basic.{Basic}
use Rattle.df_values.specs.declared.values.ErrorValue.{ErrorValue}
use Rattle.df_values.specs.declared.kinds.Op.{Op}
use Rattle.df_values.specs.declared.kinds.Rel.{Rel}
use Rattle.df_values.specs.declared.kinds.Test.{Test}
use Rattle.df_syntax.specs.declared.tree.Named.{Named}
use Rattle.df_syntax.specs.declared.tree.Sort.{Sort}
use Rattle.df_syntax.specs.declared.tree.Expr.{Expr}
use Rattle.df_syntax.specs.declared.tree.Link.{Link}
use Rattle.df_syntax.specs.declared.tree.Arm.{Arm}
use Rattle.df_syntax.specs.declared.tree.Assign.{Assign}
use Rattle.df_syntax.specs.declared.tree.Definition.{Definition}
use Rattle.df_syntax.specs.declared.tree.Node.{roll-Node}
use Rattle.df_syntax.specs.declared.tree.Node.TheVariants as n
use Rattle.df_syntax.specs.declared.tree.Node.TheOpen.{Node-F}
use Rattle.df_syntax.specs.Trees.{Opened, layer_of, fold_rolled}
use Rattle.df_syntax.specs.WellBuilt.{error_nesting, sort_nesting}
use Rattle.df_syntax.specs.Meaning.{Name}
use Rattle.df_inline.specs.declared.size.Size.{Size}
use Rattle.df_inline.specs.Sizes.{nothing, bracketed, both, one_more, inside, beside, node_size, expr_size}
use Rattle.df_inline.specs.Counts.{links_of, arms_of, definitions_of, assigns_of}

pub sized : (of_call : Name → Size) (e : Expr) (x : Opened) → e.node ≡ roll-Node x → expr_size of_call e ≡ node_size of_call (layer_of Size (expr_size of_call) x)
unfolding expr_size
sized of_call e x is = fold_rolled Size (λ place node. node_size of_call node) e x is

links_are : (of_call : Name → Size) (rest : List Link) → beside (map (λ (l : Op × Size). one_more l.1) (map (λ (l : Link). (l.op, expr_size of_call l.operand)) rest)) ≡ links_of of_call rest
links_are of_call rest = ap beside (map-map (λ (l : Op × Size). one_more l.1) (λ (l : Link). (l.op, expr_size of_call l.operand)) rest)

arms_are : (of_call : Name → Size) (arms : List Arm) → beside (map (λ (a : Size × Size). both a.0 a.1) (map (λ (a : Arm). (expr_size of_call a.test, expr_size of_call a.value)) arms)) ≡ arms_of of_call arms
arms_are of_call arms = ap beside (map-map (λ (a : Size × Size). both a.0 a.1) (λ (a : Arm). (expr_size of_call a.test, expr_size of_call a.value)) arms)

definitions_are : (of_call : Name → Size) (ds : List Definition)
    → beside (map (λ (d : Named × Sort × Size). one_more (both (bracketed (sort_nesting d.1)) d.2)) (map (λ (d : Definition). (d.name, d.sort, expr_size of_call d.value)) ds)) ≡ definitions_of of_call ds
definitions_are of_call ds =
    ap beside (map-map (λ (d : Named × Sort × Size). one_more (both (bracketed (sort_nesting d.1)) d.2)) (λ (d : Definition). (d.name, d.sort, expr_size of_call d.value)) ds)

assigns_are : (of_call : Name → Size) (assigns : List Assign) → beside (map (λ (a : Named × Size). one_more a.1) (map (λ (a : Assign). (a.name, expr_size of_call a.value)) assigns)) ≡ assigns_of of_call assigns
assigns_are of_call assigns = ap beside (map-map (λ (a : Named × Size). one_more a.1) (λ (a : Assign). (a.name, expr_size of_call a.value)) assigns)

pub number : (of_call : Name → Size) (e : Expr) (v : ℤ) → e.node ≡ n.Number v
    → expr_size of_call e ≡ one_more nothing
number of_call e v is = sized of_call e (Node-F.Number v) (is ∙ sym (n.rolls-Number v))

pub truth : (of_call : Name → Size) (e : Expr) (v : Bool) → e.node ≡ n.Truth v
    → expr_size of_call e ≡ one_more nothing
truth of_call e v is = sized of_call e (Node-F.Truth v) (is ∙ sym (n.rolls-Truth v))

pub error : (of_call : Name → Size) (e : Expr) (v : ErrorValue) (b : Basic) → e.node ≡ n.Error v b
    → expr_size of_call e ≡ one_more (bracketed (error_nesting v))
error of_call e v b is = sized of_call e (Node-F.Error v b) (is ∙ sym (n.rolls-Error v b))

pub named : (of_call : Name → Size) (e : Expr) (name : Name) → e.node ≡ n.Name name
    → expr_size of_call e ≡ one_more nothing
named of_call e name is = sized of_call e (Node-F.Name name) (is ∙ sym (n.rolls-Name name))

pub access : (of_call : Name → Size) (e : Expr) (name : Name) (at : Expr) → e.node ≡ n.Access name at
    → expr_size of_call e ≡ one_more (inside (expr_size of_call at))
access of_call e name at is = sized of_call e (Node-F.Access name at) (is ∙ sym (n.rolls-Access name at))

pub call : (of_call : Name → Size) (e : Expr) (name : Name) (arguments : List Expr) → e.node ≡ n.Call name arguments
    → expr_size of_call e ≡ one_more (inside (both (beside (map (expr_size of_call) arguments)) (of_call name)))
call of_call e name arguments is = sized of_call e (Node-F.Call name arguments) (is ∙ sym (n.rolls-Call name arguments))

pub chain : (of_call : Name → Size) (e : Expr) (first : Expr) (rest : List Link) → e.node ≡ n.Chain first rest
    → expr_size of_call e ≡ one_more (both (expr_size of_call first) (links_of of_call rest))
chain of_call e first rest is =
    sized of_call e (Node-F.Chain first rest) (is ∙ sym (n.rolls-Chain first rest))
    ∙ ap (λ s. one_more (both (expr_size of_call first) s)) (links_are of_call rest)

pub compared : (of_call : Name → Size) (e : Expr) (rel : Rel) (left : Expr) (right : Expr) → e.node ≡ n.Compare rel left right
    → expr_size of_call e ≡ one_more (both (expr_size of_call left) (expr_size of_call right))
compared of_call e rel left right is = sized of_call e (Node-F.Compare rel left right) (is ∙ sym (n.rolls-Compare rel left right))

pub negate : (of_call : Name → Size) (e : Expr) (of : Expr) → e.node ≡ n.Negate of
    → expr_size of_call e ≡ one_more (expr_size of_call of)
negate of_call e of is = sized of_call e (Node-F.Negate of) (is ∙ sym (n.rolls-Negate of))

pub invert : (of_call : Name → Size) (e : Expr) (of : Expr) → e.node ≡ n.Invert of
    → expr_size of_call e ≡ one_more (expr_size of_call of)
invert of_call e of is = sized of_call e (Node-F.Invert of) (is ∙ sym (n.rolls-Invert of))

pub parens : (of_call : Name → Size) (e : Expr) (of : Expr) → e.node ≡ n.Parens of
    → expr_size of_call e ≡ one_more (inside (expr_size of_call of))
parens of_call e of is = sized of_call e (Node-F.Parens of) (is ∙ sym (n.rolls-Parens of))

pub tested : (of_call : Name → Size) (e : Expr) (test : Test) (of : Expr) → e.node ≡ n.Test test of
    → expr_size of_call e ≡ one_more (inside (expr_size of_call of))
tested of_call e test of is = sized of_call e (Node-F.Test test of) (is ∙ sym (n.rolls-Test test of))

pub two_place : (of_call : Name → Size) (e : Expr) (op : Op) (left : Expr) (right : Expr) → e.node ≡ n.TwoPlace op left right
    → expr_size of_call e ≡ one_more (inside (both (expr_size of_call left) (expr_size of_call right)))
two_place of_call e op left right is = sized of_call e (Node-F.TwoPlace op left right) (is ∙ sym (n.rolls-TwoPlace op left right))

pub chosen : (of_call : Name → Size) (e : Expr) (arms : List Arm) (last : Expr) → e.node ≡ n.If arms last
    → expr_size of_call e ≡ one_more (inside (both (arms_of of_call arms) (expr_size of_call last)))
chosen of_call e arms last is =
    sized of_call e (Node-F.If arms last) (is ∙ sym (n.rolls-If arms last))
    ∙ ap (λ s. one_more (inside (both s (expr_size of_call last)))) (arms_are of_call arms)

pub let_is : (of_call : Name → Size) (e : Expr) (ds : List Definition) (es : List Expr) → e.node ≡ n.Let ds es
    → expr_size of_call e ≡ one_more (inside (both (definitions_of of_call ds) (beside (map (expr_size of_call) es))))
let_is of_call e ds es is =
    sized of_call e (Node-F.Let ds es) (is ∙ sym (n.rolls-Let ds es))
    ∙ ap (λ s. one_more (inside (both s (beside (map (expr_size of_call) es))))) (definitions_are of_call ds)

pub construct : (of_call : Name → Size) (e : Expr) (index : Named) (low : Expr) (high : Expr) (elem : Expr) → e.node ≡ n.Construct index low high elem
    → expr_size of_call e ≡ one_more (inside (both (inside (both (expr_size of_call low) (expr_size of_call high))) (expr_size of_call elem)))
construct of_call e index low high elem is = sized of_call e (Node-F.Construct index low high elem) (is ∙ sym (n.rolls-Construct index low high elem))

pub folded : (of_call : Name → Size) (e : Expr) (index : Named) (low : Expr) (high : Expr) (op : Op) (elem : Expr) → e.node ≡ n.Fold index low high op elem
    → expr_size of_call e ≡ one_more (inside (both (inside (both (expr_size of_call low) (expr_size of_call high))) (expr_size of_call elem)))
folded of_call e index low high op elem is = sized of_call e (Node-F.Fold index low high op elem) (is ∙ sym (n.rolls-Fold index low high op elem))

pub looped : (of_call : Name → Size) (e : Expr) (ds : List Definition) (test : Expr) (assigns : List Assign) (last : Expr) → e.node ≡ n.For ds test assigns last
    → expr_size of_call e ≡ one_more (inside (both (definitions_of of_call ds) (inside (both (expr_size of_call test) (both (assigns_of of_call assigns) (expr_size of_call last))))))
looped of_call e ds test assigns last is =
    sized of_call e (Node-F.For ds test assigns last) (is ∙ sym (n.rolls-For ds test assigns last))
    ∙ (ap (λ s. one_more (inside (both s (inside (both (expr_size of_call test) (both (beside (map (λ (a : Named × Size). one_more a.1) (map (λ (a : Assign). (a.name, expr_size of_call a.value)) assigns))) (expr_size of_call last))))))) (definitions_are of_call ds)
    ∙ ap (λ s. one_more (inside (both (definitions_of of_call ds) (inside (both (expr_size of_call test) (both s (expr_size of_call last))))))) (assigns_are of_call assigns))

pub array : (of_call : Name → Size) (e : Expr) (at : Expr) (value : Expr) → e.node ≡ n.Array at value
    → expr_size of_call e ≡ one_more (inside (both (expr_size of_call at) (expr_size of_call value)))
array of_call e at value is = sized of_call e (Node-F.Array at value) (is ∙ sym (n.rolls-Array at value))

pub updated : (of_call : Name → Size) (e : Expr) (name : Name) (at : Expr) (value : Expr) → e.node ≡ n.Update name at value
    → expr_size of_call e ≡ one_more (inside (both (expr_size of_call at) (expr_size of_call value)))
updated of_call e name at value is = sized of_call e (Node-F.Update name at value) (is ∙ sym (n.rolls-Update name at value))
