-- What a node is, opened, by what it holds.
use Rattle.std.proofs.Common.{◌≡◌, ℤ, Bool, List, ap, sym, ◌∙◌}
use Rattle.df_values.specs.declared.values.Basic.{Basic}
use Rattle.df_values.specs.declared.values.ErrorValue.{ErrorValue}
use Rattle.df_values.specs.declared.kinds.Op.{Op}
use Rattle.df_values.specs.declared.kinds.Rel.{Rel}
use Rattle.df_values.specs.declared.kinds.Test.{Test}
use Rattle.df_syntax.specs.declared.tree.Named.{Named}
use Rattle.df_syntax.specs.declared.tree.Expr.{Expr}
use Rattle.df_syntax.specs.declared.tree.Link.{Link}
use Rattle.df_syntax.specs.declared.tree.Arm.{Arm}
use Rattle.df_syntax.specs.declared.tree.Definition.{Definition}
use Rattle.df_syntax.specs.declared.tree.Assign.{Assign}
use Rattle.df_syntax.specs.declared.tree.Node.{Node, roll-Node, out-Node, out-roll-Node}
use Rattle.df_syntax.specs.declared.tree.Node.TheVariants as n
use Rattle.df_syntax.specs.declared.tree.Node.TheOpen.{Node-F}
use Rattle.df_syntax.specs.Trees.{Opened, rolled}
use Rattle.df_syntax.specs.Meaning.{Name}

-- a node that is rolled from an opened one
pub opened : (m : Node) (x : Opened) → m ≡ roll-Node x → out-Node m ≡ x
opened m x is = ap (λ (k : Node). out-Node k) is ∙ out-roll-Node x

-- each node is rolled from what it is, opened
pub rolled_from : (m : Node) → m ≡ roll-Node (out-Node m)
rolled_from m = let r = rolled m in r.1 ∙ ap (λ (x : Opened). roll-Node x) (sym (opened m r.0 r.1))

-- ---- one equation for each form

pub number : (m : Node) (v : ℤ) → m ≡ n.Number v → out-Node m ≡ Node-F.Number v
number m v is = opened m (Node-F.Number v) (is ∙ sym (n.rolls-Number v))

pub truth : (m : Node) (v : Bool) → m ≡ n.Truth v → out-Node m ≡ Node-F.Truth v
truth m v is = opened m (Node-F.Truth v) (is ∙ sym (n.rolls-Truth v))

pub fault : (m : Node) (v : ErrorValue) (b : Basic) → m ≡ n.Error v b → out-Node m ≡ Node-F.Error v b
fault m v b is = opened m (Node-F.Error v b) (is ∙ sym (n.rolls-Error v b))

pub named : (m : Node) (name : Name) → m ≡ n.Name name → out-Node m ≡ Node-F.Name name
named m name is = opened m (Node-F.Name name) (is ∙ sym (n.rolls-Name name))

pub access : (m : Node) (name : Name) (at : Expr) → m ≡ n.Access name at → out-Node m ≡ Node-F.Access name at
access m name at is = opened m (Node-F.Access name at) (is ∙ sym (n.rolls-Access name at))

pub called : (m : Node) (name : Name) (arguments : List Expr) → m ≡ n.Call name arguments → out-Node m ≡ Node-F.Call name arguments
called m name arguments is = opened m (Node-F.Call name arguments) (is ∙ sym (n.rolls-Call name arguments))

pub chain : (m : Node) (first : Expr) (rest : List Link) → m ≡ n.Chain first rest → out-Node m ≡ Node-F.Chain first rest
chain m first rest is = opened m (Node-F.Chain first rest) (is ∙ sym (n.rolls-Chain first rest))

pub compared : (m : Node) (rel : Rel) (left right : Expr) → m ≡ n.Compare rel left right → out-Node m ≡ Node-F.Compare rel left right
compared m rel left right is = opened m (Node-F.Compare rel left right) (is ∙ sym (n.rolls-Compare rel left right))

pub negate : (m : Node) (of : Expr) → m ≡ n.Negate of → out-Node m ≡ Node-F.Negate of
negate m of is = opened m (Node-F.Negate of) (is ∙ sym (n.rolls-Negate of))

pub invert : (m : Node) (of : Expr) → m ≡ n.Invert of → out-Node m ≡ Node-F.Invert of
invert m of is = opened m (Node-F.Invert of) (is ∙ sym (n.rolls-Invert of))

pub parens : (m : Node) (of : Expr) → m ≡ n.Parens of → out-Node m ≡ Node-F.Parens of
parens m of is = opened m (Node-F.Parens of) (is ∙ sym (n.rolls-Parens of))

pub tested : (m : Node) (test : Test) (of : Expr) → m ≡ n.Test test of → out-Node m ≡ Node-F.Test test of
tested m test of is = opened m (Node-F.Test test of) (is ∙ sym (n.rolls-Test test of))

pub two_place : (m : Node) (op : Op) (left right : Expr) → m ≡ n.TwoPlace op left right → out-Node m ≡ Node-F.TwoPlace op left right
two_place m op left right is = opened m (Node-F.TwoPlace op left right) (is ∙ sym (n.rolls-TwoPlace op left right))

pub chosen : (m : Node) (arms : List Arm) (last : Expr) → m ≡ n.If arms last → out-Node m ≡ Node-F.If arms last
chosen m arms last is = opened m (Node-F.If arms last) (is ∙ sym (n.rolls-If arms last))

pub let_in : (m : Node) (ds : List Definition) (values : List Expr) → m ≡ n.Let ds values → out-Node m ≡ Node-F.Let ds values
let_in m ds values is = opened m (Node-F.Let ds values) (is ∙ sym (n.rolls-Let ds values))

pub construct : (m : Node) (index : Named) (low high elem : Expr) → m ≡ n.Construct index low high elem → out-Node m ≡ Node-F.Construct index low high elem
construct m index low high elem is = opened m (Node-F.Construct index low high elem) (is ∙ sym (n.rolls-Construct index low high elem))

pub folded : (m : Node) (index : Named) (low high : Expr) (op : Op) (elem : Expr) → m ≡ n.Fold index low high op elem → out-Node m ≡ Node-F.Fold index low high op elem
folded m index low high op elem is = opened m (Node-F.Fold index low high op elem) (is ∙ sym (n.rolls-Fold index low high op elem))

pub loop : (m : Node) (ds : List Definition) (test : Expr) (assigns : List Assign) (last : Expr) → m ≡ n.For ds test assigns last → out-Node m ≡ Node-F.For ds test assigns last
loop m ds test assigns last is = opened m (Node-F.For ds test assigns last) (is ∙ sym (n.rolls-For ds test assigns last))

pub array : (m : Node) (at value : Expr) → m ≡ n.Array at value → out-Node m ≡ Node-F.Array at value
array m at value is = opened m (Node-F.Array at value) (is ∙ sym (n.rolls-Array at value))

pub updated : (m : Node) (name : Name) (at value : Expr) → m ≡ n.Update name at value → out-Node m ≡ Node-F.Update name at value
updated m name at value is = opened m (Node-F.Update name at value) (is ∙ sym (n.rolls-Update name at value))

-- and back

pub is_number : (m : Node) (v : ℤ) → out-Node m ≡ Node-F.Number v → m ≡ n.Number v
is_number m v is = rolled_from m ∙ (ap (λ (x : Opened). roll-Node x) is ∙ n.rolls-Number v)

pub is_truth : (m : Node) (v : Bool) → out-Node m ≡ Node-F.Truth v → m ≡ n.Truth v
is_truth m v is = rolled_from m ∙ (ap (λ (x : Opened). roll-Node x) is ∙ n.rolls-Truth v)

pub is_error : (m : Node) (v : ErrorValue) (b : Basic) → out-Node m ≡ Node-F.Error v b → m ≡ n.Error v b
is_error m v b is = rolled_from m ∙ (ap (λ (x : Opened). roll-Node x) is ∙ n.rolls-Error v b)

pub is_name : (m : Node) (name : Name) → out-Node m ≡ Node-F.Name name → m ≡ n.Name name
is_name m name is = rolled_from m ∙ (ap (λ (x : Opened). roll-Node x) is ∙ n.rolls-Name name)

pub is_call : (m : Node) (name : Name) (arguments : List Expr) → out-Node m ≡ Node-F.Call name arguments → m ≡ n.Call name arguments
is_call m name arguments is = rolled_from m ∙ (ap (λ (x : Opened). roll-Node x) is ∙ n.rolls-Call name arguments)

pub is_chain : (m : Node) (first : Expr) (rest : List Link) → out-Node m ≡ Node-F.Chain first rest → m ≡ n.Chain first rest
is_chain m first rest is = rolled_from m ∙ (ap (λ (x : Opened). roll-Node x) is ∙ n.rolls-Chain first rest)

pub is_negate : (m : Node) (of : Expr) → out-Node m ≡ Node-F.Negate of → m ≡ n.Negate of
is_negate m of is = rolled_from m ∙ (ap (λ (x : Opened). roll-Node x) is ∙ n.rolls-Negate of)

pub is_parens : (m : Node) (of : Expr) → out-Node m ≡ Node-F.Parens of → m ≡ n.Parens of
is_parens m of is = rolled_from m ∙ (ap (λ (x : Opened). roll-Node x) is ∙ n.rolls-Parens of)

pub is_twoplace : (m : Node) (op : Op) (left right : Expr) → out-Node m ≡ Node-F.TwoPlace op left right → m ≡ n.TwoPlace op left right
is_twoplace m op left right is = rolled_from m ∙ (ap (λ (x : Opened). roll-Node x) is ∙ n.rolls-TwoPlace op left right)

pub is_if : (m : Node) (arms : List Arm) (last : Expr) → out-Node m ≡ Node-F.If arms last → m ≡ n.If arms last
is_if m arms last is = rolled_from m ∙ (ap (λ (x : Opened). roll-Node x) is ∙ n.rolls-If arms last)

pub is_let : (m : Node) (ds : List Definition) (values : List Expr) → out-Node m ≡ Node-F.Let ds values → m ≡ n.Let ds values
is_let m ds values is = rolled_from m ∙ (ap (λ (x : Opened). roll-Node x) is ∙ n.rolls-Let ds values)

pub is_construct : (m : Node) (index : Named) (low high elem : Expr) → out-Node m ≡ Node-F.Construct index low high elem → m ≡ n.Construct index low high elem
is_construct m index low high elem is = rolled_from m ∙ (ap (λ (x : Opened). roll-Node x) is ∙ n.rolls-Construct index low high elem)

pub is_for : (m : Node) (ds : List Definition) (test : Expr) (assigns : List Assign) (last : Expr) → out-Node m ≡ Node-F.For ds test assigns last → m ≡ n.For ds test assigns last
is_for m ds test assigns last is = rolled_from m ∙ (ap (λ (x : Opened). roll-Node x) is ∙ n.rolls-For ds test assigns last)

pub is_array : (m : Node) (at value : Expr) → out-Node m ≡ Node-F.Array at value → m ≡ n.Array at value
is_array m at value is = rolled_from m ∙ (ap (λ (x : Opened). roll-Node x) is ∙ n.rolls-Array at value)

pub is_update : (m : Node) (name : Name) (at value : Expr) → out-Node m ≡ Node-F.Update name at value → m ≡ n.Update name at value
is_update m name at value is = rolled_from m ∙ (ap (λ (x : Opened). roll-Node x) is ∙ n.rolls-Update name at value)

pub ruleset forms = (number, truth, fault, named, access, called, chain, compared, negate, invert, parens, tested, two_place, chosen, let_in, construct, folded, loop, array, updated)
