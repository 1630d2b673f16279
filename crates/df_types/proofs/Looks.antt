-- The look of each node, by what it holds.
use Rattle.std.proofs.Common.{◌≡◌, ℕ, ℤ, Bool, false, List, [], ◌∷◌, ap, subst, refl, sym, ◌∙◌}
use Rattle.df_io.specs.declared.place.Place.{Place}
use Rattle.df_syntax.specs.declared.tree.Expr.{Expr}
use Rattle.df_values.specs.declared.kinds.Op.{Op}
use Rattle.df_values.specs.declared.kinds.Rel.{Rel}
use Rattle.df_values.specs.declared.kinds.Test.{Test}
use Rattle.df_values.specs.declared.values.Basic.{Basic}
use Rattle.df_values.specs.declared.values.ErrorValue.{ErrorValue}
use Rattle.df_syntax.specs.declared.tree.Named.{Named}
use Rattle.df_syntax.specs.declared.tree.Link.{Link}
use Rattle.df_syntax.specs.declared.tree.Arm.{Arm}
use Rattle.df_syntax.specs.declared.tree.Definition.{Definition}
use Rattle.df_syntax.specs.declared.tree.Assign.{Assign}
use Rattle.df_syntax.specs.declared.tree.Node.{Node, roll-Node, out-Node, out-roll-Node}
use Rattle.df_syntax.specs.declared.tree.Node.TheVariants as n
use Rattle.df_syntax.specs.declared.tree.Node.TheOpen.{Node-F}
use Rattle.df_syntax.specs.declared.program.Function.{Function}
use Rattle.df_syntax.specs.Trees.{Opened, layer_of, fold_rolled, rolled}
use Rattle.df_types.specs.declared.answers.CheckAnswer.TheVariants.{WrongType, WrongArity}
use Rattle.df_types.specs.Demands.{demand}
use Rattle.df_types.specs.Sorts.{integer}
use Rattle.df_types.specs.Types.{Look, look_by, node_look, look_of, block_of, forall_of, other_of, block_sort, block_demands, forall_sort, forall_demands, other_sort, other_demands}

-- an expression with a known node
pub look_is : (fs : List Function) (e : Expr) (x : Opened) → e.node ≡ roll-Node x → look_of fs e ≡ node_look fs e.place (layer_of Look (look_of fs) x)
unfolding look_of
look_is fs e x is = fold_rolled Look (node_look fs) e x is

-- the same by a later table
pub block_is : (fs : List Function) (e : Expr) (x : Opened) → e.node ≡ roll-Node x → block_of fs e ≡ look_by fs block_sort block_demands e.place (layer_of Look (look_of fs) x)
unfolding block_of
block_is fs e x is = ap (λ (y : Opened). look_by fs block_sort block_demands e.place (layer_of Look (look_of fs) y)) (ap (λ (m : Node). out-Node m) is ∙ out-roll-Node x)

pub forall_is : (fs : List Function) (e : Expr) (x : Opened) → e.node ≡ roll-Node x → forall_of fs e ≡ look_by fs forall_sort forall_demands e.place (layer_of Look (look_of fs) x)
unfolding forall_of
forall_is fs e x is = ap (λ (y : Opened). look_by fs forall_sort forall_demands e.place (layer_of Look (look_of fs) y)) (ap (λ (m : Node). out-Node m) is ∙ out-roll-Node x)

pub other_is : (fs : List Function) (e : Expr) (x : Opened) → e.node ≡ roll-Node x → other_of fs e ≡ look_by fs other_sort other_demands e.place (layer_of Look (look_of fs) x)
unfolding other_of
other_is fs e x is = ap (λ (y : Opened). look_by fs other_sort other_demands e.place (layer_of Look (look_of fs) y)) (ap (λ (m : Node). out-Node m) is ∙ out-roll-Node x)

pub place_is : (fs : List Function) (e : Expr) → (look_of fs e).place ≡ e.place
place_is fs e = let r = rolled e.node in ap (λ (l : Look). l.place) (look_is fs e r.0 r.1)

-- ---- one equation for each form

pub number : (fs : List Function) (e : Expr) (v : ℤ) → e.node ≡ n.Number v → look_of fs e ≡ node_look fs e.place (layer_of Look (look_of fs) (Node-F.Number v))
number fs e v is = look_is fs e (Node-F.Number v) (is ∙ sym (n.rolls-Number v))

pub truth : (fs : List Function) (e : Expr) (v : Bool) → e.node ≡ n.Truth v → look_of fs e ≡ node_look fs e.place (layer_of Look (look_of fs) (Node-F.Truth v))
truth fs e v is = look_is fs e (Node-F.Truth v) (is ∙ sym (n.rolls-Truth v))

pub fault : (fs : List Function) (e : Expr) (v : ErrorValue) (b : Basic) → e.node ≡ n.Error v b → look_of fs e ≡ node_look fs e.place (layer_of Look (look_of fs) (Node-F.Error v b))
fault fs e v b is = look_is fs e (Node-F.Error v b) (is ∙ sym (n.rolls-Error v b))

pub named : (fs : List Function) (e : Expr) (name : List ℕ) → e.node ≡ n.Name name → look_of fs e ≡ node_look fs e.place (layer_of Look (look_of fs) (Node-F.Name name))
named fs e name is = look_is fs e (Node-F.Name name) (is ∙ sym (n.rolls-Name name))

pub access : (fs : List Function) (e : Expr) (name : List ℕ) (at : Expr) → e.node ≡ n.Access name at → look_of fs e ≡ node_look fs e.place (layer_of Look (look_of fs) (Node-F.Access name at))
access fs e name at is = look_is fs e (Node-F.Access name at) (is ∙ sym (n.rolls-Access name at))

pub called : (fs : List Function) (e : Expr) (name : List ℕ) (arguments : List Expr) → e.node ≡ n.Call name arguments → look_of fs e ≡ node_look fs e.place (layer_of Look (look_of fs) (Node-F.Call name arguments))
called fs e name arguments is = look_is fs e (Node-F.Call name arguments) (is ∙ sym (n.rolls-Call name arguments))

pub chain : (fs : List Function) (e : Expr) (first : Expr) (rest : List Link) → e.node ≡ n.Chain first rest → look_of fs e ≡ node_look fs e.place (layer_of Look (look_of fs) (Node-F.Chain first rest))
chain fs e first rest is = look_is fs e (Node-F.Chain first rest) (is ∙ sym (n.rolls-Chain first rest))

pub compared : (fs : List Function) (e : Expr) (rel : Rel) (left right : Expr) → e.node ≡ n.Compare rel left right → look_of fs e ≡ node_look fs e.place (layer_of Look (look_of fs) (Node-F.Compare rel left right))
compared fs e rel left right is = look_is fs e (Node-F.Compare rel left right) (is ∙ sym (n.rolls-Compare rel left right))

pub negate : (fs : List Function) (e : Expr) (of : Expr) → e.node ≡ n.Negate of → look_of fs e ≡ node_look fs e.place (layer_of Look (look_of fs) (Node-F.Negate of))
negate fs e of is = look_is fs e (Node-F.Negate of) (is ∙ sym (n.rolls-Negate of))

pub invert : (fs : List Function) (e : Expr) (of : Expr) → e.node ≡ n.Invert of → look_of fs e ≡ node_look fs e.place (layer_of Look (look_of fs) (Node-F.Invert of))
invert fs e of is = look_is fs e (Node-F.Invert of) (is ∙ sym (n.rolls-Invert of))

pub parens : (fs : List Function) (e : Expr) (of : Expr) → e.node ≡ n.Parens of → look_of fs e ≡ node_look fs e.place (layer_of Look (look_of fs) (Node-F.Parens of))
parens fs e of is = look_is fs e (Node-F.Parens of) (is ∙ sym (n.rolls-Parens of))

pub tested : (fs : List Function) (e : Expr) (test : Test) (of : Expr) → e.node ≡ n.Test test of → look_of fs e ≡ node_look fs e.place (layer_of Look (look_of fs) (Node-F.Test test of))
tested fs e test of is = look_is fs e (Node-F.Test test of) (is ∙ sym (n.rolls-Test test of))

pub two_place : (fs : List Function) (e : Expr) (op : Op) (left right : Expr) → e.node ≡ n.TwoPlace op left right → look_of fs e ≡ node_look fs e.place (layer_of Look (look_of fs) (Node-F.TwoPlace op left right))
two_place fs e op left right is = look_is fs e (Node-F.TwoPlace op left right) (is ∙ sym (n.rolls-TwoPlace op left right))

pub let_whole : (fs : List Function) (e : Expr) (ds : List Definition) (values : List Expr) → e.node ≡ n.Let ds values → look_of fs e ≡ node_look fs e.place (layer_of Look (look_of fs) (Node-F.Let ds values))
let_whole fs e ds values is = look_is fs e (Node-F.Let ds values) (is ∙ sym (n.rolls-Let ds values))

-- and for those of the later tables

pub chosen : (fs : List Function) (e : Expr) (arms : List Arm) (last : Expr) → e.node ≡ n.If arms last → block_of fs e ≡ look_by fs block_sort block_demands e.place (layer_of Look (look_of fs) (Node-F.If arms last))
chosen fs e arms last is = block_is fs e (Node-F.If arms last) (is ∙ sym (n.rolls-If arms last))

pub let_in : (fs : List Function) (e : Expr) (ds : List Definition) (values : List Expr) → e.node ≡ n.Let ds values → block_of fs e ≡ look_by fs block_sort block_demands e.place (layer_of Look (look_of fs) (Node-F.Let ds values))
let_in fs e ds values is = block_is fs e (Node-F.Let ds values) (is ∙ sym (n.rolls-Let ds values))

pub construct : (fs : List Function) (e : Expr) (index : Named) (low high elem : Expr) → e.node ≡ n.Construct index low high elem → forall_of fs e ≡ look_by fs forall_sort forall_demands e.place (layer_of Look (look_of fs) (Node-F.Construct index low high elem))
construct fs e index low high elem is = forall_is fs e (Node-F.Construct index low high elem) (is ∙ sym (n.rolls-Construct index low high elem))

pub folded : (fs : List Function) (e : Expr) (index : Named) (low high : Expr) (op : Op) (elem : Expr) → e.node ≡ n.Fold index low high op elem → forall_of fs e ≡ look_by fs forall_sort forall_demands e.place (layer_of Look (look_of fs) (Node-F.Fold index low high op elem))
folded fs e index low high op elem is = forall_is fs e (Node-F.Fold index low high op elem) (is ∙ sym (n.rolls-Fold index low high op elem))

pub loop : (fs : List Function) (e : Expr) (ds : List Definition) (test : Expr) (assigns : List Assign) (last : Expr) → e.node ≡ n.For ds test assigns last → other_of fs e ≡ look_by fs other_sort other_demands e.place (layer_of Look (look_of fs) (Node-F.For ds test assigns last))
loop fs e ds test assigns last is = other_is fs e (Node-F.For ds test assigns last) (is ∙ sym (n.rolls-For ds test assigns last))

pub array : (fs : List Function) (e : Expr) (at value : Expr) → e.node ≡ n.Array at value → other_of fs e ≡ look_by fs other_sort other_demands e.place (layer_of Look (look_of fs) (Node-F.Array at value))
array fs e at value is = other_is fs e (Node-F.Array at value) (is ∙ sym (n.rolls-Array at value))

pub updated : (fs : List Function) (e : Expr) (name : List ℕ) (at value : Expr) → e.node ≡ n.Update name at value → other_of fs e ≡ look_by fs other_sort other_demands e.place (layer_of Look (look_of fs) (Node-F.Update name at value))
updated fs e name at value is = other_is fs e (Node-F.Update name at value) (is ∙ sym (n.rolls-Update name at value))

-- what stands in later tables alone

block_at : (fs : List Function) (place : Place) (x : Opened)
    → ((v : ℤ) → x ≡ Node-F.Number v → ⊥)
    → ((v : Bool) → x ≡ Node-F.Truth v → ⊥)
    → ((v : ErrorValue) (b : Basic) → x ≡ Node-F.Error v b → ⊥)
    → ((name : List ℕ) → x ≡ Node-F.Name name → ⊥)
    → ((name : List ℕ) (at : Expr) → x ≡ Node-F.Access name at → ⊥)
    → ((name : List ℕ) (arguments : List Expr) → x ≡ Node-F.Call name arguments → ⊥)
    → ((first : Expr) (rest : List Link) → x ≡ Node-F.Chain first rest → ⊥)
    → ((rel : Rel) (left right : Expr) → x ≡ Node-F.Compare rel left right → ⊥)
    → ((of : Expr) → x ≡ Node-F.Negate of → ⊥)
    → ((of : Expr) → x ≡ Node-F.Invert of → ⊥)
    → ((of : Expr) → x ≡ Node-F.Parens of → ⊥)
    → ((test : Test) (of : Expr) → x ≡ Node-F.Test test of → ⊥)
    → ((op : Op) (left right : Expr) → x ≡ Node-F.TwoPlace op left right → ⊥)
    → node_look fs place (layer_of Look (look_of fs) x) ≡ look_by fs block_sort block_demands place (layer_of Look (look_of fs) x)
block_at fs place (Node-F.Number v) a_ b_ c_ d_ e_ f_ g_ h_ i_ j_ k_ l_ m_ = absurd (a_ v refl)
block_at fs place (Node-F.Truth v) a_ b_ c_ d_ e_ f_ g_ h_ i_ j_ k_ l_ m_ = absurd (b_ v refl)
block_at fs place (Node-F.Error v b) a_ b_ c_ d_ e_ f_ g_ h_ i_ j_ k_ l_ m_ = absurd (c_ v b refl)
block_at fs place (Node-F.Name name) a_ b_ c_ d_ e_ f_ g_ h_ i_ j_ k_ l_ m_ = absurd (d_ name refl)
block_at fs place (Node-F.Access name at) a_ b_ c_ d_ e_ f_ g_ h_ i_ j_ k_ l_ m_ = absurd (e_ name at refl)
block_at fs place (Node-F.Call name arguments) a_ b_ c_ d_ e_ f_ g_ h_ i_ j_ k_ l_ m_ = absurd (f_ name arguments refl)
block_at fs place (Node-F.Chain first rest) a_ b_ c_ d_ e_ f_ g_ h_ i_ j_ k_ l_ m_ = absurd (g_ first rest refl)
block_at fs place (Node-F.Compare rel left right) a_ b_ c_ d_ e_ f_ g_ h_ i_ j_ k_ l_ m_ = absurd (h_ rel left right refl)
block_at fs place (Node-F.Negate of) a_ b_ c_ d_ e_ f_ g_ h_ i_ j_ k_ l_ m_ = absurd (i_ of refl)
block_at fs place (Node-F.Invert of) a_ b_ c_ d_ e_ f_ g_ h_ i_ j_ k_ l_ m_ = absurd (j_ of refl)
block_at fs place (Node-F.Parens of) a_ b_ c_ d_ e_ f_ g_ h_ i_ j_ k_ l_ m_ = absurd (k_ of refl)
block_at fs place (Node-F.Test test of) a_ b_ c_ d_ e_ f_ g_ h_ i_ j_ k_ l_ m_ = absurd (l_ test of refl)
block_at fs place (Node-F.TwoPlace op left right) a_ b_ c_ d_ e_ f_ g_ h_ i_ j_ k_ l_ m_ = absurd (m_ op left right refl)
block_at fs place x a_ b_ c_ d_ e_ f_ g_ h_ i_ j_ k_ l_ m_ = refl

pub is_block : (fs : List Function) (e : Expr)
    → ((v : ℤ) → e.node ≡ n.Number v → ⊥)
    → ((v : Bool) → e.node ≡ n.Truth v → ⊥)
    → ((v : ErrorValue) (b : Basic) → e.node ≡ n.Error v b → ⊥)
    → ((name : List ℕ) → e.node ≡ n.Name name → ⊥)
    → ((name : List ℕ) (at : Expr) → e.node ≡ n.Access name at → ⊥)
    → ((name : List ℕ) (arguments : List Expr) → e.node ≡ n.Call name arguments → ⊥)
    → ((first : Expr) (rest : List Link) → e.node ≡ n.Chain first rest → ⊥)
    → ((rel : Rel) (left right : Expr) → e.node ≡ n.Compare rel left right → ⊥)
    → ((of : Expr) → e.node ≡ n.Negate of → ⊥)
    → ((of : Expr) → e.node ≡ n.Invert of → ⊥)
    → ((of : Expr) → e.node ≡ n.Parens of → ⊥)
    → ((test : Test) (of : Expr) → e.node ≡ n.Test test of → ⊥)
    → ((op : Op) (left right : Expr) → e.node ≡ n.TwoPlace op left right → ⊥)
    → look_of fs e ≡ block_of fs e
is_block fs e a_ b_ c_ d_ e_ f_ g_ h_ i_ j_ k_ l_ m_ =
    let r = rolled e.node in
    look_is fs e r.0 r.1 ∙ (block_at fs e.place r.0
    (λ v is. a_ v (r.1 ∙ (ap (λ (y : Opened). roll-Node y) is ∙ n.rolls-Number v)))
    (λ v is. b_ v (r.1 ∙ (ap (λ (y : Opened). roll-Node y) is ∙ n.rolls-Truth v)))
    (λ v b is. c_ v b (r.1 ∙ (ap (λ (y : Opened). roll-Node y) is ∙ n.rolls-Error v b)))
    (λ name is. d_ name (r.1 ∙ (ap (λ (y : Opened). roll-Node y) is ∙ n.rolls-Name name)))
    (λ name at is. e_ name at (r.1 ∙ (ap (λ (y : Opened). roll-Node y) is ∙ n.rolls-Access name at)))
    (λ name arguments is. f_ name arguments (r.1 ∙ (ap (λ (y : Opened). roll-Node y) is ∙ n.rolls-Call name arguments)))
    (λ first rest is. g_ first rest (r.1 ∙ (ap (λ (y : Opened). roll-Node y) is ∙ n.rolls-Chain first rest)))
    (λ rel left right is. h_ rel left right (r.1 ∙ (ap (λ (y : Opened). roll-Node y) is ∙ n.rolls-Compare rel left right)))
    (λ of is. i_ of (r.1 ∙ (ap (λ (y : Opened). roll-Node y) is ∙ n.rolls-Negate of)))
    (λ of is. j_ of (r.1 ∙ (ap (λ (y : Opened). roll-Node y) is ∙ n.rolls-Invert of)))
    (λ of is. k_ of (r.1 ∙ (ap (λ (y : Opened). roll-Node y) is ∙ n.rolls-Parens of)))
    (λ test of is. l_ test of (r.1 ∙ (ap (λ (y : Opened). roll-Node y) is ∙ n.rolls-Test test of)))
    (λ op left right is. m_ op left right (r.1 ∙ (ap (λ (y : Opened). roll-Node y) is ∙ n.rolls-TwoPlace op left right)))
    ∙ sym (block_is fs e r.0 r.1))

forall_at : (fs : List Function) (place : Place) (x : Opened)
    → ((arms : List Arm) (last : Expr) → x ≡ Node-F.If arms last → ⊥)
    → ((ds : List Definition) (values : List Expr) → x ≡ Node-F.Let ds values → ⊥)
    → look_by fs block_sort block_demands place (layer_of Look (look_of fs) x) ≡ look_by fs forall_sort forall_demands place (layer_of Look (look_of fs) x)
forall_at fs place (Node-F.If arms last) a_ b_ = absurd (a_ arms last refl)
forall_at fs place (Node-F.Let ds values) a_ b_ = absurd (b_ ds values refl)
forall_at fs place x a_ b_ = refl

pub is_forall : (fs : List Function) (e : Expr)
    → ((arms : List Arm) (last : Expr) → e.node ≡ n.If arms last → ⊥)
    → ((ds : List Definition) (values : List Expr) → e.node ≡ n.Let ds values → ⊥)
    → block_of fs e ≡ forall_of fs e
is_forall fs e a_ b_ =
    let r = rolled e.node in
    block_is fs e r.0 r.1 ∙ (forall_at fs e.place r.0
    (λ arms last is. a_ arms last (r.1 ∙ (ap (λ (y : Opened). roll-Node y) is ∙ n.rolls-If arms last)))
    (λ ds values is. b_ ds values (r.1 ∙ (ap (λ (y : Opened). roll-Node y) is ∙ n.rolls-Let ds values)))
    ∙ sym (forall_is fs e r.0 r.1))

other_at : (fs : List Function) (place : Place) (x : Opened)
    → ((index : Named) (low high elem : Expr) → x ≡ Node-F.Construct index low high elem → ⊥)
    → ((index : Named) (low high : Expr) (op : Op) (elem : Expr) → x ≡ Node-F.Fold index low high op elem → ⊥)
    → look_by fs forall_sort forall_demands place (layer_of Look (look_of fs) x) ≡ look_by fs other_sort other_demands place (layer_of Look (look_of fs) x)
other_at fs place (Node-F.Construct index low high elem) a_ b_ = absurd (a_ index low high elem refl)
other_at fs place (Node-F.Fold index low high op elem) a_ b_ = absurd (b_ index low high op elem refl)
other_at fs place x a_ b_ = refl

pub is_other : (fs : List Function) (e : Expr)
    → ((index : Named) (low high elem : Expr) → e.node ≡ n.Construct index low high elem → ⊥)
    → ((index : Named) (low high : Expr) (op : Op) (elem : Expr) → e.node ≡ n.Fold index low high op elem → ⊥)
    → forall_of fs e ≡ other_of fs e
is_other fs e a_ b_ =
    let r = rolled e.node in
    forall_is fs e r.0 r.1 ∙ (other_at fs e.place r.0
    (λ index low high elem is. a_ index low high elem (r.1 ∙ (ap (λ (y : Opened). roll-Node y) is ∙ n.rolls-Construct index low high elem)))
    (λ index low high op elem is. b_ index low high op elem (r.1 ∙ (ap (λ (y : Opened). roll-Node y) is ∙ n.rolls-Fold index low high op elem)))
    ∙ sym (other_is fs e r.0 r.1))

-- what stands in no table
pub record Nowhere (place : Place) (look : Look) : Type 0 where
  pub sort_is : look.sort ≡ (λ _. integer)
  pub demands_are : look.demands ≡ (λ _. demand false (WrongType place) ∷ [])

neither_at : (fs : List Function) (place : Place) (x : Opened)
    → ((ds : List Definition) (test : Expr) (assigns : List Assign) (last : Expr) → x ≡ Node-F.For ds test assigns last → ⊥)
    → ((at value : Expr) → x ≡ Node-F.Array at value → ⊥)
    → ((name : List ℕ) (at value : Expr) → x ≡ Node-F.Update name at value → ⊥)
    → Nowhere place (look_by fs other_sort other_demands place (layer_of Look (look_of fs) x))
neither_at fs place (Node-F.For ds test assigns last) a_ b_ c_ = absurd (a_ ds test assigns last refl)
neither_at fs place (Node-F.Array at value) a_ b_ c_ = absurd (b_ at value refl)
neither_at fs place (Node-F.Update name at value) a_ b_ c_ = absurd (c_ name at value refl)
neither_at fs place x a_ b_ c_ = record { sort_is = refl; demands_are = refl }

pub is_neither : (fs : List Function) (e : Expr)
    → ((ds : List Definition) (test : Expr) (assigns : List Assign) (last : Expr) → e.node ≡ n.For ds test assigns last → ⊥)
    → ((at value : Expr) → e.node ≡ n.Array at value → ⊥)
    → ((name : List ℕ) (at value : Expr) → e.node ≡ n.Update name at value → ⊥)
    → Nowhere e.place (other_of fs e)
is_neither fs e a_ b_ c_ =
    let r = rolled e.node in
    subst (λ (l : Look). Nowhere e.place l) (sym (other_is fs e r.0 r.1)) (neither_at fs e.place r.0
    (λ ds test assigns last is. a_ ds test assigns last (r.1 ∙ (ap (λ (y : Opened). roll-Node y) is ∙ n.rolls-For ds test assigns last)))
    (λ at value is. b_ at value (r.1 ∙ (ap (λ (y : Opened). roll-Node y) is ∙ n.rolls-Array at value)))
    (λ name at value is. c_ name at value (r.1 ∙ (ap (λ (y : Opened). roll-Node y) is ∙ n.rolls-Update name at value))))

-- what is no whole body of several values
pub record OneValue (place : Place) (look : Look) : Type 0 where
  pub count_is : look.count ≡ 1
  pub spread_is : look.spread ≡ (λ _. λ _. demand false (WrongArity place) ∷ [])

one_at : (fs : List Function) (place : Place) (x : Opened)
    → ((of : Expr) → x ≡ Node-F.Parens of → ⊥)
    → ((ds : List Definition) (values : List Expr) → x ≡ Node-F.Let ds values → ⊥)
    → OneValue place (node_look fs place (layer_of Look (look_of fs) x))
one_at fs place (Node-F.Parens of) a_ b_ = absurd (a_ of refl)
one_at fs place (Node-F.Let ds values) a_ b_ = absurd (b_ ds values refl)
one_at fs place x a_ b_ = record { count_is = refl; spread_is = refl }

pub is_one : (fs : List Function) (e : Expr)
    → ((of : Expr) → e.node ≡ n.Parens of → ⊥)
    → ((ds : List Definition) (values : List Expr) → e.node ≡ n.Let ds values → ⊥)
    → OneValue e.place (look_of fs e)
is_one fs e a_ b_ =
    let r = rolled e.node in
    subst (λ (l : Look). OneValue e.place l) (sym (look_is fs e r.0 r.1)) (one_at fs e.place r.0
    (λ of is. a_ of (r.1 ∙ (ap (λ (y : Opened). roll-Node y) is ∙ n.rolls-Parens of)))
    (λ ds values is. b_ ds values (r.1 ∙ (ap (λ (y : Opened). roll-Node y) is ∙ n.rolls-Let ds values))))
