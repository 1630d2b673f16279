-- The values of manifest expressions, by what their nodes hold.
use Rattle.std.proofs.Common.{◌≡◌, ℤ, Bool, List, [], ◌∷◌, map, ap, refl, ◌∙◌, Option, Some, None, ◌&&◌, if◌then◌else◌}
use Rattle.std.specs.List.{list_all}
use Rattle.df_values.specs.declared.values.Value.{Value}
use Rattle.df_values.specs.declared.values.Value.TheVariants.{Int, Truth, Error}
use Rattle.df_values.specs.declared.values.Basic.{Basic}
use Rattle.df_values.specs.declared.values.ErrorValue.{ErrorValue}
use Rattle.df_values.specs.declared.kinds.Op.{Op}
use Rattle.df_values.specs.Tables.{answer, negation}
use Rattle.df_syntax.specs.declared.tree.Expr.{Expr}
use Rattle.df_syntax.specs.declared.tree.Link.{Link}
use Rattle.df_syntax.specs.declared.tree.Node.{out-Node}
use Rattle.df_syntax.specs.declared.tree.Node.TheVariants as n
use Rattle.df_syntax.specs.declared.tree.Node.TheOpen.{Node-F}
use Rattle.df_syntax.specs.Trees.{Opened, layer_of, fold_rolled}
use Rattle.df_syntax.specs.Meaning.{Name, both, each}
use Rattle.df_syntax.specs.MeaningParts.{joined_by}
use Rattle.df_syntax.specs.SourceForms.{Numbers, is_arithmetic, number_value, joined_value, manifest_node, manifest_value}
use Rattle.df_shape.proofs.Opened.{rolled_from, is_number, is_truth, is_error, is_name, is_chain, is_negate, is_parens, is_twoplace}
use Rattle.df_shape.proofs.Opened as opened

manifest_out : (numbers : Numbers) (e : Expr) → manifest_value numbers e ≡ manifest_node numbers (layer_of (Option Value) (manifest_value numbers) (out-Node e.node))
unfolding manifest_value
manifest_out numbers e = fold_rolled (Option Value) (λ place node. manifest_node numbers node) e (out-Node e.node) (rolled_from e.node)

manifest_at : (numbers : Numbers) (e : Expr) (x : Opened) → out-Node e.node ≡ x → manifest_value numbers e ≡ manifest_node numbers (layer_of (Option Value) (manifest_value numbers) x)
manifest_at numbers e x is = manifest_out numbers e ∙ ap (λ (y : Opened). manifest_node numbers (layer_of (Option Value) (manifest_value numbers) y)) is

-- ---- the parts of a chain

all_arithmetic : (f : Expr → Option Value) (rest : List Link)
    → list_all (λ (l : Op × Option Value). is_arithmetic l.0) (map (λ (l : Link). (l.op, f l.operand)) rest) ≡ list_all (λ (l : Link). is_arithmetic l.op) rest
all_arithmetic f [] = refl
all_arithmetic f (l ∷ rest) = ap (λ b. is_arithmetic l.op && b) (all_arithmetic f rest)

joined_links : (f : Expr → Option Value) (v : Option Value) (rest : List Link) → joined_value v (map (λ (l : Link). (l.op, f l.operand)) rest) ≡ joined_by f v rest
joined_links f v [] = refl
joined_links f v (l ∷ rest) = joined_links f (both (answer l.op) v (f l.operand)) rest

-- ---- one equation for each form

pub number : (numbers : Numbers) (e : Expr) (v : ℤ) → e.node ≡ n.Number v → manifest_value numbers e ≡ Some (Int v)
number numbers e v is = manifest_at numbers e (Node-F.Number v) (opened.number e.node v is)

pub truth : (numbers : Numbers) (e : Expr) (v : Bool) → e.node ≡ n.Truth v → manifest_value numbers e ≡ Some (Truth v)
truth numbers e v is = manifest_at numbers e (Node-F.Truth v) (opened.truth e.node v is)

pub fault : (numbers : Numbers) (e : Expr) (v : ErrorValue) (b : Basic) → e.node ≡ n.Error v b → manifest_value numbers e ≡ Some (Error v)
fault numbers e v b is = manifest_at numbers e (Node-F.Error v b) (opened.fault e.node v b is)

pub named : (numbers : Numbers) (e : Expr) (name : Name) → e.node ≡ n.Name name → manifest_value numbers e ≡ number_value (numbers name)
named numbers e name is = manifest_at numbers e (Node-F.Name name) (opened.named e.node name is)

pub negate : (numbers : Numbers) (e : Expr) (of : Expr) → e.node ≡ n.Negate of → manifest_value numbers e ≡ each negation (manifest_value numbers of)
negate numbers e of is = manifest_at numbers e (Node-F.Negate of) (opened.negate e.node of is)

pub parens : (numbers : Numbers) (e : Expr) (of : Expr) → e.node ≡ n.Parens of → manifest_value numbers e ≡ manifest_value numbers of
parens numbers e of is = manifest_at numbers e (Node-F.Parens of) (opened.parens e.node of is)

pub two_place : (numbers : Numbers) (e : Expr) (op : Op) (left right : Expr) → e.node ≡ n.TwoPlace op left right
    → manifest_value numbers e ≡ both (answer op) (manifest_value numbers left) (manifest_value numbers right)
two_place numbers e op left right is = manifest_at numbers e (Node-F.TwoPlace op left right) (opened.two_place e.node op left right is)

-- the value of a chain
abbrev pub chain_value : Numbers → Expr → List Link → Option Value
chain_value numbers first rest =
    if list_all (λ (l : Link). is_arithmetic l.op) rest then joined_by (manifest_value numbers) (manifest_value numbers first) rest else None

pub chain : (numbers : Numbers) (e : Expr) (first : Expr) (rest : List Link) → e.node ≡ n.Chain first rest → manifest_value numbers e ≡ chain_value numbers first rest
chain numbers e first rest is =
    let f = manifest_value numbers in
    manifest_at numbers e (Node-F.Chain first rest) (opened.chain e.node first rest is)
    ∙ (ap (λ b. if b then joined_value (f first) (map (λ (l : Link). (l.op, f l.operand)) rest) else None) (all_arithmetic f rest)
    ∙ ap (λ v. if list_all (λ (l : Link). is_arithmetic l.op) rest then v else None) (joined_links f (f first) rest))

none_at : (numbers : Numbers) (f : Expr → Option Value) (x : Opened)
    → ((v : ℤ) → x ≡ Node-F.Number v → ⊥)
    → ((v : Bool) → x ≡ Node-F.Truth v → ⊥)
    → ((v : ErrorValue) (b : Basic) → x ≡ Node-F.Error v b → ⊥)
    → ((name : Name) → x ≡ Node-F.Name name → ⊥)
    → ((first : Expr) (rest : List Link) → x ≡ Node-F.Chain first rest → ⊥)
    → ((of : Expr) → x ≡ Node-F.Negate of → ⊥)
    → ((of : Expr) → x ≡ Node-F.Parens of → ⊥)
    → ((op : Op) (left right : Expr) → x ≡ Node-F.TwoPlace op left right → ⊥)
    → manifest_node numbers (layer_of (Option Value) f x) ≡ None
none_at numbers f (Node-F.Number v) a_ b_ c_ d_ e_ f_ g_ h_ = absurd (a_ v refl)
none_at numbers f (Node-F.Truth v) a_ b_ c_ d_ e_ f_ g_ h_ = absurd (b_ v refl)
none_at numbers f (Node-F.Error v b) a_ b_ c_ d_ e_ f_ g_ h_ = absurd (c_ v b refl)
none_at numbers f (Node-F.Name name) a_ b_ c_ d_ e_ f_ g_ h_ = absurd (d_ name refl)
none_at numbers f (Node-F.Chain first rest) a_ b_ c_ d_ e_ f_ g_ h_ = absurd (e_ first rest refl)
none_at numbers f (Node-F.Negate of) a_ b_ c_ d_ e_ f_ g_ h_ = absurd (f_ of refl)
none_at numbers f (Node-F.Parens of) a_ b_ c_ d_ e_ f_ g_ h_ = absurd (g_ of refl)
none_at numbers f (Node-F.TwoPlace op left right) a_ b_ c_ d_ e_ f_ g_ h_ = absurd (h_ op left right refl)
none_at numbers f x a_ b_ c_ d_ e_ f_ g_ h_ = refl

-- any other expression has no value that is known before any input
pub not_manifest : (numbers : Numbers) (e : Expr)
    → ((v : ℤ) → e.node ≡ n.Number v → ⊥)
    → ((v : Bool) → e.node ≡ n.Truth v → ⊥)
    → ((v : ErrorValue) (b : Basic) → e.node ≡ n.Error v b → ⊥)
    → ((name : Name) → e.node ≡ n.Name name → ⊥)
    → ((first : Expr) (rest : List Link) → e.node ≡ n.Chain first rest → ⊥)
    → ((of : Expr) → e.node ≡ n.Negate of → ⊥)
    → ((of : Expr) → e.node ≡ n.Parens of → ⊥)
    → ((op : Op) (left right : Expr) → e.node ≡ n.TwoPlace op left right → ⊥)
    → manifest_value numbers e ≡ None
not_manifest numbers e a_ b_ c_ d_ e_ f_ g_ h_ =
    manifest_out numbers e
    ∙ none_at numbers (manifest_value numbers) (out-Node e.node)
    (λ v is. a_ v (is_number e.node v is))
    (λ v is. b_ v (is_truth e.node v is))
    (λ v b is. c_ v b (is_error e.node v b is))
    (λ name is. d_ name (is_name e.node name is))
    (λ first rest is. e_ first rest (is_chain e.node first rest is))
    (λ of is. f_ of (is_negate e.node of is))
    (λ of is. g_ of (is_parens e.node of is))
    (λ op left right is. h_ op left right (is_twoplace e.node op left right is))

pub ruleset forms = (number, truth, fault, named, negate, parens, two_place, chain)
