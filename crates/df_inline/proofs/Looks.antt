-- What each form tells as a subscript.
use Rattle.std.proofs.Common.{◌≡◌, ◌∙◌, ap, sym, refl, ℤ, Bool, false, if◌then◌else◌, List, Some, None, bytes_eq}
use Rattle.std.specs.List.{list_all}
use Rattle.df_values.specs.declared.kinds.Op.{Op}
use Rattle.df_values.specs.declared.values.Value.TheVariants.{Int, Truth, Error}
use Rattle.df_values.specs.declared.values.ErrorValue.{ErrorValue}
use Rattle.df_values.specs.declared.values.Basic.{Basic}
use Rattle.df_values.specs.Tables.{answer, negation}
use Rattle.df_syntax.specs.declared.tree.Expr.{Expr}
use Rattle.df_syntax.specs.declared.tree.Link.{Link}
use Rattle.df_syntax.specs.declared.tree.Node.{roll-Node}
use Rattle.df_syntax.specs.declared.tree.Node.TheVariants as n
use Rattle.df_syntax.specs.declared.tree.Node.TheOpen.{Node-F}
use Rattle.df_syntax.specs.Trees.{Opened, layer_of, rolled}
use Rattle.df_syntax.specs.Meaning.{Name, both, each, is_additive}
use Rattle.df_syntax.specs.WellShaped.{Look, node_look, look_of, own_offset, chain_value, chain_offset}
use Rattle.df_flattened.proofs.Subscripts.{look_at, additive_looks}
use Rattle.df_inline.specs.Parts.{looks_of}

told : (e : Expr) (x : Opened) → e.node ≡ roll-Node x → look_of e ≡ node_look (layer_of Look look_of x)
told = look_at

-- ---- values

pub number : (e : Expr) (v : ℤ) → e.node ≡ n.Number v → (look_of e).manifest ≡ Some (Int v)
number e v is = ap (λ (l : Look). l.manifest) (told e (Node-F.Number v) (is ∙ sym (n.rolls-Number v)))

pub truth : (e : Expr) (v : Bool) → e.node ≡ n.Truth v → (look_of e).manifest ≡ Some (Truth v)
truth e v is = ap (λ (l : Look). l.manifest) (told e (Node-F.Truth v) (is ∙ sym (n.rolls-Truth v)))

pub error : (e : Expr) (v : ErrorValue) (b : Basic) → e.node ≡ n.Error v b → (look_of e).manifest ≡ Some (Error v)
error e v b is = ap (λ (l : Look). l.manifest) (told e (Node-F.Error v b) (is ∙ sym (n.rolls-Error v b)))

pub chain : (e first : Expr) (rest : List Link) → e.node ≡ n.Chain first rest → (look_of e).manifest ≡ chain_value (look_of first).manifest (looks_of rest)
chain e first rest is = ap (λ (l : Look). l.manifest) (told e (Node-F.Chain first rest) (is ∙ sym (n.rolls-Chain first rest)))

pub negate : (e of : Expr) → e.node ≡ n.Negate of → (look_of e).manifest ≡ each negation (look_of of).manifest
negate e of is = ap (λ (l : Look). l.manifest) (told e (Node-F.Negate of) (is ∙ sym (n.rolls-Negate of)))

pub parens : (e of : Expr) → e.node ≡ n.Parens of → look_of e ≡ look_of of
parens e of is = told e (Node-F.Parens of) (is ∙ sym (n.rolls-Parens of))

pub two_place : (e : Expr) (o : Op) (left right : Expr) → e.node ≡ n.TwoPlace o left right → (look_of e).manifest ≡ both (answer o) (look_of left).manifest (look_of right).manifest
two_place e o left right is = ap (λ (l : Look). l.manifest) (told e (Node-F.TwoPlace o left right) (is ∙ sym (n.rolls-TwoPlace o left right)))

no_manifest : (x : Opened) → ((v : ℤ) → x ≡ Node-F.Number v → ⊥) → ((v : Bool) → x ≡ Node-F.Truth v → ⊥) → ((v : ErrorValue) (b : Basic) → x ≡ Node-F.Error v b → ⊥)
    → ((first : Expr) (rest : List Link) → x ≡ Node-F.Chain first rest → ⊥) → ((of : Expr) → x ≡ Node-F.Negate of → ⊥) → ((of : Expr) → x ≡ Node-F.Parens of → ⊥)
    → ((o : Op) (left right : Expr) → x ≡ Node-F.TwoPlace o left right → ⊥) → (node_look (layer_of Look look_of x)).manifest ≡ None
no_manifest (Node-F.Number v) a b c d e f g = absurd (a v refl)
no_manifest (Node-F.Truth v) a b c d e f g = absurd (b v refl)
no_manifest (Node-F.Error v t) a b c d e f g = absurd (c v t refl)
no_manifest (Node-F.Chain first rest) a b c d e f g = absurd (d first rest refl)
no_manifest (Node-F.Negate of) a b c d e f g = absurd (e of refl)
no_manifest (Node-F.Parens of) a b c d e f g = absurd (f of refl)
no_manifest (Node-F.TwoPlace o left right) a b c d e f g = absurd (g o left right refl)
no_manifest x a b c d e f g = refl

pub other : (e : Expr) → ((v : ℤ) → e.node ≡ n.Number v → ⊥) → ((v : Bool) → e.node ≡ n.Truth v → ⊥) → ((v : ErrorValue) (b : Basic) → e.node ≡ n.Error v b → ⊥)
    → ((first : Expr) (rest : List Link) → e.node ≡ n.Chain first rest → ⊥) → ((of : Expr) → e.node ≡ n.Negate of → ⊥) → ((of : Expr) → e.node ≡ n.Parens of → ⊥)
    → ((o : Op) (left right : Expr) → e.node ≡ n.TwoPlace o left right → ⊥) → (look_of e).manifest ≡ None
other e a b c d k f g =
    let r = rolled e.node in
    ap (λ (l : Look). l.manifest) (told e r.0 r.1)
    ∙ no_manifest r.0 (λ v is. a v (r.1 ∙ (ap (λ (y : Opened). roll-Node y) is ∙ n.rolls-Number v))) (λ v is. b v (r.1 ∙ (ap (λ (y : Opened). roll-Node y) is ∙ n.rolls-Truth v)))
    (λ v t is. c v t (r.1 ∙ (ap (λ (y : Opened). roll-Node y) is ∙ n.rolls-Error v t))) (λ first rest is. d first rest (r.1 ∙ (ap (λ (y : Opened). roll-Node y) is ∙ n.rolls-Chain first rest)))
    (λ of is. k of (r.1 ∙ (ap (λ (y : Opened). roll-Node y) is ∙ n.rolls-Negate of))) (λ of is. f of (r.1 ∙ (ap (λ (y : Opened). roll-Node y) is ∙ n.rolls-Parens of)))
    (λ o left right is. g o left right (r.1 ∙ (ap (λ (y : Opened). roll-Node y) is ∙ n.rolls-TwoPlace o left right)))

-- ---- names and offsets

pub name_itself : (e : Expr) (name index : Name) → e.node ≡ n.Name name → (look_of e).is_name index ≡ bytes_eq name index
name_itself e name index is = ap (λ (l : Look). l.is_name index) (told e (Node-F.Name name) (is ∙ sym (n.rolls-Name name)))

pub name_offset : (e : Expr) (name index : Name) → e.node ≡ n.Name name → (look_of e).offset index ≡ own_offset (bytes_eq name index)
name_offset e name index is = ap (λ (l : Look). l.offset index) (told e (Node-F.Name name) (is ∙ sym (n.rolls-Name name)))

pub sum_offset : (e first : Expr) (rest : List Link) (index : Name) → e.node ≡ n.Chain first rest
    → (look_of e).offset index ≡ (if list_all (λ (l : Link). is_additive l.op) rest then chain_offset (own_offset ((look_of first).is_name index)) (looks_of rest) else None)
sum_offset e first rest index is =
    ap (λ (l : Look). l.offset index) (told e (Node-F.Chain first rest) (is ∙ sym (n.rolls-Chain first rest)))
    ∙ ap (λ b. if b then chain_offset (own_offset ((look_of first).is_name index)) (looks_of rest) else None) (additive_looks rest)

no_name : (x : Opened) (index : Name) → ((name : Name) → x ≡ Node-F.Name name → ⊥) → ((of : Expr) → x ≡ Node-F.Parens of → ⊥) → (node_look (layer_of Look look_of x)).is_name index ≡ false
no_name (Node-F.Name name) index a b = absurd (a name refl)
no_name (Node-F.Parens of) index a b = absurd (b of refl)
no_name x index a b = refl

pub not_itself : (e : Expr) (index : Name) → ((name : Name) → e.node ≡ n.Name name → ⊥) → ((of : Expr) → e.node ≡ n.Parens of → ⊥) → (look_of e).is_name index ≡ false
not_itself e index a b =
    let r = rolled e.node in
    ap (λ (l : Look). l.is_name index) (told e r.0 r.1)
    ∙ no_name r.0 index (λ name is. a name (r.1 ∙ (ap (λ (y : Opened). roll-Node y) is ∙ n.rolls-Name name))) (λ of is. b of (r.1 ∙ (ap (λ (y : Opened). roll-Node y) is ∙ n.rolls-Parens of)))

no_offset : (x : Opened) (index : Name) → ((name : Name) → x ≡ Node-F.Name name → ⊥) → ((of : Expr) → x ≡ Node-F.Parens of → ⊥) → ((first : Expr) (rest : List Link) → x ≡ Node-F.Chain first rest → ⊥)
    → (node_look (layer_of Look look_of x)).offset index ≡ None
no_offset (Node-F.Name name) index a b c = absurd (a name refl)
no_offset (Node-F.Parens of) index a b c = absurd (b of refl)
no_offset (Node-F.Chain first rest) index a b c = absurd (c first rest refl)
no_offset x index a b c = refl

pub no_subscript : (e : Expr) (index : Name) → ((name : Name) → e.node ≡ n.Name name → ⊥) → ((of : Expr) → e.node ≡ n.Parens of → ⊥) → ((first : Expr) (rest : List Link) → e.node ≡ n.Chain first rest → ⊥)
    → (look_of e).offset index ≡ None
no_subscript e index a b c =
    let r = rolled e.node in
    ap (λ (l : Look). l.offset index) (told e r.0 r.1)
    ∙ no_offset r.0 index (λ name is. a name (r.1 ∙ (ap (λ (y : Opened). roll-Node y) is ∙ n.rolls-Name name))) (λ of is. b of (r.1 ∙ (ap (λ (y : Opened). roll-Node y) is ∙ n.rolls-Parens of)))
    (λ first rest is. c first rest (r.1 ∙ (ap (λ (y : Opened). roll-Node y) is ∙ n.rolls-Chain first rest)))

pub ruleset looks = (number, truth, error, negate, two_place)
