-- What each form of a term gives where loops may make so many turns, by what it holds.
use Rattle.std.proofs.Common.{◌≡◌, ℕ, ℤ, zero, suc, ◌+ℤ◌, List, [], ◌∷◌, ◌++◌, map, fold, length, ap, refl, sym, ◌∙◌, get_or, Some}
use Rattle.df_values.specs.declared.values.Value.{Value}
use Rattle.df_values.specs.declared.values.Value.TheVariants.{Int, Error}
use Rattle.df_values.specs.declared.values.ErrorValue.TheVariants.{Undef}
use Rattle.df_values.specs.declared.kinds.Unary.{Unary}
use Rattle.df_partial.specs.Members.{Member, paired, changed, decided}
use Rattle.df_core.specs.declared.terms.Term.{Term, roll-Term}
use Rattle.df_core.specs.declared.terms.Term.TheVariants as n
use Rattle.df_core.specs.declared.terms.Term.TheOpen.{Term-F}
use Rattle.df_core.specs.declared.terms.Step.{Step}
use Rattle.df_core.specs.declared.terms.Branch.{Branch}
use Rattle.df_core.specs.declared.terms.Assignment.{Assignment}
use Rattle.df_core.specs.Terms.{Opened, layer_of, fold_rolled}
use Rattle.df_core.specs.Turning.{Place, Gives, layer_member, joined_member, branches_member, bound_member, all_given, moved, turned, term_member, scalar_in, member_in, made_in}
use Rattle.df_core.specs.MemberParts.{joined_with, branches_with, bind, bound_with, given_with, turned_with}

member_rolled : (t : Term) (x : Opened) (place : Place) (locals : List Member) → t ≡ roll-Term x → term_member t place locals ≡ layer_member (layer_of Gives term_member x) place locals
unfolding term_member
member_rolled t x place locals is = ap (λ (u : Term). term_member u place locals) is ∙ ap (λ (g : Gives). g place locals) (fold_rolled Gives layer_member x)

-- ---- the parts of a form

joined_map : (place : Place) (locals : List Member) (m : Member) (rest : List Step)
    → fold (joined_member place locals) m (map (λ (s : Step). (s.with, term_member s.operand)) rest) ≡ joined_with place locals m rest
joined_map place locals m [] = refl
joined_map place locals m (s ∷ rest) = joined_map place locals (paired s.with m (term_member s.operand place locals)) rest

branches_map : (place : Place) (locals : List Member) (last : Member) (branches : List Branch)
    → branches_member place locals last (map (λ (b : Branch). (term_member b.test, term_member b.value)) branches) ≡ branches_with place locals last branches
branches_map place locals last [] = refl
branches_map place locals last (b ∷ branches) = ap (decided (term_member b.test place locals) (term_member b.value place locals)) (branches_map place locals last branches)

bound_map : (place : Place) (locals : List Member) (ds : List Term) → fold (bound_member place) locals (map term_member ds) ≡ bound_with place locals ds
bound_map place locals [] = refl
bound_map place locals (d ∷ ds) = bound_map place (locals ++ term_member d place locals ∷ []) ds

given_map : (place : Place) (locals : List Member) (next : List Assignment)
    → all_given place (map (λ (a : Assignment). (a.name, term_member a.value)) next) locals ≡ given_with place next locals
given_map place locals [] = refl
given_map place locals (a ∷ next) = ap (λ l. (a.name, term_member a.value place locals) ∷ l) (given_map place locals next)

-- turns by what moves the locals in the same way are the same
turned_map : (test last : List Member → Member) (move other : List Member → List Member) → ((ls : List Member) → move ls ≡ other ls) → (n : ℕ) (ls : List Member)
    → turned test move last n ls ≡ turned test other last n ls
turned_map test last move other same zero ls = refl
turned_map test last move other same (suc n) ls =
    ap (λ m. decided (test ls) m (last ls)) (turned_map test last move other same n (move ls) ∙ ap (turned test other last n) (same ls))

-- ---- forms

pub constant : (t : Term) (v : Value) (place : Place) (locals : List Member) → t ≡ n.Constant v → term_member t place locals ≡ Some v
constant t v place locals is = member_rolled t (Term-F.Constant v) place locals (is ∙ sym (n.rolls-Constant v))

pub local : (t : Term) (k : ℕ) (place : Place) (locals : List Member) → t ≡ n.Local k → term_member t place locals ≡ get_or locals k (Some (Error Undef))
local t k place locals is = member_rolled t (Term-F.Local k) place locals (is ∙ sym (n.rolls-Local k))

pub index : (t : Term) (place : Place) (locals : List Member) → t ≡ n.Index → term_member t place locals ≡ Some (Int place.at)
index t place locals is = member_rolled t Term-F.Index place locals (is ∙ sym n.rolls-Index)

pub outer : (t : Term) (k : ℕ) (place : Place) (locals : List Member) → t ≡ n.Outer k → term_member t place locals ≡ scalar_in (made_in place.made k)
outer t k place locals is = member_rolled t (Term-F.Outer k) place locals (is ∙ sym (n.rolls-Outer k))

pub element : (t : Term) (k : ℕ) (c : ℤ) (place : Place) (locals : List Member) → t ≡ n.Element k c → term_member t place locals ≡ member_in (made_in place.made k) (place.at +ℤ c)
element t k c place locals is = member_rolled t (Term-F.Element k c) place locals (is ∙ sym (n.rolls-Element k c))

pub previous : (t : Term) (place : Place) (locals : List Member) → t ≡ n.Previous → term_member t place locals ≡ place.previous
previous t place locals is = member_rolled t Term-F.Previous place locals (is ∙ sym n.rolls-Previous)

pub chain : (t first : Term) (rest : List Step) (place : Place) (locals : List Member) → t ≡ n.Chain first rest → term_member t place locals ≡ joined_with place locals (term_member first place locals) rest
chain t first rest place locals is = member_rolled t (Term-F.Chain first rest) place locals (is ∙ sym (n.rolls-Chain first rest)) ∙ joined_map place locals (term_member first place locals) rest

pub change : (t : Term) (how : Unary) (of : Term) (place : Place) (locals : List Member) → t ≡ n.Change how of → term_member t place locals ≡ changed how (term_member of place locals)
change t how of place locals is = member_rolled t (Term-F.Change how of) place locals (is ∙ sym (n.rolls-Change how of))

pub choice : (t : Term) (branches : List Branch) (last : Term) (place : Place) (locals : List Member) → t ≡ n.If branches last
    → term_member t place locals ≡ branches_with place locals (term_member last place locals) branches
choice t branches last place locals is = member_rolled t (Term-F.If branches last) place locals (is ∙ sym (n.rolls-If branches last)) ∙ branches_map place locals (term_member last place locals) branches

pub let_is : (t : Term) (ds : List Term) (value : Term) (place : Place) (locals : List Member) → t ≡ n.Let ds value
    → term_member t place locals ≡ term_member value place (bound_with place locals ds)
let_is t ds value place locals is =
    member_rolled t (Term-F.Let ds value) place locals (is ∙ sym (n.rolls-Let ds value))
    ∙ ap (term_member value place) (bound_map place locals ds)

pub loop_is : (t first : Term) (more : List Term) (test : Term) (next : List Assignment) (last : Term) (place : Place) (locals : List Member) → t ≡ n.Loop first more test next last
    → term_member t place locals ≡ turned_with place (length locals) test next last place.turns (bound_with place (bind place locals first) more)
loop_is t first more test next last place locals is =
    member_rolled t (Term-F.Loop first more test next last) place locals (is ∙ sym (n.rolls-Loop first more test next last))
    ∙ (ap (turned (term_member test place) (moved (length locals) (all_given place (map (λ (a : Assignment). (a.name, term_member a.value)) next))) (term_member last place) place.turns)
    (bound_map place (bind place locals first) more)
    ∙ turned_map (term_member test place) (term_member last place) (moved (length locals) (all_given place (map (λ (a : Assignment). (a.name, term_member a.value)) next)))
    (moved (length locals) (given_with place next)) (λ ls. ap (fold _ ls) (given_map place ls next)) place.turns (bound_with place (bind place locals first) more))

pub ruleset forms = (constant, local, index, outer, element, previous, change)

-- ---- the same as equations that compute, for rows

pub at_constant : (v : Value) (place : Place) (locals : List Member) → term_member (n.Constant v) place locals ≡ Some v
at_constant v place locals = constant (n.Constant v) v place locals refl

pub at_local : (k : ℕ) (place : Place) (locals : List Member) → term_member (n.Local k) place locals ≡ get_or locals k (Some (Error Undef))
at_local k place locals = local (n.Local k) k place locals refl

pub at_index : (place : Place) (locals : List Member) → term_member n.Index place locals ≡ Some (Int place.at)
at_index place locals = index n.Index place locals refl

pub at_outer : (k : ℕ) (place : Place) (locals : List Member) → term_member (n.Outer k) place locals ≡ scalar_in (made_in place.made k)
at_outer k place locals = outer (n.Outer k) k place locals refl

pub at_element : (k : ℕ) (c : ℤ) (place : Place) (locals : List Member) → term_member (n.Element k c) place locals ≡ member_in (made_in place.made k) (place.at +ℤ c)
at_element k c place locals = element (n.Element k c) k c place locals refl

pub at_previous : (place : Place) (locals : List Member) → term_member n.Previous place locals ≡ place.previous
at_previous place locals = previous n.Previous place locals refl

pub at_chain : (first : Term) (rest : List Step) (place : Place) (locals : List Member) → term_member (n.Chain first rest) place locals ≡ joined_with place locals (term_member first place locals) rest
at_chain first rest place locals = chain (n.Chain first rest) first rest place locals refl

pub at_change : (how : Unary) (of : Term) (place : Place) (locals : List Member) → term_member (n.Change how of) place locals ≡ changed how (term_member of place locals)
at_change how of place locals = change (n.Change how of) how of place locals refl

pub at_if : (branches : List Branch) (last : Term) (place : Place) (locals : List Member) → term_member (n.If branches last) place locals ≡ branches_with place locals (term_member last place locals) branches
at_if branches last place locals = choice (n.If branches last) branches last place locals refl

pub at_let : (ds : List Term) (value : Term) (place : Place) (locals : List Member) → term_member (n.Let ds value) place locals ≡ term_member value place (bound_with place locals ds)
at_let ds value place locals = let_is (n.Let ds value) ds value place locals refl

pub at_loop : (first : Term) (more : List Term) (test : Term) (next : List Assignment) (last : Term) (place : Place) (locals : List Member)
    → term_member (n.Loop first more test next last) place locals ≡ turned_with place (length locals) test next last place.turns (bound_with place (bind place locals first) more)
at_loop first more test next last place locals = loop_is (n.Loop first more test next last) first more test next last place locals refl

pub ruleset computed = (at_constant, at_local, at_index, at_outer, at_element, at_previous, at_chain, at_change, at_if, at_let, at_loop)
