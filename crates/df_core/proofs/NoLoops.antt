-- In which terms no loop stands.
use Rattle.std.proofs.Common.{◌≡◌, ℕ, ℤ, List, refl, ap, sym, ◌∙◌, Bool, true, false, ◌&&◌}
use Rattle.std.specs.List.{list_all}
use Rattle.std.proofs.lemmas.List.Folds.{list_all-map}
use Rattle.df_values.specs.declared.kinds.Binary.{Binary}
use Rattle.df_values.specs.declared.kinds.Unary.{Unary}
use Rattle.df_values.specs.declared.values.Value.{Value}
use Rattle.df_core.specs.declared.terms.Term.{Term, roll-Term}
use Rattle.df_core.specs.declared.terms.Term.TheVariants as n
use Rattle.df_core.specs.declared.terms.Term.TheOpen.{Term-F}
use Rattle.df_core.specs.declared.terms.Step.{Step}
use Rattle.df_core.specs.declared.terms.Branch.{Branch}
use Rattle.df_core.specs.Terms.{Opened, layer_of, fold_rolled}
use Rattle.df_core.specs.Within.{layer_loopless, has_no_loop}

pub both : (a b : Bool) → a && b ≡ true → (a ≡ true) × (b ≡ true)
both true b h = (refl, h)
both false b h = absurd (cc)

pub two : (a b : Bool) → a ≡ true → b ≡ true → a && b ≡ true
two a b isa isb = rw (isa, isb) refl

pub loopless_rolled : (x : Opened) → has_no_loop (roll-Term x) ≡ layer_loopless (layer_of Bool has_no_loop x)
unfolding has_no_loop
loopless_rolled x = fold_rolled Bool layer_loopless x

pub no_constant : (v : Value) → has_no_loop (n.Constant v) ≡ true
no_constant v = ap has_no_loop (sym (n.rolls-Constant v)) ∙ loopless_rolled (Term-F.Constant v)

pub no_local : (k : ℕ) → has_no_loop (n.Local k) ≡ true
no_local k = ap has_no_loop (sym (n.rolls-Local k)) ∙ loopless_rolled (Term-F.Local k)

pub no_index : has_no_loop n.Index ≡ true
no_index = ap has_no_loop (sym n.rolls-Index) ∙ loopless_rolled Term-F.Index

pub no_outer : (k : ℕ) → has_no_loop (n.Outer k) ≡ true
no_outer k = ap has_no_loop (sym (n.rolls-Outer k)) ∙ loopless_rolled (Term-F.Outer k)

pub no_element : (k : ℕ) (c : ℤ) → has_no_loop (n.Element k c) ≡ true
no_element k c = ap has_no_loop (sym (n.rolls-Element k c)) ∙ loopless_rolled (Term-F.Element k c)

pub no_previous : has_no_loop n.Previous ≡ true
no_previous = ap has_no_loop (sym n.rolls-Previous) ∙ loopless_rolled Term-F.Previous

pub no_chain : (first : Term) (rest : List Step) → has_no_loop first ≡ true → list_all (λ (s : Step). has_no_loop s.operand) rest ≡ true → has_no_loop (n.Chain first rest) ≡ true
no_chain first rest one all =
    ap has_no_loop (sym (n.rolls-Chain first rest)) ∙ (loopless_rolled (Term-F.Chain first rest)
    ∙ two (has_no_loop first) _ one (list_all-map (λ (s : Binary × Bool). s.1) (λ (s : Step). (s.with, has_no_loop s.operand)) rest ∙ all))

pub no_change : (how : Unary) (of : Term) → has_no_loop of ≡ true → has_no_loop (n.Change how of) ≡ true
no_change how of one = ap has_no_loop (sym (n.rolls-Change how of)) ∙ (loopless_rolled (Term-F.Change how of) ∙ one)

pub no_if : (branches : List Branch) (last : Term) → list_all (λ (b : Branch). has_no_loop b.test && has_no_loop b.value) branches ≡ true → has_no_loop last ≡ true
    → has_no_loop (n.If branches last) ≡ true
no_if branches last all one =
    ap has_no_loop (sym (n.rolls-If branches last)) ∙ (loopless_rolled (Term-F.If branches last)
    ∙ two (has_no_loop last) _ one (list_all-map (λ (b : Bool × Bool). b.0 && b.1) (λ (b : Branch). (has_no_loop b.test, has_no_loop b.value)) branches ∙ all))

pub no_let : (definitions : List Term) (value : Term) → list_all has_no_loop definitions ≡ true → has_no_loop value ≡ true → has_no_loop (n.Let definitions value) ≡ true
no_let definitions value all one =
    ap has_no_loop (sym (n.rolls-Let definitions value)) ∙ (loopless_rolled (Term-F.Let definitions value)
    ∙ two (has_no_loop value) _ one (list_all-map (λ (d : Bool). d) has_no_loop definitions ∙ all))
