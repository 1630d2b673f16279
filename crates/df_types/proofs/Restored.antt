-- Names that are new can be bound and unbound again.
use Rattle.std.proofs.Common.{◌≡◌, ℕ, Bool, true, false, List, [], ◌∷◌, ◌++◌, refl, sym, ◌∙◌, ap, Some, None, if◌then◌else◌, bytes_eq}
use Rattle.std.specs.Option.{is_none}
use Rattle.std.proofs.lemmas.Slice.Eq.{bytes_eq-Decides}
use Rattle.df_syntax.specs.declared.tree.Named.{Named}
use Rattle.df_syntax.specs.declared.tree.Definition.{Definition}
use Rattle.df_syntax.specs.declared.tree.Expr.{Expr}
use Rattle.df_types.specs.declared.answers.CheckAnswer.TheVariants.{NameTwice}
use Rattle.df_types.specs.declared.entry.Entry.{Entry}
use Rattle.df_types.specs.declared.entry.Entry.TheVariants as entry
use Rattle.df_names.specs.Maps.{bind, unbind}
use Rattle.df_types.specs.Scopes.{Names, bound, unbound}
use Rattle.df_syntax.specs.Demands.{first_refusal}
use Rattle.df_types.specs.Demands.{Demand}
use Rattle.df_types.specs.Types.{Look, asked, fresh, defined, locals, typed, definition_demands}
use Rattle.df_syntax.proofs.FirstRefusals.{rest_holds}

-- a name that is new stands for nothing
pub new_is_nothing : (named : Named) (names : Names) (ds : List Demand) → first_refusal (fresh named names ∷ ds) ≡ None → names named.name ≡ None
new_is_nothing named names ds h =
    elim (names named.name) as (λ o. first_refusal (record { holds = is_none o; refusal = NameTwice named.name named.place } ∷ ds) ≡ None → o ≡ None) [ None ↦ (λ h'. refl) | Some e ↦ (λ h'. cc) ] h

pub unbind_bind : (names : Names) (name : List ℕ) (e : Entry) → names name ≡ None → unbind (bind names name e) name ≡ names
unfolding bind unbind
unbind_bind names name e none = λ i. λ other. at other (bytes_eq name other) refl i
  where
    at : (other : List ℕ) (b : Bool) → bytes_eq name other ≡ b → (if bytes_eq name other then None else (if bytes_eq name other then Some e else names other)) ≡ names other
    at other true is = ap (λ c. if c then None else (if c then Some e else names other)) is ∙ (sym none ∙ ap names ((bytes_eq-Decides name other).0 is))
    at other false is = ap (λ c. if c then None else (if c then Some e else names other)) is

-- definitions, by their names and types
pub defined_typed : {A : Type 0} (f : Expr → A) (ds : List Definition) → defined (typed f ds) ≡ locals ds
defined_typed f [] = refl
defined_typed f (d ∷ ds) = ap (λ bs. (d.name, entry.Local d.sort) ∷ bs) (defined_typed f ds)

pub restored : (f : Expr → Look) (ds : List Definition) (names : Names) → first_refusal (definition_demands (typed f ds) names) ≡ None
    → unbound (locals ds) (bound (locals ds) names) ≡ names
restored f [] names h = refl
restored f (d ∷ ds) names h =
    let inner = bind names d.name.name (entry.Local d.sort) in
    let new : names d.name.name ≡ None = new_is_nothing d.name names (asked (f d.value) d.sort names ++ definition_demands (typed f ds) inner) h in
    let rest : first_refusal (definition_demands (typed f ds) inner) ≡ None = rest_holds (fresh d.name names ∷ asked (f d.value) d.sort names) (definition_demands (typed f ds) inner) h in
    ap (λ n. unbind n d.name.name) (restored f ds inner rest) ∙ unbind_bind names d.name.name (entry.Local d.sort) new
