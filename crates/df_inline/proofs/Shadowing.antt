-- The values of names when a binding comes or goes.
use Rattle.std.proofs.Common.{◌≡◌, Bool, true, false, if◌then◌else◌, List, [], ◌∷◌, ◌++◌, reverse, refl, sym, ap, subst, ◌∙◌, Option, Some, None, bytes_eq}
use Rattle.std.proofs.lemmas.List.{map-append, reverse-append, reverse-reverse}
use Rattle.std.proofs.lemmas.List.Sums.{fold-append}
use Rattle.std.proofs.lemmas.Slice.Eq.{bytes_eq-Decides}
use Rattle.df_flattened.specs.declared.standing.Standing.{Standing}
use Rattle.df_syntax.specs.Meaning.{Name}
use Rattle.df_inline.specs.declared.names.Binding.{Binding}
use Rattle.df_inline.specs.declared.names.Remembered.{Remembered}
use Rattle.df_inline.specs.Bindings.{later_standing, standing_at, AreStandings, bindings_of, RememberFrom, AreRemembered}

last_one : (locals : List Binding) (b : Binding) (name : Name)
    → standing_at (locals ++ b ∷ []) name ≡ (if bytes_eq b.name name then Some b.standing else standing_at locals name)
last_one locals b name = fold-append (later_standing name) None locals (b ∷ [])

values_more : (locals : List Binding) (b : Binding) (old new : Name → Option Standing) → AreStandings locals old
    → ((name : Name) → new name ≡ (if bytes_eq b.name name then Some b.standing else old name)) → AreStandings (locals ++ b ∷ []) new
values_more locals b old new values is name =
    is name ∙ (ap (λ o. if bytes_eq b.name name then Some b.standing else o) (values name) ∙ sym (last_one locals b name))

restored : (locals : List Binding) (b : Binding) (old : Name → Option Standing) (name : Name) (same : Bool) → bytes_eq b.name name ≡ same → AreStandings (locals ++ b ∷ []) old
    → (if same then standing_at locals b.name else old name) ≡ standing_at locals name
restored locals b old name true is values = ap (standing_at locals) ((bytes_eq-Decides b.name name).0 is)
restored locals b old name false is values = values name ∙ (last_one locals b name ∙ ap (λ s. if s then Some b.standing else standing_at locals name) is)

values_fewer : (locals : List Binding) (b : Binding) (old new : Name → Option Standing) → AreStandings (locals ++ b ∷ []) old
    → ((name : Name) → new name ≡ (if bytes_eq b.name name then standing_at locals b.name else old name)) → AreStandings locals new
values_fewer locals b old new values is name = is name ∙ restored locals b old name (bytes_eq b.name name) refl values

pub bindings_more : (locals : List Remembered) (r : Remembered) → bindings_of (locals ++ r ∷ []) ≡ bindings_of locals ++ r.binding ∷ []
bindings_more locals r = map-append (λ (r : Remembered). r.binding) locals (r ∷ [])

-- a binding comes
pub one_more : (locals : List Remembered) (r : Remembered) (old new : Name → Option Standing) → AreStandings (bindings_of locals) old → AreRemembered locals
    → r.before ≡ old r.binding.name
    → ((name : Name) → new name ≡ (if bytes_eq r.binding.name name then Some r.binding.standing else old name))
    → AreStandings (bindings_of (locals ++ r ∷ [])) new × AreRemembered (locals ++ r ∷ [])
one_more locals r old new values remembered before is = (
  subst (λ (l : List Binding). AreStandings l new) (sym (bindings_more locals r)) (values_more (bindings_of locals) r.binding old new values is),
  subst RememberFrom (sym (reverse-append locals (r ∷ [])))
      (before ∙ (values r.binding.name ∙ ap (λ l. standing_at (bindings_of l) r.binding.name) (sym (reverse-reverse locals))), remembered),
)

-- the last binding goes
pub one_fewer : (locals all : List Remembered) (r : Remembered) (old new : Name → Option Standing) → all ≡ locals ++ r ∷ []
    → AreStandings (bindings_of all) old × AreRemembered all
    → ((name : Name) → new name ≡ (if bytes_eq r.binding.name name then r.before else old name))
    → AreStandings (bindings_of locals) new × AreRemembered locals
one_fewer locals all r old new parts held is =
    let remembered : RememberFrom (r ∷ reverse locals) = subst RememberFrom (reverse-append locals (r ∷ [])) (subst AreRemembered parts held.1) in
    let before : r.before ≡ standing_at (bindings_of locals) r.binding.name = remembered.0 ∙ ap (λ l. standing_at (bindings_of l) r.binding.name) (reverse-reverse locals) in (
      values_fewer (bindings_of locals) r.binding old new
          (subst (λ (l : List Binding). AreStandings l old) (bindings_more locals r) (subst (λ (l : List Remembered). AreStandings (bindings_of l) old) parts held.0))
          (λ name. is name ∙ ap (λ o. if bytes_eq r.binding.name name then o else old name) before),
      remembered.1,
    )
