-- Demands that are tried one behind the other.
use Rattle.std.proofs.Common.{◌≡◌, ℕ, suc, ◌<◌, List, ◌++◌, map, length, get_or, drop, drop-cons, sym, ◌∙◌, ap, subst, Some, None, Result, Ok, Err}
use Rattle.std.specs.Prelude.{flat_map}
use Rattle.std.specs.Result.{IsErrAnd}
use Rattle.df_types.specs.declared.answers.CheckAnswer.{CheckAnswer}
use Rattle.df_names.specs.Found.{names_of}
use Rattle.df_types.specs.Scopes.{Names, Scope}
use Rattle.df_syntax.proofs.FirstRefusals.{first_append, first_stays, both}
use Rattle.df_syntax.specs.Demands.{first_refusal}
use Rattle.df_types.specs.Demands.{Demand}
use Rattle.df_types.specs.Answers.{Answers, IsRefused}

-- the left is refused
pub left : (as_ bs : List Demand) (x : CheckAnswer) → IsRefused as_ x → IsRefused (as_ ++ bs) x
left as_ bs x h = λ ordinary. first_stays as_ bs x (h ordinary)

-- the left holds and the right is refused
pub right : (as_ bs : List Demand) (x : CheckAnswer) → first_refusal as_ ≡ None → IsRefused bs x → IsRefused (as_ ++ bs) x
right as_ bs x h k = λ ordinary. first_append as_ bs h ∙ k ordinary

-- a refusal handed on
pub handed_on : {A : Type 0} (value : A) (ds : List Demand) (names : Names) (r : Result A CheckAnswer) (scope : Scope) (x : CheckAnswer) → IsErrAnd r (λ y. y ≡ x) → IsRefused ds x
    → Answers value ds names r scope
handed_on value ds names (Ok a) scope x is h = absurd is
handed_on value ds names (Err y) scope x is h = λ ordinary. h (λ e. ordinary (is ∙ e)) ∙ ap Some (sym is)

-- ---- demands of the members of a list, one member at a time

module _ {X Y : Type 0} (g : Y → List Demand) (f : X → Y) where
  pub each_stop : (xs : List X) (i : ℕ) (y : X) (x : CheckAnswer) → i < length xs → y ≡ get_or xs i y → IsRefused (g (f y)) x → IsRefused (flat_map g (map f (drop i xs))) x
  each_stop xs i y x below is h =
      rw (drop-cons xs i y) (left (g (f (get_or xs i y))) (flat_map g (map f (drop (suc i) xs))) x (subst (λ (z : X). IsRefused (g (f z)) x) is h))

-- ---- a second part, looked at where the names are as they were

pub refused_2 : (as_ : List Demand) (bs : Names → List Demand) (n : Names) (s : Scope) (x : CheckAnswer) → first_refusal as_ ≡ None → names_of s ≡ n → IsRefused (bs (names_of s)) x
    → IsRefused (as_ ++ bs n) x
refused_2 as_ bs n s x h same k = right as_ (bs n) x h (λ ordinary. sym (ap (λ m. first_refusal (bs m)) same) ∙ k ordinary)

pub holds_2 : (as_ : List Demand) (bs : Names → List Demand) (n : Names) (s : Scope) → first_refusal as_ ≡ None → names_of s ≡ n → first_refusal (bs (names_of s)) ≡ None
    → first_refusal (as_ ++ bs n) ≡ None
holds_2 as_ bs n s h same k = both as_ (bs n) h (sym (ap (λ m. first_refusal (bs m)) same) ∙ k)

pub answers_on : {A : Type 0} (value : A) (as_ bs : List Demand) (after : Names) (r : Result A CheckAnswer) (s : Scope) → first_refusal as_ ≡ None → Answers value bs after r s
    → Answers value (as_ ++ bs) after r s
answers_on value as_ bs after (Ok found) s h k = record { holds = both as_ bs h k.holds; value_is = k.value_is; names_are = k.names_are }
answers_on value as_ bs after (Err x) s h k = right as_ bs x h k

pub answers_2 : {A : Type 0} (value : Names → A) (as_ : List Demand) (bs : Names → List Demand) (after : Names → Names) (n : Names) (s : Scope) (r : Result A CheckAnswer) (t : Scope)
    → first_refusal as_ ≡ None → names_of s ≡ n → Answers (value (names_of s)) (bs (names_of s)) (after (names_of s)) r t → Answers (value n) (as_ ++ bs n) (after n) r t
answers_2 value as_ bs after n s r t h same k =
    answers_on (value n) as_ (bs n) (after n) r t h (subst (λ (m : Names). Answers (value m) (bs m) (after m) r t) same k)

-- ---- demands where the names are as they were

pub moved : (bs : Names → List Demand) (m n : Names) → m ≡ n → first_refusal (bs m) ≡ None → first_refusal (bs n) ≡ None
moved bs m n same h = sym (ap (λ k. first_refusal (bs k)) same) ∙ h

pub moved_refused : (bs : Names → List Demand) (m n : Names) (x : CheckAnswer) → m ≡ n → IsRefused (bs m) x → IsRefused (bs n) x
moved_refused bs m n x same h = λ ordinary. sym (ap (λ k. first_refusal (bs k)) same) ∙ h ordinary

-- where as much is demanded
pub refused_as : (as_ bs : List Demand) (x : CheckAnswer) → first_refusal as_ ≡ first_refusal bs → IsRefused bs x → IsRefused as_ x
refused_as as_ bs x same h = λ ordinary. same ∙ h ordinary
