-- A part whose type is compared.
use Rattle.std.proofs.Common.{◌≡◌, ℕ, suc, ◌+◌, ◌<◌, ◌≤◌, Result, Ok, Err, map, length, get_or, drop, take, ◌-◌, drop-cons, add-one, arith, subst, Bool, true, false, List, [], ◌∷◌, ◌++◌, refl, sym, ◌∙◌, ap, Some, None, if◌then◌else◌}
use Rattle.df_io.specs.declared.place.Place.{Place}
use Rattle.df_values.specs.declared.values.Basic.{Basic}
use Rattle.df_values.specs.declared.values.Basic.TheVariants.{Integer, Boolean}
use Rattle.df_syntax.specs.declared.tree.Named.{Named}
use Rattle.df_syntax.specs.declared.tree.Expr.{Expr}
use Rattle.df_syntax.specs.declared.tree.Definition.{Definition}
use Rattle.df_syntax.specs.declared.tree.Sort.{Sort}
use Rattle.df_syntax.specs.declared.tree.Sort.TheVariants as of
use Rattle.df_types.specs.declared.answers.CheckAnswer.{CheckAnswer}
use Rattle.df_types.specs.declared.answers.CheckAnswer.TheVariants.{WrongType, WrongArity}
use Rattle.df_names.specs.Maps.{bind}
use Rattle.df_types.specs.Scopes.{Names, bound, Scope}
use Rattle.df_syntax.specs.Demands.{first_refusal}
use Rattle.df_types.specs.Demands.{Demand, demand}
use Rattle.df_types.specs.declared.entry.Entry.TheVariants as entry
use Rattle.df_types.specs.Answers.{Answers, Looked, IsRefused}
use Rattle.df_types.specs.Sorts.{is_same, is_same_basic, is_basic}
use Rattle.df_types.specs.Types.{Look, asked, asked_each, asked_operand, fresh, typed, defined, locals, definition_demands, let_demands}
use Rattle.std.proofs.lemmas.List.{take_rest}
use Rattle.df_types.proofs.Bound.{bound_at}
use Rattle.df_syntax.proofs.FirstRefusals.{both, first_append}
use Rattle.df_types.proofs.Steps.{left, right}

-- one demand more that holds, and one that fails
pub then_holds : (ds : List Demand) (b : Bool) (refusal : CheckAnswer) → first_refusal ds ≡ None → b ≡ true → first_refusal (ds ++ demand b refusal ∷ []) ≡ None
then_holds ds b refusal h is = both ds (demand b refusal ∷ []) h (ap (λ v. if v then None else Some refusal) is)

pub then_fails : (ds : List Demand) (b : Bool) (refusal other : CheckAnswer) → first_refusal ds ≡ None → b ≡ false → refusal ≡ other → IsRefused (ds ++ demand b refusal ∷ []) other
then_fails ds b refusal other h is same = right ds (demand b refusal ∷ []) other h (λ _. ap (λ v. if v then None else Some refusal) is ∙ ap Some same)

pub compared_same : (part : Look) (names : Names) (sort : Sort) → first_refusal (part.demands names) ≡ None → is_same (part.sort names) sort ≡ true → first_refusal (asked part sort names) ≡ None
compared_same part names sort h is = then_holds (part.demands names) (is_same (part.sort names) sort) (WrongType part.place) h is

pub compared_not : (part : Look) (place : Place) (names : Names) (sort : Sort) → first_refusal (part.demands names) ≡ None → part.place ≡ place → is_same (part.sort names) sort ≡ false
    → IsRefused (asked part sort names) (WrongType place)
compared_not part place names sort h at is = then_fails (part.demands names) (is_same (part.sort names) sort) (WrongType part.place) (WrongType place) h is (ap WrongType at)

pub compared_basic : (part : Look) (names : Names) → first_refusal (part.demands names) ≡ None → is_basic (part.sort names) ≡ true → first_refusal (asked_operand true part names) ≡ None
compared_basic part names h is = then_holds (part.demands names) (is_basic (part.sort names)) (WrongType part.place) h is

pub compared_array : (part : Look) (place : Place) (names : Names) → first_refusal (part.demands names) ≡ None → part.place ≡ place → is_basic (part.sort names) ≡ false
    → IsRefused (asked_operand true part names) (WrongType place)
compared_array part place names h at is = then_fails (part.demands names) (is_basic (part.sort names)) (WrongType part.place) (WrongType place) h is (ap WrongType at)

-- ---- the same type

is_same_basic_itself : (b : Basic) → is_same_basic b b ≡ true
is_same_basic_itself Integer = refl
is_same_basic_itself Boolean = refl

pub is_same_itself : (s : Sort) → is_same s s ≡ true
is_same_itself (of.Basic b) = is_same_basic_itself b
is_same_itself (of.Array b) = is_same_basic_itself b

-- an expression that is to be of its own type
pub asked_itself : (part : Look) (names : Names) → first_refusal (part.demands names) ≡ None → first_refusal (asked part (part.sort names) names) ≡ None
asked_itself part names h = compared_same part names (part.sort names) h (is_same_itself (part.sort names))

pub alone : (part : Look) (names : Names) (r : Result Sort CheckAnswer) (scope : Scope) → Looked part names r scope → Answers (part.sort names) (asked part (part.sort names) names) names r scope
alone part names (Ok found) scope h = record { holds = asked_itself part names h.holds; value_is = h.value_is; names_are = h.names_are }
alone part names (Err x) scope h = left (part.demands names) (demand (is_same (part.sort names) (part.sort names)) (WrongType part.place) ∷ []) x h

-- ---- lists of one, of more and of none

pub no_member : {X : Type 0} (xs : List X) → length xs < 1 → xs ≡ []
no_member [] h = refl
no_member (x ∷ xs) h = absurd (omega (arith, h))

pub only_member : {X : Type 0} (xs : List X) (d : X) → length xs ≡ 1 → xs ≡ get_or xs 0 d ∷ []
only_member [] d h = absurd (omega (arith, h))
only_member (x ∷ []) d h = refl
only_member (x ∷ y ∷ xs) d h = absurd (omega (arith, h))

pub first_member : {X : Type 0} (xs : List X) (d : X) → 1 ≤ length xs → xs ≡ get_or xs 0 d ∷ take (length xs - 1) (drop 1 xs)
first_member [] d k = absurd (omega (arith, k))
first_member (x ∷ xs) d k = ap (λ ys. x ∷ ys) (sym (take_rest (x ∷ xs) 1))

-- ---- lists of parts

module _ {X : Type 0} (f : Expr → Look) (g : X → Sort) (names : Names) where
  pub each_asked : (es : List Expr) (xs : List X) (i : ℕ) (e : Expr) (x : X) → i < length es → i < length xs → e ≡ get_or es i e → x ≡ get_or xs i x
      → first_refusal (asked (f e) (g x) names) ≡ None
      → first_refusal (asked_each (map f (drop i es)) (map g (drop i xs)) names) ≡ first_refusal (asked_each (map f (drop (i + 1) es)) (map g (drop (i + 1) xs)) names)
  each_asked es xs i e x below within at of_ h =
      rw (add-one i, drop-cons es i e, drop-cons xs i x)
      (first_append (asked (f (get_or es i e)) (g (get_or xs i x)) names) (asked_each (map f (drop (suc i) es)) (map g (drop (suc i) xs)) names)
      (subst (λ (y : Expr). first_refusal (asked (f y) (g (get_or xs i x)) names) ≡ None) at (subst (λ (y : X). first_refusal (asked (f e) (g y) names) ≡ None) of_ h)))

  pub each_refused : (es : List Expr) (xs : List X) (i : ℕ) (e : Expr) (x : X) (y : CheckAnswer) → i < length es → i < length xs → e ≡ get_or es i e → x ≡ get_or xs i x
      → IsRefused (asked (f e) (g x) names) y → IsRefused (asked_each (map f (drop i es)) (map g (drop i xs)) names) y
  each_refused es xs i e x y below within at of_ h =
      rw (drop-cons es i e, drop-cons xs i x)
      (left (asked (f (get_or es i e)) (g (get_or xs i x)) names) (asked_each (map f (drop (suc i) es)) (map g (drop (suc i) xs)) names) y
      (subst (λ (z : Expr). IsRefused (asked (f z) (g (get_or xs i x)) names) y) at (subst (λ (z : X). IsRefused (asked (f e) (g z) names) y) of_ h)))

-- ---- definitions

module _ (f : Expr → Look) where
  -- what is demanded of one of them
  abbrev one_demands : Definition → Names → List Demand
  one_demands d names = fresh d.name names ∷ asked (f d.value) d.sort names

  pub definition_step : (ds : List Definition) (i : ℕ) (d : Definition) (names : Names) → i < length ds → d ≡ get_or ds i d → first_refusal (one_demands d names) ≡ None
      → first_refusal (definition_demands (typed f (drop i ds)) names) ≡ first_refusal (definition_demands (typed f (drop (i + 1) ds)) (bind names d.name.name (entry.Local d.sort)))
  definition_step ds i d names below is h =
      subst (λ (y : Definition). first_refusal (definition_demands (typed f (drop i ds)) names) ≡ first_refusal (definition_demands (typed f (drop (i + 1) ds)) (bind names y.name.name (entry.Local y.sort)))) (sym is)
      (let y = get_or ds i d in
      rw (add-one i, drop-cons ds i d)
      (first_append (one_demands y names) (definition_demands (typed f (drop (suc i) ds)) (bind names y.name.name (entry.Local y.sort)))
      (subst (λ (z : Definition). first_refusal (one_demands z names) ≡ None) is h)))

  pub definition_stop : (ds : List Definition) (i : ℕ) (d : Definition) (names : Names) (x : CheckAnswer) → i < length ds → d ≡ get_or ds i d → IsRefused (one_demands d names) x
      → IsRefused (definition_demands (typed f (drop i ds)) names) x
  definition_stop ds i d names x below is h =
      let y = get_or ds i d in
      rw (drop-cons ds i d)
      (left (one_demands y names) (definition_demands (typed f (drop (suc i) ds)) (bind names y.name.name (entry.Local y.sort))) x
      (subst (λ (z : Definition). IsRefused (one_demands z names) x) is h))

-- a `let` of no value or several
pub let_of_other : (place : Place) (ds : List (Named × Sort × Look)) (f : Expr → Look) (vs : List Expr) (names : Names) → (length vs ≡ 1 → ⊥)
    → let_demands place ds (map f vs) names ≡ demand false (WrongArity place) ∷ []
let_of_other place ds f [] names h = refl
let_of_other place ds f (v ∷ []) names h = absurd (h (omega arith))
let_of_other place ds f (v ∷ w ∷ vs) names h = refl

-- the next definition bound
pub local_step : (ds : List Definition) (i : ℕ) (d : Definition) (names : Names) → i < length ds → d ≡ get_or ds i d
    → bound (locals (drop i ds)) names ≡ bound (locals (drop (i + 1) ds)) (bind names d.name.name (entry.Local d.sort))
local_step = bound_at (λ (e : Definition). (e.name, entry.Local e.sort))

-- a `let` of one value whose definitions are refused
pub let_stops : (place : Place) (f : Expr → Look) (ds : List Definition) (vs : List Expr) (names : Names) (x : CheckAnswer) → length vs ≡ 1 → IsRefused (definition_demands (typed f ds) names) x
    → IsRefused (let_demands place (typed f ds) (map f vs) names) x
let_stops place f ds [] names x one h = absurd (omega (arith, one))
let_stops place f ds (v ∷ []) names x one h = left (definition_demands (typed f ds) names) ((f v).demands (bound (defined (typed f ds)) names)) x h
let_stops place f ds (v ∷ w ∷ vs) names x one h = absurd (omega (arith, one))
