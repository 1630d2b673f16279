-- The passes over a source, one step at a time.
use Rattle.std.proofs.Common.{◌≡◌, ℤ, ℕ, suc, ◌+◌, ◌<◌, refl, sym, ◌∙◌, ap, subst, if◌then◌else◌, bytes_eq, List, ◌++◌, fold, length, get_or, drop, drop-cons, add-one, Option, Some, None, Result, Ok, Err}
use Rattle.std.specs.Prelude.{flat_map}
use Rattle.std.specs.Result.{IsErrAnd, result_err}
use Rattle.df_syntax.specs.declared.program.Constant.{Constant}
use Rattle.df_syntax.specs.Demands.{first_refusal}
use Rattle.df_syntax.specs.Meaning.{Name}
use Rattle.df_syntax.specs.SourceForms.{Numbers, manifest, with_number}
use Rattle.df_syntax.proofs.FirstRefusals.{first_append, first_stays}
use Rattle.df_names.specs.Maps.{bind}
use Rattle.df_shape.specs.declared.answers.ShapeAnswer.{ShapeAnswer}
use Rattle.df_shape.specs.declared.answers.ShapeAnswer.TheVariants.{Memory}
use Rattle.df_shape.specs.Demands.{Demands, manifest_demand}
use Rattle.df_shape.specs.Sources.{constants_demands}
use Rattle.df_shape.specs.Walked.{Tried, Kept}
use Rattle.df_shape.proofs.Inside.{refused_first}

-- ---- constants

pub is_bound : (numbers : Numbers) (c : Constant) (k : ℤ) → manifest numbers c.value ≡ Some k → bind numbers c.name.name k ≡ with_number numbers c
unfolding bind
is_bound numbers c k is = ap (λ (o : Option ℤ). λ (name : Name). if bytes_eq c.name.name name then o else numbers name) (sym is)

pub constant_step : (cs : List Constant) (i : ℕ) (c : Constant) (numbers : Numbers) → i < length cs → c ≡ get_or cs i c → first_refusal (manifest_demand numbers c.value) ≡ None
    → first_refusal (constants_demands numbers (drop i cs)) ≡ first_refusal (constants_demands (with_number numbers c) (drop (i + 1) cs))
constant_step cs i c numbers below is h =
    subst (λ (y : Constant). first_refusal (constants_demands numbers (drop i cs)) ≡ first_refusal (constants_demands (with_number numbers y) (drop (i + 1) cs))) (sym is)
    (let y = get_or cs i c in
    rw (add-one i, drop-cons cs i c)
    (first_append (manifest_demand numbers y.value) (constants_demands (with_number numbers y) (drop (suc i) cs))
    (subst (λ (z : Constant). first_refusal (manifest_demand numbers z.value) ≡ None) is h)))

pub constant_stop : (cs : List Constant) (i : ℕ) (c : Constant) (numbers : Numbers) (x : ShapeAnswer) → i < length cs → c ≡ get_or cs i c → first_refusal (manifest_demand numbers c.value) ≡ Some x
    → first_refusal (constants_demands numbers (drop i cs)) ≡ Some x
constant_stop cs i c numbers x below is h =
    let y = get_or cs i c in
    rw (drop-cons cs i c)
    (first_stays (manifest_demand numbers y.value) (constants_demands (with_number numbers y) (drop (suc i) cs)) x
    (subst (λ (z : Constant). first_refusal (manifest_demand numbers z.value) ≡ Some x) is h))

pub table_step : (cs : List Constant) (i : ℕ) (c : Constant) (numbers : Numbers) → i < length cs → c ≡ get_or cs i c
    → fold with_number numbers (drop i cs) ≡ fold with_number (with_number numbers c) (drop (i + 1) cs)
table_step cs i c numbers below is =
    subst (λ (y : Constant). fold with_number numbers (drop i cs) ≡ fold with_number (with_number numbers y) (drop (i + 1) cs)) (sym is) (rw (add-one i, drop-cons cs i c) refl)

-- ---- the members of a list

module _ {X : Type 0} (g : X → Demands) where
  pub each_stop : {A : Type 0} (o : Option ShapeAnswer) (xs : List X) (i : ℕ) (y : X) (r : Result A ShapeAnswer) (x : ShapeAnswer) → o ≡ first_refusal (flat_map g (drop i xs))
      → i < length xs → y ≡ get_or xs i y → IsErrAnd r (λ z. z ≡ x) → first_refusal (g y) ≡ Some x → o ≡ result_err r
  each_stop o xs i y r x left below is err h =
      left
      ∙ rw (drop-cons xs i y)
      (refused_first (g (get_or xs i y)) (flat_map g (drop (suc i) xs)) r x err (subst (λ (z : X). first_refusal (g z) ≡ Some x) is h))

  pub each_step : (xs : List X) (i : ℕ) (y : X) → i < length xs → y ≡ get_or xs i y → first_refusal (g y) ≡ None
      → first_refusal (flat_map g (drop i xs)) ≡ first_refusal (flat_map g (drop (i + 1) xs))
  each_step xs i y below is h =
      rw (add-one i, drop-cons xs i y)
      (first_append (g (get_or xs i y)) (flat_map g (drop (suc i) xs)) (subst (λ (z : X). first_refusal (g z) ≡ None) is h))

-- ---- refusals handed on

pub tried_err : {A : Type 0} (ds : Demands) (P : A → Type 0) (r : Result A ShapeAnswer) (x : ShapeAnswer) → IsErrAnd r (λ y. y ≡ x) → (¬ (x ≡ Memory) → first_refusal ds ≡ Some x) → Tried ds P r
tried_err ds P (Ok a) x is h = absurd is
tried_err ds P (Err y) x is h = λ ordinary. h (λ e. ordinary (is ∙ e)) ∙ ap Some (sym is)

-- ---- answers without a value

pub kept_of : (ds : Demands) (r : Result (Unit {0}) ShapeAnswer) → first_refusal ds ≡ result_err r → Kept ds r
kept_of ds (Ok a) h = (h, tt)
kept_of ds (Err x) h = λ _. h

pub kept_rest : (as_ bs : Demands) (r : Result (Unit {0}) ShapeAnswer) → first_refusal as_ ≡ None → Kept bs r → Kept (as_ ++ bs) r
kept_rest as_ bs (Ok a) h k = (first_append as_ bs h ∙ k.0, tt)
kept_rest as_ bs (Err x) h k = λ ordinary. first_append as_ bs h ∙ k ordinary

pub kept_as : (ds es : Demands) (r : Result (Unit {0}) ShapeAnswer) → first_refusal ds ≡ first_refusal es → Kept es r → Kept ds r
kept_as ds es (Ok a) same h = (same ∙ h.0, tt)
kept_as ds es (Err x) same h = λ ordinary. same ∙ h ordinary
