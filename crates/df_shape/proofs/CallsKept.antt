-- Constants stand for their numbers, and calls give the same where a number stands in place of each constant.
use Rattle.std.proofs.Common.{◌≡◌, ℤ, Bool, true, false, if◌then◌else◌, ◌||◌, List, [], ◌∷◌, ◌++◌, append-nil, append_assoc, map, fold, refl, sym, ◌∙◌, ap, subst, Option, Some, None, bytes_eq, ◌⊎◌, inl, inr}
use Rattle.std.specs.List.{list_all, list_any}
use Rattle.std.specs.Option.{is_some}
use Rattle.std.specs.Prelude.{not}
use Rattle.df_values.specs.declared.values.Value.{Value}
use Rattle.df_values.specs.declared.values.Value.TheVariants.{Int, Truth, Error}
use Rattle.df_syntax.specs.declared.bound.Bound.{Bound}
use Rattle.df_syntax.specs.declared.bound.Bound.TheVariants.{Scalar}
use Rattle.df_syntax.specs.declared.tree.Expr.{Expr}
use Rattle.df_syntax.specs.declared.tree.Parameter.{Parameter}
use Rattle.df_syntax.specs.declared.program.Constant.{Constant}
use Rattle.df_syntax.specs.declared.program.Function.{Function}
use Rattle.df_syntax.specs.declared.piped.Outcome.{Outcome}
use Rattle.df_syntax.specs.Demands.{first_refusal}
use Rattle.df_syntax.proofs.FirstRefusals.{head_holds, tail_holds}
use Rattle.df_syntax.specs.Meaning.{Name, value_of, ordinary, scalar, bound_at, calls, only_value, parameters_bound}
use Rattle.df_syntax.specs.FreshNames.{Taken, also, is_fresh, parameters_fresh, with_parameters, function_fresh}
use Rattle.df_syntax.specs.SourceForms.{Constants, Numbers, only, number_value, manifest, with_number, with_constant}
use Rattle.df_syntax.specs.SourceMeaning.{source_calls}
use Rattle.df_shape.specs.declared.standing.Standing.{Standing}
use Rattle.df_shape.specs.declared.standing.Standing.TheVariants as standing
use Rattle.df_shape.specs.Renamed.{Names, renamed, function_renamed}
use Rattle.df_shape.specs.Shaped.{constant_standing, constant_names}
use Rattle.df_shape.specs.declared.answers.ShapeAnswer.{ShapeAnswer}
use Rattle.df_shape.specs.declared.answers.ShapeAnswer.TheVariants.{NotManifest}
use Rattle.df_shape.specs.Demands.{Demands, demand, manifest_demand}
use Rattle.df_shape.specs.Sources.{constants_demands}
use Rattle.std.proofs.lemmas.Bool.{not-true, or_right}
use Rattle.df_syntax.proofs.Tests.{and_left, and_right}
use Rattle.df_shape.proofs.Agreement.{Bounds, Agree, AgreesBy, agree_after, bound_after, also_taken}
use Rattle.df_shape.proofs.Kept.{with_calls, expression_kept}
use Rattle.df_shape.proofs.ManifestMeaning.{HaveNumbers, manifest_means}

-- ---- numbers

pub some_of : {A : Type 0} (o : Option A) → is_some o ≡ true → (a : A) × (o ≡ Some a)
some_of None h = absurd (apart h)
  where
    apart : false ≡ true → ⊥
    apart h = cc
some_of (Some a) h = (a, refl)

int_of : (v : Option Value) (k : ℤ) → ordinary v ≡ Some k → v ≡ Some (Int k)
int_of None k h = cc
int_of (Some (Int n)) k h = cc
int_of (Some (Truth t)) k h = cc
int_of (Some (Error e)) k h = cc

abbrev pub number_bound : Option ℤ → Option Bound
number_bound None = None
number_bound (Some k) = Some (Scalar (Some (Int k)))

-- each constant is bound to its number, and nothing else is bound
abbrev pub Exact : Numbers → Constants → Type 0
Exact numbers constants = (name : Name) → bound_at constants name ≡ number_bound (numbers name)

scalar_number : (o : Option ℤ) → scalar (number_bound o) ≡ number_value o
scalar_number None = refl
scalar_number (Some k) = refl

pub exact_numbers : (numbers : Numbers) (constants : Constants) → Exact numbers constants → HaveNumbers numbers (only constants)
exact_numbers numbers constants exact name = inr (sym (ap scalar (exact name) ∙ scalar_number (numbers name)))

exact_after : (numbers : Numbers) (constants : Constants) (c : Constant) → Exact numbers constants → (k : ℤ) → manifest numbers c.value ≡ Some k → Exact (with_number numbers c) (with_constant constants c)
exact_after numbers constants c exact k is name =
    bound_after constants c.name.name (Scalar (value_of c.value (only constants))) name
    ∙ (ap (λ v. if bytes_eq c.name.name name then Some (Scalar v) else bound_at constants name) (int_of _ k (manifest_means numbers (only constants) (exact_numbers numbers constants exact) c.value k is))
    ∙ by (bytes_eq c.name.name name))
  where
    by : (b : Bool) → (if b then Some (Scalar (Some (Int k))) else bound_at constants name) ≡ number_bound (if b then manifest numbers c.value else numbers name)
    by true = sym (ap number_bound is)
    by false = exact name

pub demand_held : (b : Bool) (r : ShapeAnswer) (rest : Demands) → first_refusal (demand b r ++ rest) ≡ None → (b ≡ true) × (first_refusal rest ≡ None)
demand_held b r rest h = (head_holds (record { holds = b; refusal = r }) rest h, tail_holds (record { holds = b; refusal = r }) rest h)

-- a manifest expression has a number
pub manifest_held : (numbers : Numbers) (e : Expr) (rest : Demands) → first_refusal (manifest_demand numbers e ++ rest) ≡ None
    → ((k : ℤ) × (manifest numbers e ≡ Some k)) × (first_refusal rest ≡ None)
manifest_held numbers e rest h =
    let both = demand_held (is_some (manifest numbers e)) (NotManifest e.place) rest h in
    (some_of (manifest numbers e) both.0, both.1)

pub constants_exact : (cs : List Constant) (numbers : Numbers) (constants : Constants) → Exact numbers constants → first_refusal (constants_demands numbers cs) ≡ None
    → Exact (fold with_number numbers cs) (fold with_constant constants cs)
constants_exact [] numbers constants exact holds = exact
constants_exact (c ∷ cs) numbers constants exact holds =
    let held = manifest_held numbers c.value (constants_demands (with_number numbers c) cs) holds in
    constants_exact cs (with_number numbers c) (with_constant constants c) (exact_after numbers constants c exact held.0.0 held.0.1) held.1

-- a constant's name is among those of the constants
pub numbers_among : (cs : List Constant) (numbers : Numbers) (name : Name) (k : ℤ) → fold with_number numbers cs name ≡ Some k
    → (list_any (λ (c : Constant). bytes_eq c.name.name name) cs ≡ true) ⊎ (numbers name ≡ Some k)
numbers_among [] numbers name k is = inr is
numbers_among (c ∷ cs) numbers name k is = by (numbers_among cs (with_number numbers c) name k is) (bytes_eq c.name.name name) refl
  where
    by : (list_any (λ (d : Constant). bytes_eq d.name.name name) cs ≡ true) ⊎ (with_number numbers c name ≡ Some k) → (b : Bool) → bytes_eq c.name.name name ≡ b
        → ((bytes_eq c.name.name name || list_any (λ (d : Constant). bytes_eq d.name.name name) cs) ≡ true) ⊎ (numbers name ≡ Some k)
    by (inl later) b at = inl (or_right (bytes_eq c.name.name name) _ later)
    by (inr here) true at = inl (ap (λ t. t || list_any (λ (d : Constant). bytes_eq d.name.name name) cs) at)
    by (inr here) false at = inr (sym (ap (λ t. if t then manifest numbers c.value else numbers name) at) ∙ here)

-- ---- functions

-- where the constants alone are known
pub standing_constant : (o : Option ℤ) (s : Standing) → constant_standing o ≡ Some s → (k : ℤ) × (o ≡ Some k)
standing_constant None s is = cc
standing_constant (Some k) s is = (k, refl)

pub never_array : (o : Option ℤ) (out : Outcome) (other : Name) → constant_standing o ≡ Some (standing.Array out other) → ⊥
never_array None out other is = cc
never_array (Some k) out other is = cc

constant_agrees : (constants : Constants) (name : Name) (o : Option ℤ) → bound_at constants name ≡ number_bound o → AgreesBy constants [] name (constant_standing o)
constant_agrees constants name None is = is
constant_agrees constants name (Some k) is = (is, refl)

pub constants_agree : (numbers : Numbers) (constants : Constants) (taken : Taken) → Exact numbers constants → ((name : Name) (k : ℤ) → numbers name ≡ Some k → taken name ≡ true)
    → Agree (constant_names numbers) taken constants []
constants_agree numbers constants taken exact known = record {
  standing_taken = λ name s is. let k = standing_constant (numbers name) s is in known name k.0 k.1;
  array_taken = λ name o other is. absurd (never_array (numbers name) o other is);
  agrees = λ name. constant_agrees constants name (numbers name) (exact name);
}

pub more_taken : (names : Names) (taken others : Taken) (source blocks : Bounds) → Agree names taken source blocks → ((name : Name) → taken name ≡ true → others name ≡ true)
    → Agree names others source blocks
more_taken names taken others source blocks agree more = record {
  standing_taken = λ name s is. more name (agree.standing_taken name s is);
  array_taken = λ name o other is. more other (agree.array_taken name o other is);
  agrees = agree.agrees;
}

parameters_taken : (ps : List Parameter) (taken : Taken) (name : Name) → taken name ≡ true → with_parameters ps taken name ≡ true
parameters_taken [] taken name is = is
parameters_taken (p ∷ ps) taken name is = parameters_taken ps (also taken p.name.name) name (also_taken taken p.name.name name is)

parameters_agree : (names : Names) (ps : List Parameter) (vs : List (Option Value)) (taken : Taken) (source blocks : Bounds) → Agree names taken source blocks → parameters_fresh ps taken ≡ true
    → Agree names (with_parameters ps taken) (source ++ parameters_bound ps vs) (blocks ++ parameters_bound ps vs)
parameters_agree names [] vs taken source blocks agree fresh =
    subst (λ s. Agree names taken s (blocks ++ [])) (sym (append-nil source)) (subst (λ b. Agree names taken source b) (sym (append-nil blocks)) agree)
parameters_agree names (p ∷ ps) [] taken source blocks agree fresh =
    more_taken names taken (with_parameters (p ∷ ps) taken) _ _
    (subst (λ s. Agree names taken s (blocks ++ [])) (sym (append-nil source)) (subst (λ b. Agree names taken source b) (sym (append-nil blocks)) agree)) (parameters_taken (p ∷ ps) taken)
parameters_agree names (p ∷ ps) (v ∷ vs) taken source blocks agree fresh =
    let new : taken p.name.name ≡ false = not-true (taken p.name.name) (and_left _ _ fresh) in
    let rest = parameters_agree names ps vs (also taken p.name.name) (source ++ (p.name.name, Scalar v) ∷ []) (blocks ++ (p.name.name, Scalar v) ∷ [])
    (agree_after names taken source blocks p.name.name (Scalar v) agree new) (and_right (not (taken p.name.name)) _ fresh) in
    subst (λ s. Agree names (with_parameters (p ∷ ps) taken) s (blocks ++ parameters_bound (p ∷ ps) (v ∷ vs))) (append_assoc source ((p.name.name, Scalar v) ∷ []) (parameters_bound ps vs))
    (subst (λ b. Agree names (with_parameters (p ∷ ps) taken) ((source ++ (p.name.name, Scalar v) ∷ []) ++ parameters_bound ps vs) b) (append_assoc blocks ((p.name.name, Scalar v) ∷ []) (parameters_bound ps vs)) rest)

module _ (numbers : Numbers) (constants : Constants) (taken : Taken) (agree : Agree (constant_names numbers) taken constants []) where
  abbrev after : List Function → List Function
  after functions = map (function_renamed (constant_names numbers)) functions

  only_kept : (f : Function) (before : List Function) → ((name : Name) (vs : List (Option Value)) → calls (after before) name vs ≡ source_calls constants before name vs)
      → function_fresh taken f ≡ true → (vs : List (Option Value)) (values : List Expr) → list_all (λ e. is_fresh e (with_parameters f.parameters taken)) values ≡ true
      → only_value (map (renamed (constant_names numbers)) values) (λ e. value_of e (with_calls (calls (after before)) (parameters_bound f.parameters vs)))
      ≡ only_value values (λ e. value_of e (with_calls (source_calls constants before) (constants ++ parameters_bound f.parameters vs)))
  unfolding value_of
  only_kept f before same fresh vs [] all = refl
  only_kept f before same fresh vs (e ∷ []) all =
      (expression_kept (constant_names numbers) (source_calls constants before) (calls (after before)) same e (with_parameters f.parameters taken) (constants ++ parameters_bound f.parameters vs) (parameters_bound f.parameters vs)
      (parameters_agree (constant_names numbers) f.parameters vs taken constants [] agree (and_left _ _ fresh)) (and_left _ _ all)).0
  only_kept f before same fresh vs (e ∷ d ∷ es) all = refl

  chosen : (same : Bool) (a b x y : Option Value) → a ≡ x → b ≡ y → (if same then a else b) ≡ (if same then x else y)
  chosen true a b x y p q = p
  chosen false a b x y p q = q

  -- from the last function to the first
  pub calls_kept : (functions : List Function) → list_all (function_fresh taken) functions ≡ true → (name : Name) (vs : List (Option Value))
      → calls (after functions) name vs ≡ source_calls constants functions name vs
  calls_kept [] fresh name vs = refl
  calls_kept (f ∷ functions) fresh name vs =
      let same = calls_kept functions (and_right (function_fresh taken f) _ fresh) in
      let mine = and_left (function_fresh taken f) _ fresh in
      chosen (bytes_eq f.name.name name) _ _ _ _ (only_kept f functions same mine vs f.values (and_right (parameters_fresh f.parameters taken) _ mine)) (same name vs)
