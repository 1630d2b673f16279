-- The passes over a source, one step at a time.
use Rattle.std.proofs.Common.{◌≡◌, ℕ, suc, ◌+◌, zero, ◌<◌, ◌-◌, ◌==◌, slice_get, Bool, true, false, List, [], ◌∷◌, ◌++◌, map, length, get_or, drop, drop-cons, refl, sym, ◌∙◌, ap, subst, append_assoc, add-one, arith, OnOk, Option, Some, None, Result, Ok, Err}
use Rattle.std.specs.Result.{IsErrAnd, IfErr}
use Rattle.std.proofs.lemmas.Bool.{eqb-true, eqb-false}
use Rattle.std.proofs.lemmas.List.{drop_all}
use Rattle.df_syntax.specs.declared.tree.Parameter.{Parameter}
use Rattle.df_syntax.specs.declared.tree.Sort.{Sort}
use Rattle.df_syntax.specs.declared.tree.Expr.{Expr}
use Rattle.df_syntax.specs.declared.program.Constant.{Constant}
use Rattle.df_syntax.specs.declared.program.Range.{Range}
use Rattle.df_syntax.specs.declared.program.Function.{Function}
use Rattle.df_syntax.specs.declared.program.Program.{Program}
use Rattle.df_types.specs.declared.answers.CheckAnswer.{CheckAnswer}
use Rattle.df_types.specs.declared.entry.Entry.TheVariants as entry
use Rattle.df_types.specs.Scopes.{Scope, Names, Binding, bound, unbound}
use Rattle.df_names.specs.Found.{names_of}
use Rattle.df_names.specs.Maps.{nothing, bind, unbind}
use Rattle.df_types.proofs.Restored.{new_is_nothing, unbind_bind}
use Rattle.df_syntax.specs.Demands.{first_refusal}
use Rattle.df_types.specs.Demands.{Demand}
use Rattle.df_types.specs.Answers.{Answers, IsRefused}
use Rattle.df_types.specs.Sorts.{integer}
use Rattle.df_types.specs.Types.{Look, asked, asked_each, fresh}
use Rattle.df_types.specs.Sources.{demands, declared, all_names, later, numbered, constants, arrays, all_range_demands, last_parameters, left_without, constant_look, constant_demands, one_range_demands, range_demands, fresh_demands, function_demands, functions_demands, is_empty}
use Rattle.df_syntax.proofs.FirstRefusals.{both, first_append, rest_holds}
use Rattle.df_types.proofs.Steps.{left, right}

-- ---- constants

pub constant_step : (cs : List Constant) (i : ℕ) (c : Constant) (names : Names) → i < length cs → c ≡ get_or cs i c → first_refusal (asked (constant_look c.value) integer names) ≡ None
    → first_refusal (constant_demands (drop i cs) names) ≡ first_refusal (constant_demands (drop (i + 1) cs) (bind names c.name.name entry.Constant))
constant_step cs i c names below is h =
    subst (λ (y : Constant). first_refusal (constant_demands (drop i cs) names) ≡ first_refusal (constant_demands (drop (i + 1) cs) (bind names y.name.name entry.Constant))) (sym is)
    (let y = get_or cs i c in
    rw (add-one i, drop-cons cs i c)
    (first_append (asked (constant_look y.value) integer names) (constant_demands (drop (suc i) cs) (bind names y.name.name entry.Constant))
    (subst (λ (z : Constant). first_refusal (asked (constant_look z.value) integer names) ≡ None) is h)))

pub constant_stop : (cs : List Constant) (i : ℕ) (c : Constant) (names : Names) (x : CheckAnswer) → i < length cs → c ≡ get_or cs i c → IsRefused (asked (constant_look c.value) integer names) x
    → IsRefused (constant_demands (drop i cs) names) x
constant_stop cs i c names x below is h =
    let y = get_or cs i c in
    rw (drop-cons cs i c)
    (left (asked (constant_look y.value) integer names) (constant_demands (drop (suc i) cs) (bind names y.name.name entry.Constant)) x
    (subst (λ (z : Constant). IsRefused (asked (constant_look z.value) integer names) x) is h))

-- ---- ranges

pub range_step : (rs : List Range) (i : ℕ) (r : Range) (without names : Names) → i < length rs → r ≡ get_or rs i r → first_refusal (one_range_demands r without names) ≡ None
    → first_refusal (range_demands (drop i rs) without names) ≡ first_refusal (range_demands (drop (i + 1) rs) (unbind without r.name.name) names)
range_step rs i r without names below is h =
    subst (λ (y : Range). first_refusal (range_demands (drop i rs) without names) ≡ first_refusal (range_demands (drop (i + 1) rs) (unbind without y.name.name) names)) (sym is)
    (let y = get_or rs i r in
    rw (add-one i, drop-cons rs i r)
    (first_append (one_range_demands y without names) (range_demands (drop (suc i) rs) (unbind without y.name.name) names)
    (subst (λ (z : Range). first_refusal (one_range_demands z without names) ≡ None) is h)))

pub range_stop : (rs : List Range) (i : ℕ) (r : Range) (without names : Names) (x : CheckAnswer) → i < length rs → r ≡ get_or rs i r → IsRefused (one_range_demands r without names) x
    → IsRefused (range_demands (drop i rs) without names) x
range_stop rs i r without names x below is h =
    let y = get_or rs i r in
    rw (drop-cons rs i r)
    (left (one_range_demands y without names) (range_demands (drop (suc i) rs) (unbind without y.name.name) names) x
    (subst (λ (z : Range). IsRefused (one_range_demands z without names) x) is h))

pub left_step : (rs : List Range) (i : ℕ) (r : Range) (without : Names) → i < length rs → r ≡ get_or rs i r
    → left_without (drop i rs) without ≡ left_without (drop (i + 1) rs) (unbind without r.name.name)
left_step rs i r without below is =
    subst (λ (y : Range). left_without (drop i rs) without ≡ left_without (drop (i + 1) rs) (unbind without y.name.name)) (sym is) (rw (add-one i, drop-cons rs i r) refl)

-- ---- functions

at_end : {X : Type 0} (xs : List X) (n : ℕ) → n ≡ length xs → is_empty (drop n xs) ≡ true
at_end xs n is = rw (drop_all n xs (omega (arith, is))) refl

before_end : {X : Type 0} (xs : List X) (n : ℕ) → n < length xs → is_empty (drop n xs) ≡ false
before_end [] n below = absurd (omega (arith, below))
before_end (x ∷ xs) zero below = refl
before_end (x ∷ xs) (suc n) below = before_end xs n (omega (arith, below))

pub last_one : {X : Type 0} (xs : List X) (i : ℕ) (b : Bool) → i < length xs → b ≡ (i + 1 == length xs) → is_empty (drop (i + 1) xs) ≡ b
last_one xs i b below is = by (i + 1 == length xs) refl ∙ sym is
  where
    by : (v : Bool) → (i + 1 == length xs) ≡ v → is_empty (drop (i + 1) xs) ≡ v
    by true same = at_end xs (i + 1) (eqb-true (i + 1) (length xs) same)
    by false other = let differ = eqb-false (i + 1) (length xs) other in before_end xs (i + 1) (omega (arith, below, differ))

-- the last function's parameters
abbrev parameters_or_none : Option Function → List Parameter
parameters_or_none (Some f) = f.parameters
parameters_or_none None = []

pub last_parameters_at : (fs : List Function) (f : Function) → Some f ≡ slice_get fs (length fs - 1) → f.parameters ≡ last_parameters fs
last_parameters_at [] f is = cc
last_parameters_at (g ∷ []) f is = ap parameters_or_none is
last_parameters_at (g ∷ h ∷ fs) f is = last_parameters_at (h ∷ fs) f (is ∙ last_get g h fs)
  where
    last_get : (g h : Function) (fs : List Function) → slice_get (g ∷ h ∷ fs) (length (g ∷ h ∷ fs) - 1) ≡ slice_get (h ∷ fs) (length (h ∷ fs) - 1)
    last_get g h fs = let a : length (g ∷ h ∷ fs) - 1 ≡ suc (length fs) = omega arith in let b : length (h ∷ fs) - 1 ≡ length fs = omega arith in rw (a, b) refl

module _ (fs : List Function) where
  pub function_step : (gs : List Function) (i : ℕ) (g : Function) (names : Names) → i < length gs → g ≡ get_or gs i g → first_refusal (function_demands fs (is_empty (drop (i + 1) gs)) g names) ≡ None
      → first_refusal (functions_demands fs (drop i gs) names) ≡ first_refusal (functions_demands fs (drop (i + 1) gs) names)
  function_step gs i g names below is h =
      rw (add-one i, drop-cons gs i g)
      (first_append (function_demands fs (is_empty (drop (suc i) gs)) (get_or gs i g) names) (functions_demands fs (drop (suc i) gs) names)
      (subst (λ (z : Function). first_refusal (function_demands fs (is_empty (drop (suc i) gs)) z names) ≡ None) is (rw add-one at h)))

  pub function_stop : (gs : List Function) (i : ℕ) (g : Function) (names : Names) (x : CheckAnswer) → i < length gs → g ≡ get_or gs i g → IsRefused (function_demands fs (is_empty (drop (i + 1) gs)) g names) x
      → IsRefused (functions_demands fs (drop i gs) names) x
  function_stop gs i g names x below is h =
      rw (drop-cons gs i g)
      (left (function_demands fs (is_empty (drop (suc i) gs)) (get_or gs i g) names) (functions_demands fs (drop (suc i) gs) names) x
      (subst (λ (z : Function). IsRefused (function_demands fs (is_empty (drop (suc i) gs)) z names) x) is (rw add-one at h)))

-- ---- results

pub asked_none : (ps : List Look) (ss : List Sort) (names : Names) → ss ≡ [] → first_refusal (asked_each ps ss names) ≡ None
asked_none [] ss names none = refl
asked_none (p ∷ ps) [] names none = refl
asked_none (p ∷ ps) (s ∷ ss) names none = cc

module _ (f : Expr → Look) (names : Names) where
  pub result_step : (es : List Expr) (ss : List Sort) (i : ℕ) (e : Expr) (d : Sort) → i < length es → i < length ss → e ≡ get_or es i e → first_refusal (asked (f e) (get_or ss i d) names) ≡ None
      → first_refusal (asked_each (map f (drop i es)) (drop i ss) names) ≡ first_refusal (asked_each (map f (drop (i + 1) es)) (drop (i + 1) ss) names)
  result_step es ss i e d below within at h =
      rw (add-one i, drop-cons es i e, drop-cons ss i d)
      (first_append (asked (f (get_or es i e)) (get_or ss i d) names) (asked_each (map f (drop (suc i) es)) (drop (suc i) ss) names)
      (subst (λ (y : Expr). first_refusal (asked (f y) (get_or ss i d) names) ≡ None) at h))

  pub result_stop : (es : List Expr) (ss : List Sort) (i : ℕ) (e : Expr) (d : Sort) (x : CheckAnswer) → i < length es → i < length ss → e ≡ get_or es i e → IsRefused (asked (f e) (get_or ss i d) names) x
      → IsRefused (asked_each (map f (drop i es)) (drop i ss) names) x
  result_stop es ss i e d x below within at h =
      rw (drop-cons es i e, drop-cons ss i d)
      (left (asked (f (get_or es i e)) (get_or ss i d) names) (asked_each (map f (drop (suc i) es)) (drop (suc i) ss) names) x
      (subst (λ (y : Expr). IsRefused (asked (f y) (get_or ss i d) names) x) at h))

-- an answer that leaves another scope as it is
pub answers_read : (as_ bs : List Demand) (n m : Names) (s t : Scope) (r : Result (Unit {0}) CheckAnswer) → first_refusal as_ ≡ None → names_of s ≡ n → Answers (tt {0}) bs m r t
    → Answers (tt {0}) (as_ ++ bs) n r s
answers_read as_ bs n m s t (Ok u) h same k = record { holds = both as_ bs h k.holds; value_is = refl; names_are = same }
answers_read as_ bs n m s t (Err x) h same k = right as_ bs x h k

-- ---- all names

pub fresh_append : (as_ bs : List Binding) (names : Names) → fresh_demands (as_ ++ bs) names ≡ fresh_demands as_ names ++ fresh_demands bs (bound as_ names)
fresh_append [] bs names = refl
fresh_append (a ∷ as_) bs names = ap (λ ds. fresh a.0 names ∷ ds) (fresh_append as_ bs (bind names a.0.name a.1))

pub bound_append : (as_ bs : List Binding) (names : Names) → bound (as_ ++ bs) names ≡ bound bs (bound as_ names)
bound_append [] bs names = refl
bound_append (a ∷ as_) bs names = bound_append as_ bs (bind names a.0.name a.1)

pub unbound_fresh : (bs : List Binding) (names : Names) → first_refusal (fresh_demands bs names) ≡ None → unbound bs (bound bs names) ≡ names
unbound_fresh [] names h = refl
unbound_fresh (b ∷ bs) names h =
    let inner = bind names b.0.name b.1 in
    let new : names b.0.name ≡ None = new_is_nothing b.0 names (fresh_demands bs inner) h in
    let rest : first_refusal (fresh_demands bs inner) ≡ None = rest_holds (fresh b.0 names ∷ []) (fresh_demands bs inner) h in
    ap (λ n. unbind n b.0.name) (unbound_fresh bs inner rest) ∙ unbind_bind names b.0.name b.1 new

-- ---- the whole source

-- where the names of constants are declared, those of functions too, and the constants known
abbrev pub stage_1 : Program → Names
stage_1 p = bound (later p.constants) nothing

abbrev pub stage_2 : Program → Names
stage_2 p = bound (numbered 0 p.functions) (stage_1 p)

abbrev pub stage_3 : Program → Names
stage_3 p = bound (constants p.constants) (stage_2 p)

abbrev pub in_stages : Program → List Demand
in_stages p =
    fresh_demands (later p.constants) nothing
    ++ (fresh_demands (numbered 0 p.functions) (stage_1 p)
    ++ (constant_demands p.constants (stage_2 p)
    ++ (all_range_demands p.ranges (arrays (last_parameters p.functions)) (stage_3 p)
    ++ functions_demands p.functions p.functions (stage_3 p))))

pub demands_in_stages : (p : Program) → demands p ≡ in_stages p
unfolding demands
demands_in_stages p =
    let names : declared p ≡ stage_2 p = bound_append (later p.constants) (numbered 0 p.functions) nothing in
    ap (λ (n : Names). fresh_demands (all_names p) nothing ++ (constant_demands p.constants n ++ (all_range_demands p.ranges (arrays (last_parameters p.functions)) (bound (constants p.constants) n)
    ++ functions_demands p.functions p.functions (bound (constants p.constants) n)))) names
    ∙ (ap (λ (ds : List Demand). ds ++ (constant_demands p.constants (stage_2 p) ++ (all_range_demands p.ranges (arrays (last_parameters p.functions)) (stage_3 p) ++ functions_demands p.functions p.functions (stage_3 p))))
    (fresh_append (later p.constants) (numbered 0 p.functions) nothing)
    ∙ append_assoc (fresh_demands (later p.constants) nothing) (fresh_demands (numbered 0 p.functions) (stage_1 p))
    (constant_demands p.constants (stage_2 p) ++ (all_range_demands p.ranges (arrays (last_parameters p.functions)) (stage_3 p) ++ functions_demands p.functions p.functions (stage_3 p))))

-- a refusal handed on
pub refusal_of : {A : Type 0} (p : Program) (r : Result A CheckAnswer) (x : CheckAnswer) → IsErrAnd r (λ y. y ≡ x) → IsRefused (in_stages p) x → IfErr r (λ y. IsRefused (demands p) y)
refusal_of p (Ok a) x is h = absurd is
refusal_of p (Err y) x is h = λ ordinary. ap first_refusal (demands_in_stages p) ∙ (h (λ e. ordinary (is ∙ e)) ∙ ap Some (sym is))

pub accepted_of : {A : Type 0} (value : A) (p : Program) (n : Names) (r : Result A CheckAnswer) (s : Scope) → Answers value (in_stages p) n r s → OnOk r (first_refusal (demands p) ≡ None)
accepted_of value p n (Ok a) s h = ap first_refusal (demands_in_stages p) ∙ h.holds
accepted_of value p n (Err y) s h = tt

pub refused_of : {A : Type 0} (value : A) (p : Program) (n : Names) (r : Result A CheckAnswer) (s : Scope) → Answers value (in_stages p) n r s → IfErr r (λ y. IsRefused (demands p) y)
refused_of value p n (Ok a) s h = tt
refused_of value p n (Err y) s h = λ ordinary. ap first_refusal (demands_in_stages p) ∙ h ordinary
