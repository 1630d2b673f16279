-- The functions of a source, one at a time.
use Rattle.std.proofs.Common.{◌≡◌, ℕ, zero, suc, ◌+◌, ◌<◌, refl, sym, ◌∙◌, ap, subst, Bool, true, false, ◌&&◌, ◌||◌, bytes_eq, List, [], ◌∷◌, ◌++◌, map, fold, length, get_or, take, drop, drop-cons, add-one, arith, Some, None}
use Rattle.std.specs.Prelude.{flat_map}
use Rattle.std.specs.List.{list_any}
use Rattle.std.proofs.lemmas.List.{drop_all}
use Rattle.std.specs.Option.{is_some}
use Rattle.df_syntax.specs.declared.tree.Expr.{Expr}
use Rattle.df_syntax.specs.declared.tree.Parameter.{Parameter}
use Rattle.df_syntax.specs.declared.program.Function.{Function}
use Rattle.df_syntax.specs.Demands.{first_refusal}
use Rattle.df_syntax.specs.Meaning.{Name}
use Rattle.df_syntax.specs.SourceForms.{Numbers, is_array}
use Rattle.df_syntax.proofs.Pushed.{taken}
use Rattle.df_syntax.proofs.FirstRefusals.{first_append, first_stays}
use Rattle.df_names.specs.declared.map.NameMap.{NameMap}
use Rattle.df_names.specs.Found.{names_of}
use Rattle.df_names.specs.Maps.{Names, nothing, bind}
use Rattle.df_shape.specs.declared.answers.ShapeAnswer.{ShapeAnswer}
use Rattle.df_shape.specs.declared.part.Part.TheVariants.{Inside}
use Rattle.df_shape.specs.Demands.{Demands, Around, or_array, demands_of, all_of}
use Rattle.df_shape.specs.Sources.{gives_an_array, callable_among, around_function, function_demands, last_demands, functions_demands}
use Rattle.df_shape.specs.Walks.{looks}
use Rattle.df_shape.specs.Functions.{is_in, Holds}
use Rattle.df_shape.proofs.BodyParts as body

-- ---- values

pub each_value : (around : Around) (es : List Expr) → all_of (looks es) around ≡ flat_map (λ (e : Expr). demands_of e around) es
each_value around [] = refl
each_value around (e ∷ es) = ap (λ (ds : Demands). demands_of e around ++ ds) (each_value around es)

-- ---- names in maps

pub none_in : (map : NameMap (Unit {0})) → names_of map ≡ nothing → is_in map ≡ (λ name. false)
none_in map is = ap (λ (names : Names (Unit {0})). λ (name : Name). is_some (names name)) is

pub one_in : (before after : NameMap (Unit {0})) (name : Name) → names_of after ≡ bind (names_of before) name tt → (other : Name) → is_in after other ≡ (bytes_eq name other || is_in before other)
one_in before after name is other = ap (λ (names : Names (Unit {0})). is_some (names other)) is ∙ body.is_in (names_of before) name other

-- ---- parameters

pub parameters_step : (ps : List Parameter) (i : ℕ) (p : Parameter) (before after : Name → Bool) → i < length ps → p ≡ get_or ps i p → after ≡ or_array before p.name.name p.sort
    → fold (λ arrays (p : Parameter). or_array arrays p.name.name p.sort) before (drop i ps) ≡ fold (λ arrays (p : Parameter). or_array arrays p.name.name p.sort) after (drop (i + 1) ps)
parameters_step ps i p before after below is next =
    subst (λ (y : Parameter). fold (λ arrays (p : Parameter). or_array arrays p.name.name p.sort) before (drop i ps) ≡ fold (λ arrays (p : Parameter). or_array arrays p.name.name p.sort) (or_array before y.name.name y.sort) (drop (i + 1) ps)) (sym is)
    (rw (add-one i, drop-cons ps i p) refl)
    ∙ ap (λ (arrays : Name → Bool). fold (λ arrays (p : Parameter). or_array arrays p.name.name p.sort) arrays (drop (i + 1) ps)) (sym next)

pub array_in : (before after : NameMap (Unit {0})) (p : Parameter) → is_array p.sort ≡ true → names_of after ≡ bind (names_of before) p.name.name tt → is_in after ≡ or_array (is_in before) p.name.name p.sort
array_in before after p array is =
    λ i. λ (other : Name). (one_in before after p.name.name is other ∙ ap (λ (b : Bool). (b && bytes_eq p.name.name other) || is_in before other) (sym array)) i

pub scalar_in : (before : NameMap (Unit {0})) (p : Parameter) → is_array p.sort ≡ false → is_in before ≡ or_array (is_in before) p.name.name p.sort
scalar_in before p scalar = ap (λ (b : Bool). λ (other : Name). (b && bytes_eq p.name.name other) || is_in before other) (sym scalar)

-- ---- functions that give an array

with_it : (x e r : Bool) → (x || ((e && true) || r)) ≡ ((e || x) || r)
with_it true true r = refl
with_it true false r = refl
with_it false true r = refl
with_it false false r = refl

without_it : (x e r : Bool) → (x || ((e && false) || r)) ≡ (x || r)
without_it x true r = refl
without_it x false r = refl

gives_head : (fs : List Function) (i : ℕ) (f : Function) (name : Name) → i < length fs → f ≡ get_or fs i f
    → gives_an_array (drop i fs) name ≡ ((bytes_eq f.name.name name && list_any is_array f.results) || gives_an_array (drop (i + 1) fs) name)
gives_head fs i f name below is =
    subst (λ (y : Function). gives_an_array (drop i fs) name ≡ ((bytes_eq y.name.name name && list_any is_array y.results) || gives_an_array (drop (i + 1) fs) name)) (sym is)
    (rw (add-one i, drop-cons fs i f) refl)

pub gives_step : (before after : NameMap (Unit {0})) (all fs : List Function) (i : ℕ) (f : Function) → i < length fs → f ≡ get_or fs i f → list_any is_array f.results ≡ true
    → names_of after ≡ bind (names_of before) f.name.name tt → Holds before (drop i fs) all → Holds after (drop (i + 1) fs) all
gives_step before after all fs i f below is array bound h name =
    h name
    ∙ (ap (λ (b : Bool). is_in before name || b) (gives_head fs i f name below is)
    ∙ (ap (λ (b : Bool). is_in before name || ((bytes_eq f.name.name name && b) || gives_an_array (drop (i + 1) fs) name)) array
    ∙ (with_it (is_in before name) (bytes_eq f.name.name name) (gives_an_array (drop (i + 1) fs) name)
    ∙ ap (λ (b : Bool). b || gives_an_array (drop (i + 1) fs) name) (sym (one_in before after f.name.name bound name)))))

pub gives_not : (before : NameMap (Unit {0})) (all fs : List Function) (i : ℕ) (f : Function) → i < length fs → f ≡ get_or fs i f → list_any is_array f.results ≡ false
    → Holds before (drop i fs) all → Holds before (drop (i + 1) fs) all
gives_not before all fs i f below is scalar h name =
    h name
    ∙ (ap (λ (b : Bool). is_in before name || b) (gives_head fs i f name below is)
    ∙ (ap (λ (b : Bool). is_in before name || ((bytes_eq f.name.name name && b) || gives_an_array (drop (i + 1) fs) name)) scalar
    ∙ without_it (is_in before name) (bytes_eq f.name.name name) (gives_an_array (drop (i + 1) fs) name)))

-- ---- functions that may be called

swap : (a b c : Bool) → (a || (b || c)) ≡ (b || (a || c))
swap true true c = refl
swap true false c = refl
swap false true c = refl
swap false false c = refl

callable_more : (before : List Function) (f : Function) (name : Name) → callable_among (before ++ f ∷ []) name ≡ (bytes_eq f.name.name name || callable_among before name)
callable_more [] f name = refl
callable_more (g ∷ before) f name =
    ap (λ (b : Bool). bytes_eq g.name.name name || b) (callable_more before f name) ∙ swap (bytes_eq g.name.name name) (bytes_eq f.name.name name) (callable_among before name)

pub callable_step : (map after : NameMap (Unit {0})) (before : List Function) (f : Function) → names_of after ≡ bind (names_of map) f.name.name tt → is_in map ≡ callable_among before
    → is_in after ≡ callable_among (before ++ f ∷ [])
callable_step map after before f bound is =
    λ i. λ (name : Name).
    (one_in map after f.name.name bound name
    ∙ (ap (λ (among : Name → Bool). bytes_eq f.name.name name || among name) is ∙ sym (callable_more before f name))) i

-- ---- all functions

module _ (numbers : Numbers) (all : List Function) where
  step_at : (before : List Function) (f : Function) (rest : List Function) → (rest ≡ [] → ⊥) → first_refusal (function_demands numbers all before f) ≡ None
      → first_refusal (functions_demands numbers all before (f ∷ rest)) ≡ first_refusal (functions_demands numbers all (before ++ f ∷ []) rest)
  step_at before f [] some h = absurd (some refl)
  step_at before f (g ∷ rest) some h = first_append (function_demands numbers all before f) (functions_demands numbers all (before ++ f ∷ []) (g ∷ rest)) h

  stop_at : (before : List Function) (f : Function) (rest : List Function) (x : ShapeAnswer) → (rest ≡ [] → ⊥) → first_refusal (function_demands numbers all before f) ≡ Some x
      → first_refusal (functions_demands numbers all before (f ∷ rest)) ≡ Some x
  stop_at before f [] x some h = absurd (some refl)
  stop_at before f (g ∷ rest) x some h = first_stays (function_demands numbers all before f) (functions_demands numbers all (before ++ f ∷ []) (g ∷ rest)) x h

  headed : (fs : List Function) (i : ℕ) (f : Function) → i < length fs → f ≡ get_or fs i f → drop i fs ≡ f ∷ drop (i + 1) fs
  headed fs i f below is = rw (add-one i, drop-cons fs i f) (ap (λ (y : Function). y ∷ drop (suc i) fs) (sym is))

  more : {X : Type 0} (xs : List X) (n : ℕ) → n < length xs → drop n xs ≡ [] → ⊥
  more [] n below none = omega (arith, below)
  more (x ∷ xs) zero below none = cc
  more (x ∷ xs) (suc n) below none = more xs n (omega (arith, below)) none

  pub function_step : (fs : List Function) (i : ℕ) (f : Function) → i + 1 < length fs → f ≡ get_or fs i f → first_refusal (function_demands numbers all (take i fs) f) ≡ None
      → first_refusal (functions_demands numbers all (take i fs) (drop i fs)) ≡ first_refusal (functions_demands numbers all (take (i + 1) fs) (drop (i + 1) fs))
  function_step fs i f below is h =
      let within : i < length fs = omega (arith, below) in
      ap (λ (l : List Function). first_refusal (functions_demands numbers all (take i fs) l)) (headed fs i f within is)
      ∙ (step_at (take i fs) f (drop (i + 1) fs) (more fs (i + 1) below) h
      ∙ ap (λ (l : List Function). first_refusal (functions_demands numbers all l (drop (i + 1) fs))) (sym (taken fs i f within is)))

  pub function_stop : (fs : List Function) (i : ℕ) (f : Function) (x : ShapeAnswer) → i + 1 < length fs → f ≡ get_or fs i f → first_refusal (function_demands numbers all (take i fs) f) ≡ Some x
      → first_refusal (functions_demands numbers all (take i fs) (drop i fs)) ≡ Some x
  function_stop fs i f x below is h =
      let within : i < length fs = omega (arith, below) in
      ap (λ (l : List Function). first_refusal (functions_demands numbers all (take i fs) l)) (headed fs i f within is)
      ∙ stop_at (take i fs) f (drop (i + 1) fs) x (more fs (i + 1) below) h

  pub function_last : (fs : List Function) (i : ℕ) (f : Function) → i + 1 ≡ length fs → f ≡ get_or fs i f
      → functions_demands numbers all (take i fs) (drop i fs) ≡ last_demands numbers all (take i fs) f
  function_last fs i f last is =
      let within : i < length fs = omega (arith, last) in
      ap (λ (l : List Function). functions_demands numbers all (take i fs) l)
      (headed fs i f within is ∙ ap (λ (l : List Function). f ∷ l) (drop_all (i + 1) fs (omega (arith, last))))

-- ---- what is known around a function

pub around_by : (numbers : Numbers) (arrays : Name → Bool) (callable gives : NameMap (Unit {0})) (all before : List Function)
    → is_in callable ≡ callable_among before → is_in gives ≡ gives_an_array all
    → ◌≡◌ {A = Around} (record { numbers = numbers; arrays = arrays; callable = is_in callable; gives = is_in gives; part = Inside })
    (record (around_function numbers all before) { arrays = arrays })
around_by numbers arrays callable gives all before called given =
    ap (λ (f : Name → Bool). record { numbers = numbers; arrays = arrays; callable = f; gives = is_in gives; part = Inside }) called
    ∙ ap (λ (f : Name → Bool). record { numbers = numbers; arrays = arrays; callable = callable_among before; gives = f; part = Inside }) given

pub around_none : (numbers : Numbers) (none callable gives : NameMap (Unit {0})) (all before : List Function)
    → names_of none ≡ nothing → is_in callable ≡ callable_among before → is_in gives ≡ gives_an_array all
    → ◌≡◌ {A = Around} (record { numbers = numbers; arrays = is_in none; callable = is_in callable; gives = is_in gives; part = Inside }) (around_function numbers all before)
around_none numbers none callable gives all before empty called given =
    around_by numbers (is_in none) callable gives all before called given
    ∙ ap (λ (arrays : Name → Bool). record (around_function numbers all before) { arrays = arrays }) (none_in none empty)
