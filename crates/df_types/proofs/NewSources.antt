-- The names that the functions of an accepted source bind are new where they are bound.
use Rattle.std.proofs.Common.{◌≡◌, ℕ, suc, Bool, true, false, ◌&&◌, ◌||◌, if◌then◌else◌, List, [], ◌∷◌, ◌++◌, map, length, ◌==◌, refl, sym, ◌∙◌, ap, None, bytes_eq}
use Rattle.std.specs.Bool.{IsTrue}
use Rattle.std.specs.List.{list_all, list_any}
use Rattle.std.proofs.lemmas.Bool.{eqb-true}
use Rattle.std.proofs.lemmas.List.Folds.{list_all-map}
use Rattle.df_names.specs.Maps.{nothing, bind}
use Rattle.df_syntax.specs.declared.tree.Expr.{Expr}
use Rattle.df_syntax.specs.declared.tree.Parameter.{Parameter}
use Rattle.df_syntax.specs.declared.program.Constant.{Constant}
use Rattle.df_syntax.specs.declared.program.Function.{Function}
use Rattle.df_syntax.specs.declared.program.Range.{Range}
use Rattle.df_syntax.specs.declared.program.Program.{Program}
use Rattle.df_syntax.specs.Demands.{first_refusal}
use Rattle.df_syntax.specs.FreshNames.{Taken, Fresh, also, is_new, is_fresh, all_fresh, parameters_fresh, with_parameters, function_fresh, declared_names, names_are_new}
use Rattle.df_syntax.specs.WellBuilt.{is_some_list, is_bounded, function_bounded, program_bounded}
use Rattle.df_syntax.proofs.Tests.{and_left, and_right}
use Rattle.std.proofs.Math.Bool.{or_assoc}
use Rattle.std.proofs.lemmas.Bool.{and_from, or_left, or_right}
use Rattle.df_syntax.proofs.FirstRefusals.{begin_holds, rest_holds, head_holds, tail_holds}
use Rattle.df_types.specs.declared.answers.CheckAnswer.TheVariants.{WrongArity}
use Rattle.df_types.specs.declared.entry.Entry.TheVariants as entry
use Rattle.df_types.specs.Demands.{Demand, demand}
use Rattle.df_types.specs.Scopes.{Names, Binding, bound}
use Rattle.df_types.specs.Sources.{demands, fresh_demands, numbered, later, all_names, parameters, constants, declared, known_names, arrays, last_parameters, constant_demands, all_range_demands, first_place, results_demands, function_demands, functions_demands, is_empty}
use Rattle.df_types.specs.Types.{Look, look_of, fresh, asked_each, body_demands, count_of}
use Rattle.df_types.proofs.NewForms.{expression_new}
use Rattle.df_types.proofs.NewParts.{Covers, covers_bind, new_by, AgreeAll, counted_new, body_new}

-- ---- functions

parameters_new : (ps : List Parameter) (taken : Taken) (names : Names) → Covers taken names → first_refusal (fresh_demands (parameters ps) names) ≡ None
    → (parameters_fresh ps taken ≡ true) × Covers (with_parameters ps taken) (bound (parameters ps) names)
parameters_new [] taken names covers h = (refl, covers)
parameters_new (p ∷ ps) taken names covers h =
    let inner = bind names p.name.name (entry.Local p.sort) in
    let rest = parameters_new ps (also taken p.name.name) inner (covers_bind taken names p.name.name (entry.Local p.sort) covers)
    (tail_holds (fresh p.name names) (fresh_demands (parameters ps) inner) h) in (
      and_from (is_new taken p.name) _ (new_by taken names p.name covers
          (head_holds (fresh p.name names) (fresh_demands (parameters ps) inner) h)) rest.0,
      rest.1,
    )

module _ (functions : List Function) where
  agree_all : (es : List Expr) → AgreeAll (map (look_of functions) es) (map is_fresh es)
  agree_all [] = tt
  agree_all (e ∷ es) = (expression_new functions e, agree_all es)

  results_new : (is_last : Bool) (f : Function) (taken : Taken) (names : Names) → Covers taken names → is_some_list f.results ≡ true
      → first_refusal (results_demands functions is_last f names) ≡ None
      → all_fresh (map is_fresh f.values) taken ≡ true
  results_new is_last f taken names covers some h =
      by is_last (tail_holds many (if is_last then body_demands looks f.results names else asked_each looks f.results names) h)
    where
      looks : List Look
      looks = map (look_of functions) f.values

      many : Demand
      many = demand (count_of looks == length f.results) (WrongArity (first_place f.values f.name.place))

      same : count_of looks ≡ length f.results
      same =
          eqb-true (count_of looks) (length f.results)
          (head_holds many (if is_last then body_demands looks f.results names else asked_each looks f.results names) h)

      by : (b : Bool) → first_refusal (if b then body_demands looks f.results names else asked_each looks f.results names) ≡ None
          → all_fresh (map is_fresh f.values) taken ≡ true
      by true k = body_new taken names covers looks (map is_fresh f.values) f.results (agree_all f.values) some same k
      by false k = counted_new taken names covers looks (map is_fresh f.values) f.results (agree_all f.values) some same k

  function_new : (is_last : Bool) (f : Function) (taken : Taken) (names : Names) → Covers taken names → is_some_list f.results ≡ true
      → first_refusal (function_demands functions is_last f names) ≡ None
      → function_fresh taken f ≡ true
  function_new is_last f taken names covers some h =
      let own = fresh_demands (parameters f.parameters) names in
      let inner = bound (parameters f.parameters) names in
      let first = parameters_new f.parameters taken names covers (begin_holds own (results_demands functions is_last f inner) h) in
      and_from (parameters_fresh f.parameters taken) _ first.0
      (sym (list_all-map (λ (g : Fresh). g (with_parameters f.parameters taken)) is_fresh f.values)
      ∙ results_new is_last f (with_parameters f.parameters taken) inner first.1 some (rest_holds own (results_demands functions is_last f inner) h))

  functions_new : (fs : List Function) (taken : Taken) (names : Names) → Covers taken names → list_all (λ (f : Function). is_some_list f.results) fs ≡ true
      → first_refusal (functions_demands functions fs names) ≡ None
      → list_all (function_fresh taken) fs ≡ true
  functions_new [] taken names covers some h = refl
  functions_new (f ∷ fs) taken names covers some h =
      let one = function_demands functions (is_empty fs) f names in
      and_from (function_fresh taken f) _
      (function_new (is_empty fs) f taken names covers (and_left (is_some_list f.results) _ some) (begin_holds one (functions_demands functions fs names) h))
      (functions_new fs taken names covers (and_right (is_some_list f.results) _ some) (rest_holds one (functions_demands functions fs names) h))

-- ---- the names of constants and functions

abbrev is_among : List Binding → Taken
is_among bs n = list_any (λ (b : Binding). bytes_eq b.0.name n) bs

covers_bound : (bs : List Binding) (taken : Taken) (names : Names) → Covers taken names → Covers (λ n. is_among bs n || taken n) (bound bs names)
unfolding also
covers_bound [] taken names covers n h = covers n h
covers_bound (b ∷ bs) taken names covers n h =
    covers_bound bs (also taken b.0.name) (bind names b.0.name b.1) (covers_bind taken names b.0.name b.1 covers) n
    (turned (bytes_eq b.0.name n) (is_among bs n) (taken n) h)
  where
    turned : (a m t : Bool) → ((a || m) || t) ≡ true → (m || (a || t)) ≡ true
    turned true true t h = refl
    turned true false t h = refl
    turned false m t h = h

is_among_constants : (cs : List Constant) (n : List ℕ) → is_among (later cs) n ≡ list_any (λ (c : Constant). bytes_eq c.name.name n) cs
is_among_constants [] n = refl
is_among_constants (c ∷ cs) n = ap (λ b. bytes_eq c.name.name n || b) (is_among_constants cs n)

is_among_functions : (i : ℕ) (fs : List Function) (n : List ℕ) → is_among (numbered i fs) n ≡ list_any (λ (f : Function). bytes_eq f.name.name n) fs
is_among_functions i [] n = refl
is_among_functions i (f ∷ fs) n = ap (λ b. bytes_eq f.name.name n || b) (is_among_functions (suc i) fs n)

is_among_append : (as_ bs : List Binding) (n : List ℕ) → is_among (as_ ++ bs) n ≡ (is_among as_ n || is_among bs n)
is_among_append [] bs n = refl
is_among_append (a ∷ as_) bs n = ap (λ b. bytes_eq a.0.name n || b) (is_among_append as_ bs n) ∙ sym (or_assoc (bytes_eq a.0.name n) (is_among as_ n) (is_among bs n))

declared_is : (p : Program) (n : List ℕ) → is_among (all_names p) n ≡ declared_names p n
declared_is p n =
    is_among_append (later p.constants) (numbered 0 p.functions) n
    ∙ (ap (λ b. b || is_among (numbered 0 p.functions) n) (is_among_constants p.constants n) ∙ ap
    (λ b. list_any (λ (c : Constant). bytes_eq c.name.name n) p.constants || b) (is_among_functions 0 p.functions n))

covers_known : (p : Program) → Covers (declared_names p) (known_names p)
covers_known p n h =
    let all : Covers (λ m. is_among (all_names p) m || false) (declared p) = covers_bound (all_names p) (λ _. false) nothing (λ m k. cc) in
    covers_bound (constants p.constants) _ (declared p) all n
    (or_right (is_among (constants p.constants) n) _ (or_left (is_among (all_names p) n) false (declared_is p n ∙ h)))

-- ---- whole sources

-- where each function has a result, as in each source that is read
pub names_new : (p : Program) → list_all (λ (f : Function). is_some_list f.results) p.functions ≡ true → first_refusal (demands p) ≡ None
    → IsTrue (names_are_new p)
unfolding demands names_are_new
names_new p some h =
    let a = fresh_demands (all_names p) nothing in
    let b = constant_demands p.constants (declared p) in
    let c = all_range_demands p.ranges (arrays (last_parameters p.functions)) (known_names p) in
    let d = functions_demands p.functions p.functions (known_names p) in
    functions_new p.functions p.functions (declared_names p) (known_names p) (covers_known p) some
    (rest_holds c d (rest_holds b (c ++ d) (rest_holds a (b ++ (c ++ d)) h)))

have_results : (fs : List Function) → list_all function_bounded fs ≡ true → list_all (λ (f : Function). is_some_list f.results) fs ≡ true
have_results [] h = refl
have_results (f ∷ fs) h =
    and_from (is_some_list f.results) _ (and_left (is_some_list f.results) _ (and_left (function_bounded f) _ h))
    (have_results fs (and_right (function_bounded f) _ h))

pub accepted_names_are_new : (p : Program) → IsTrue (program_bounded p) → first_refusal (demands p) ≡ None → IsTrue (names_are_new p)
unfolding program_bounded
accepted_names_are_new p bounded h =
    let a = is_some_list p.functions in
    let b = list_all (λ (c : Constant). is_bounded c.value) p.constants in
    let c = list_all (λ (r : Range). is_bounded r.low && is_bounded r.high) p.ranges in
    names_new p (have_results p.functions (and_right c _ (and_right b _ (and_right a _ bounded)))) h
