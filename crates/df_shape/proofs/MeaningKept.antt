-- A source means what it means in blocks.
use Rattle.std.proofs.Common.{◌≡◌, ℕ, zero, suc, ◌+◌, ℤ, Bool, true, false, ◌&&◌, ◌||◌, List, [], ◌∷◌, ◌++◌, append_assoc, append-nil, length, map, reverse, refl, sym, ◌∙◌, ap, subst, Option, Some, None, IsTrue, bytes_eq, arith, add-zero, zero-add, ◌⊎◌, inl, inr}
use Rattle.std.proofs.lemmas.List.{reverse-reverse}
use Rattle.std.proofs.lemmas.Grind.{reverse_onto}
use Rattle.std.proofs.lemmas.List.Folds.{list_all-append}
use Rattle.std.specs.List.{list_all, list_any}
use Rattle.std.specs.Prelude.{flat_map, not, slice_index_or}
use Rattle.df_values.specs.declared.values.Value.{Value}
use Rattle.df_values.specs.Inputs.{AreValid, input_length, declared}
use Rattle.df_syntax.specs.declared.bound.Bound.{Bound}
use Rattle.df_syntax.specs.declared.bound.Bound.TheVariants.{Scalar}
use Rattle.df_syntax.specs.declared.tree.Expr.{Expr}
use Rattle.df_syntax.specs.declared.tree.Sort.{Sort}
use Rattle.df_syntax.specs.declared.tree.Sort.TheVariants as of
use Rattle.df_syntax.specs.declared.tree.Parameter.{Parameter}
use Rattle.df_syntax.specs.declared.program.Constant.{Constant}
use Rattle.df_syntax.specs.declared.program.Range.{Range}
use Rattle.df_syntax.specs.declared.program.Function.{Function}
use Rattle.df_syntax.specs.declared.program.Program.{Program}
use Rattle.df_values.specs.declared.inputs.Input.{Input}
use Rattle.df_syntax.specs.declared.piped.Outcome.TheVariants as outcome
use Rattle.df_syntax.specs.Demands.{first_refusal}
use Rattle.df_syntax.proofs.FirstRefusals.{begin_holds, rest_holds}
use Rattle.df_syntax.specs.FreshNames.{Taken, also, is_fresh, parameters_fresh, function_fresh, declared_names, names_are_new}
use Rattle.df_syntax.specs.FreshNames as fresh_names
use Rattle.df_syntax.specs.Meaning.{Name, calls, bound_at}
use Rattle.df_syntax.specs.BlockMeaning.{given, inputs_bound, blocks_made, result_of, values_of, cut, mean}
use Rattle.df_syntax.specs.SourceForms.{Constants, Numbers, constants_of, numbers_of}
use Rattle.df_syntax.specs.SourceMeaning.{bound_value, extent_of, input_of, inputs_of, source_calls, body_bounds, main_inputs, main_mean, source_inputs, source_mean}
use Rattle.df_names.specs.Maps.{bind}
use Rattle.df_shape.specs.Renamed.{Names, function_renamed}
use Rattle.df_shape.specs.Shaped.{constant_standing, constant_names, standing_by, with_parameters, main_blocks, program_blocks, shaped}
use Rattle.df_shape.specs.Demands.{Around}
use Rattle.df_shape.specs.Sources.{constants_demands, one_range_demands, main_demands, function_demands, functions_demands, demands}
use Rattle.std.proofs.lemmas.Bool.{not-true}
use Rattle.df_syntax.proofs.Tests.{and_left, and_right}
use Rattle.df_shape.proofs.Agreement.{Bounds, itself_after}
use Rattle.df_shape.proofs.Kept.{Calls, with_calls}
use Rattle.df_shape.proofs.CallsKept.{Exact, number_bound, constants_exact, numbers_among, constants_agree, calls_kept, standing_constant, never_array}
use Rattle.df_shape.proofs.InputsKept.{known, inputs_kept}
use Rattle.df_shape.proofs.MainNames.{AreKnown, Known, known_after}
use Rattle.df_shape.proofs.DefinedKept.{After, own_target, is_itself}
use Rattle.df_shape.proofs.Spine.{firsts}
use Rattle.df_shape.proofs.SpineKept.{Outcomes, values_kept, expression_kept}
use Rattle.df_shape.proofs.SpineKept as spine

-- ---- valid inputs

-- one list for each input, of its length
Fit : List Input → List (List Value) → Type 0
Fit [] [] = Unit {0}
Fit (i ∷ is) (v ∷ vs) = (length v ≡ input_length i.extent) × Fit is vs
Fit is vs = ⊥

fits : (is : List Input) (vs : List (List Value)) → AreValid (declared is) vs → Fit is vs
unfolding Fit
fits [] [] valid = tt
fits [] (v ∷ vs) valid = absurd (apart valid.count)
  where
    apart : length (v ∷ vs) ≡ zero → ⊥
    apart q = cc
fits (i ∷ is) [] valid = absurd (apart valid.count)
  where
    apart : zero ≡ length (declared (i ∷ is)) → ⊥
    apart q = cc
fits (i ∷ is) (v ∷ vs) valid = (
  (valid.each 0 (record { basic = i.basic; length = input_length i.extent }) refl).count,
  fits is vs (record { count = less (length vs) (length (declared is)) valid.count; each = λ k d at. valid.each (suc k) d at }),
)
  where
    less : (a b : ℕ) → suc a ≡ suc b → a ≡ b
    less a b q = cc

-- ---- parameters

cut_all : (vs : List Value) → cut (map (λ v. Some v) vs) ≡ vs
cut_all [] = refl
cut_all (v ∷ vs) = ap (λ l. v ∷ l) (cut_all vs)

-- a list of one
one_value : (v : List Value) → length v ≡ 1 → cut (slice_index_or (map (λ w. Some w) v) 0 None ∷ []) ≡ v
one_value [] h = cc
one_value (w ∷ []) h = refl
one_value (w ∷ u ∷ v) h = cc

module _ (numbers : Numbers) (of_source of_blocks : Calls) (same_calls : (name : Name) (vs : List (Option Value)) → of_blocks name vs ≡ of_source name vs)
    (inputs : List (List Value)) (start : Bounds) (value : Expr → ℤ) (ranges : List Range) where
  abbrev Are : Names → Taken → Bounds → Bounds → Type 0
  Are names taken source blocks = AreKnown numbers of_blocks inputs start names taken source blocks []

  abbrev given_to : Parameter → List Value → Bound
  given_to p v = given (input_of value ranges p).extent v

  abbrev input_at : Parameter → Sort → Input
  input_at p s =
      elim s as (λ s. Input)
      [ of.Basic b ↦ record { name = p.name.name; basic = b; extent = None } | of.Array b ↦ record { name = p.name.name; basic = b; extent = Some (extent_of value ranges p.name.name) } ]

  parameter_known : (source blocks : Bounds) (p : Parameter) (k : ℕ) (v : List Value) → slice_index_or inputs k [] ≡ v → length v ≡ input_length (input_of value ranges p).extent
      → (name : Name) → bytes_eq p.name.name name ≡ true
      → Known numbers of_blocks inputs start (source ++ (p.name.name, given_to p v) ∷ []) (blocks ++ (p.name.name, given_to p v) ∷ []) [] name (Some (standing_by p.sort (outcome.Parameter k) p.name.name))
  parameter_known source blocks p k v at long name is =
      elim p.sort as (λ s. length v ≡ input_length (input_at p s).extent
      → Known numbers of_blocks inputs start (source ++ (p.name.name, given (input_at p s).extent v) ∷ []) (blocks ++ (p.name.name, given (input_at p s).extent v) ∷ []) [] name (Some (standing_by s (outcome.Parameter k) p.name.name))) [
        | of.Basic b ↦ (λ h. record {
          value = slice_index_or (map (λ w. Some w) v) 0 None;
          in_source = itself_after source p.name.name (Scalar (slice_index_or (map (λ w. Some w) v) 0 None)) name is;
          in_blocks = itself_after blocks p.name.name (Scalar (slice_index_or (map (λ w. Some w) v) 0 None)) name is;
          results = λ later. at ∙ sym (one_value v h);
        })
        | of.Array b ↦ (λ h. record {
          array = given (input_at p (of.Array b)).extent v;
          in_source = itself_after source p.name.name (given (input_at p (of.Array b)).extent v) name is;
          in_blocks = itself_after blocks p.name.name (given (input_at p (of.Array b)).extent v) p.name.name (is_itself p.name.name);
          results = λ later. at ∙ sym (cut_all v);
        })
      ] long

  input_name : (p : Parameter) → (input_of value ranges p).name ≡ p.name.name
  input_name p = elim p.sort as (λ s. (input_at p s).name ≡ p.name.name) [ of.Basic b ↦ refl | of.Array b ↦ refl ]

  first_bound : (p : Parameter) (ps : List Parameter) (v : List Value) (vs : List (List Value))
      → (p.name.name, given_to p v) ∷ inputs_bound (inputs_of value ranges ps) vs ≡ inputs_bound (inputs_of value ranges (p ∷ ps)) (v ∷ vs)
  first_bound p ps v vs = ap (λ (n : Name). (n, given_to p v) ∷ inputs_bound (inputs_of value ranges ps) vs) (sym (input_name p))

  -- each parameter stands for the input of its place
  parameters_known : (ps : List Parameter) (vs : List (List Value)) (k : ℕ) (names : Names) (taken : Taken) (source blocks : Bounds) → Are names taken source blocks → parameters_fresh ps taken ≡ true
      → Fit (inputs_of value ranges ps) vs → ((j : ℕ) → slice_index_or inputs (k + j) [] ≡ slice_index_or vs j [])
      → Are (with_parameters k ps names) (fresh_names.with_parameters ps taken) (source ++ inputs_bound (inputs_of value ranges ps) vs) (blocks ++ inputs_bound (inputs_of value ranges ps) vs)
  unfolding Fit
  parameters_known [] vs k names taken source blocks are fresh fit at =
      subst (λ s. Are names taken s (blocks ++ inputs_bound [] vs)) (sym (append-nil source)) (subst (λ b. Are names taken source b) (sym (append-nil blocks)) are)
  parameters_known (p ∷ ps) [] k names taken source blocks are fresh fit at = absurd fit
  parameters_known (p ∷ ps) (v ∷ vs) k names taken source blocks are fresh fit at =
      let x = p.name.name in
      let b = given_to p v in
      let new : taken x ≡ false = not-true (taken x) (and_left _ _ fresh) in
      let next = known_after numbers of_blocks inputs start names taken source blocks [] are x (standing_by p.sort (outcome.Parameter k) x) new b []
      (own_target numbers of_source of_blocks same_calls inputs start taken x p.sort (outcome.Parameter k))
      (parameter_known source blocks p k v (ap (λ n. slice_index_or inputs n []) (sym (add-zero k)) ∙ at 0) fit.0) in
      let rest = parameters_known ps vs (k + 1) (bind names x (standing_by p.sort (outcome.Parameter k) x)) (also taken x) (source ++ (x, b) ∷ []) (blocks ++ (x, b) ∷ []) next
      (and_right (not (taken x)) _ fresh) fit.1 (λ j. let same : k + 1 + j ≡ k + suc j = omega arith in ap (λ n. slice_index_or inputs n []) same ∙ at (suc j)) in
      let others = inputs_bound (inputs_of value ranges ps) vs in
      subst (λ l. Are (with_parameters k (p ∷ ps) names) (fresh_names.with_parameters (p ∷ ps) taken) (source ++ l) (blocks ++ l)) (first_bound p ps v vs)
      (subst (λ s. Are (with_parameters k (p ∷ ps) names) (fresh_names.with_parameters (p ∷ ps) taken) s (blocks ++ (x, b) ∷ others)) (append_assoc source ((x, b) ∷ []) others)
      (subst (λ c. Are (with_parameters k (p ∷ ps) names) (fresh_names.with_parameters (p ∷ ps) taken) ((source ++ (x, b) ∷ []) ++ others) c) (append_assoc blocks ((x, b) ∷ []) others) rest))

-- ---- the main function

-- the last function comes first where the others are turned round
turned : (fs : List Function) (main : Function) (others : List Function) → reverse fs ≡ main ∷ others → fs ≡ reverse others ++ main ∷ []
turned fs main others is = sym (reverse-reverse fs) ∙ (ap reverse is ∙ reverse_onto others main [])

last_held : (numbers : Numbers) (functions : List Function) (before fs : List Function) (main : Function) → first_refusal (functions_demands numbers functions before (fs ++ main ∷ [])) ≡ None
    → (around : Around) × (around.numbers ≡ numbers) × (first_refusal (main_demands main.values around) ≡ None)
last_held numbers functions before [] main holds = (_, refl, holds)
last_held numbers functions before (f ∷ []) main holds =
    last_held numbers functions (before ++ f ∷ []) [] main (rest_holds (function_demands numbers functions before f) (functions_demands numbers functions (before ++ f ∷ []) (main ∷ [])) holds)
last_held numbers functions before (f ∷ g ∷ fs) main holds =
    last_held numbers functions (before ++ f ∷ []) (g ∷ fs) main (rest_holds (function_demands numbers functions before f) (functions_demands numbers functions (before ++ f ∷ []) ((g ∷ fs) ++ main ∷ [])) holds)

all_turned : (test : Function → Bool) (fs : List Function) → list_all test fs ≡ true → list_all test (reverse fs) ≡ true
all_turned test [] h = refl
all_turned test (f ∷ fs) h =
    ap (list_all test) (reverse_onto fs f [])
    ∙ (list_all-append test (reverse fs) (f ∷ [])
    ∙ (ap (λ b. b && (test f && true)) (all_turned test fs (and_right (test f) _ h)) ∙ ap (λ b. b && true) (and_left (test f) _ h)))

map_turned : (f : Function → Function) (fs : List Function) → reverse (map f (reverse fs)) ≡ map f fs
map_turned f fs = ap reverse (map_reverse fs) ∙ reverse-reverse (map f fs)
  where
    map_append : (l m : List Function) → map f (l ++ m) ≡ map f l ++ map f m
    map_append [] m = refl
    map_append (x ∷ l) m = ap (λ k. f x ∷ k) (map_append l m)

    map_reverse : (l : List Function) → map f (reverse l) ≡ reverse (map f l)
    map_reverse [] = refl
    map_reverse (x ∷ l) =
        ap (map f) (reverse_onto l x []) ∙ (map_append (reverse l) (x ∷ []) ∙ (ap (λ k. k ++ f x ∷ []) (map_reverse l) ∙ sym (reverse_onto (map f l) (f x) [])))

fresh_parts : (es : List Expr) (taken : Taken) → list_all (λ (e : Expr). is_fresh e taken) es ≡ true → fresh_names.all_fresh (map is_fresh es) taken ≡ true
fresh_parts [] taken h = refl
fresh_parts (e ∷ es) taken h = ap (λ b. b && fresh_names.all_fresh (map is_fresh es) taken) (and_left (is_fresh e taken) _ h) ∙ fresh_parts es taken (and_right (is_fresh e taken) _ h)

module _ (numbers : Numbers) (constants : Constants) (taken : Taken) (exact : Exact numbers constants) (known_taken : (name : Name) (k : ℤ) → numbers name ≡ Some k → taken name ≡ true)
    (ranges : List Range) (ranges_hold : first_refusal (flat_map (one_range_demands numbers) ranges) ≡ None) (main : Function) (others : List Function)
    (main_fresh : function_fresh taken main ≡ true) (others_fresh : list_all (function_fresh taken) others ≡ true)
    (around : Around) (same : around.numbers ≡ numbers) (main_holds : first_refusal (main_demands main.values around) ≡ None)
    (inputs : List (List Value)) (fit : Fit (inputs_of (known numbers constants exact) ranges main.parameters) inputs) where
  abbrev of_source : Calls
  of_source = source_calls constants others

  abbrev of_blocks : Calls
  of_blocks = calls (map (function_renamed (constant_names numbers)) others)

  same_calls : (name : Name) (vs : List (Option Value)) → of_blocks name vs ≡ of_source name vs
  same_calls = calls_kept numbers constants taken (constants_agree numbers constants taken exact known_taken) others others_fresh

  abbrev start : Bounds
  start = inputs_bound (inputs_of (known numbers constants exact) ranges main.parameters) inputs

  abbrev main_names : Names
  main_names = with_parameters 0 main.parameters (constant_names numbers)

  abbrev main_taken : Taken
  main_taken = fresh_names.with_parameters main.parameters taken

  constant_known : (name : Name) (o : Option ℤ) → bound_at constants name ≡ number_bound o → Known numbers of_blocks inputs start constants [] [] name (constant_standing o)
  constant_known name None is = (is, refl)
  constant_known name (Some k) is = (is, refl)

  constants_known : AreKnown numbers of_blocks inputs start (constant_names numbers) taken constants [] []
  constants_known = record {
    standing_taken = λ name s is. let k = standing_constant (numbers name) s is in known_taken name k.0 k.1;
    array_taken = λ name o other is. absurd (never_array (numbers name) o other is);
    constants_are = λ name k is. ap constant_standing is;
    known = λ name. constant_known name (numbers name) (exact name);
  }

  begun : After numbers of_source of_blocks same_calls inputs start main_names main_taken (constants ++ start) []
  begun = record {
    blocks = start;
    made = [];
    are =
        parameters_known numbers of_source of_blocks same_calls inputs start (known numbers constants exact) ranges main.parameters inputs 0 (constant_names numbers) taken constants [] constants_known
        (and_left (parameters_fresh main.parameters taken) _ main_fresh) fit (λ j. ap (λ n. slice_index_or inputs n []) (zero-add j));
    have = record { long = refl; split = λ more. refl };
  }

  abbrev kept_values : List ((e : Expr) × spine.Kept numbers of_source of_blocks same_calls inputs start e)
  kept_values = map (λ (e : Expr). (e, expression_kept numbers of_source of_blocks same_calls inputs start e)) main.values

  kept_firsts : map (λ c. c.0) kept_values ≡ main.values
  kept_firsts = firsts (expression_kept numbers of_source of_blocks same_calls inputs start) main.values

  abbrev Gives : List Expr → Type 0
  Gives es =
      Outcomes numbers of_source of_blocks same_calls inputs start (main_blocks numbers es (record { names = main_names; blocks = [] }) main.results).0
      (main_blocks numbers es (record { names = main_names; blocks = [] }) main.results).1 (body_bounds es (with_calls of_source (constants ++ start)) main.results)

  gives : Gives main.values
  gives =
      subst Gives kept_firsts
      (values_kept numbers of_source of_blocks same_calls inputs start kept_values main_names main_taken (constants ++ start) [] around same begun
      (subst (λ (es : List Expr). fresh_names.all_fresh (map is_fresh es) main_taken ≡ true) (sym kept_firsts) (fresh_parts main.values main_taken (and_right (parameters_fresh main.parameters taken) _ main_fresh)))
      (subst (λ (es : List Expr). first_refusal (main_demands es around) ≡ None) (sym kept_firsts) main_holds) main.results)

  main_kept : mean (program_blocks numbers ranges (main ∷ others)) inputs ≡ main_mean constants ranges (main ∷ others) inputs
  unfolding mean
  main_kept =
      ap (λ (fs : List Function). map (result_of inputs (blocks_made (with_calls (calls fs) start) (main_blocks numbers main.values (record { names = main_names; blocks = [] }) main.results).0))
      (main_blocks numbers main.values (record { names = main_names; blocks = [] }) main.results).1) (map_turned (function_renamed (constant_names numbers)) others)
      ∙ (ap (λ bs. map (result_of inputs bs) (main_blocks numbers main.values (record { names = main_names; blocks = [] }) main.results).1) gives.makes
      ∙ (gives.gives
      ∙ ap (λ is. map values_of (body_bounds main.values (with_calls of_source (constants ++ inputs_bound is inputs)) main.results)) (inputs_kept numbers constants exact ranges ranges_hold main.parameters)))

-- ---- sources

module _ (p : Program) (holds : first_refusal (demands p) ≡ None) where
  constants_hold : first_refusal (constants_demands (λ name. None) p.constants) ≡ None
  unfolding demands
  constants_hold = begin_holds (constants_demands (λ name. None) p.constants) (flat_map (one_range_demands (numbers_of p)) p.ranges ++ functions_demands (numbers_of p) p.functions [] p.functions) holds

  others_hold : first_refusal (flat_map (one_range_demands (numbers_of p)) p.ranges ++ functions_demands (numbers_of p) p.functions [] p.functions) ≡ None
  unfolding demands
  others_hold = rest_holds (constants_demands (λ name. None) p.constants) (flat_map (one_range_demands (numbers_of p)) p.ranges ++ functions_demands (numbers_of p) p.functions [] p.functions) holds

  ranges_hold : first_refusal (flat_map (one_range_demands (numbers_of p)) p.ranges) ≡ None
  ranges_hold = begin_holds (flat_map (one_range_demands (numbers_of p)) p.ranges) (functions_demands (numbers_of p) p.functions [] p.functions) others_hold

  functions_hold : first_refusal (functions_demands (numbers_of p) p.functions [] p.functions) ≡ None
  functions_hold = rest_holds (flat_map (one_range_demands (numbers_of p)) p.ranges) (functions_demands (numbers_of p) p.functions [] p.functions) others_hold

  exact : Exact (numbers_of p) (constants_of p)
  exact = constants_exact p.constants (λ name. None) [] (λ name. refl) constants_hold

  known_taken : (name : Name) (k : ℤ) → numbers_of p name ≡ Some k → declared_names p name ≡ true
  known_taken name k is = by (numbers_among p.constants (λ other. None) name k is)
    where
      by : (list_any (λ (c : Constant). bytes_eq c.name.name name) p.constants ≡ true) ⊎ (None ≡ Some k) → declared_names p name ≡ true
      by (inl found) = ap (λ b. b || list_any (λ (f : Function). bytes_eq f.name.name name) p.functions) found
      by (inr apart) = cc

  parameters_are : (fs : List Function) → (program_blocks (numbers_of p) p.ranges fs).parameters ≡ main_inputs (constants_of p) p.ranges fs
  parameters_are [] = refl
  parameters_are (main ∷ others) = inputs_kept (numbers_of p) (constants_of p) exact p.ranges ranges_hold main.parameters

  -- the inputs of the blocks are those of the source
  pub inputs_are : (shaped p).parameters ≡ source_inputs p
  unfolding shaped source_inputs
  inputs_are = parameters_are (reverse p.functions)

  by_functions : (inputs : List (List Value)) → IsTrue (names_are_new p) → AreValid (declared (source_inputs p)) inputs → (fs : List Function) → reverse p.functions ≡ fs
      → mean (program_blocks (numbers_of p) p.ranges fs) inputs ≡ main_mean (constants_of p) p.ranges fs inputs
  unfolding names_are_new source_inputs mean
  by_functions inputs new valid [] is = refl
  by_functions inputs new valid (main ∷ others) is =
      let split = turned p.functions main others is in
      let all : (list_all (function_fresh (declared_names p)) (reverse others) && (function_fresh (declared_names p) main && true)) ≡ true =
      sym (list_all-append (function_fresh (declared_names p)) (reverse others) (main ∷ [])) ∙ (sym (ap (list_all (function_fresh (declared_names p))) split) ∙ new) in
      let last = last_held (numbers_of p) p.functions [] (reverse others) main (subst (λ fs. first_refusal (functions_demands (numbers_of p) p.functions [] fs) ≡ None) split functions_hold) in
      main_kept (numbers_of p) (constants_of p) (declared_names p) exact known_taken p.ranges ranges_hold main others
      (and_left (function_fresh (declared_names p) main) true (and_right (list_all (function_fresh (declared_names p)) (reverse others)) _ all))
      (subst (λ l. list_all (function_fresh (declared_names p)) l ≡ true) (reverse-reverse others)
      (all_turned (function_fresh (declared_names p)) (reverse others) (and_left (list_all (function_fresh (declared_names p)) (reverse others)) _ all)))
      last.0 last.1 last.2 inputs
      (subst (λ is. Fit is inputs) (sym (inputs_kept (numbers_of p) (constants_of p) exact p.ranges ranges_hold main.parameters))
      (fits (inputs_of (bound_value (constants_of p)) p.ranges main.parameters) inputs (subst (λ fs. AreValid (declared (main_inputs (constants_of p) p.ranges fs)) inputs) is valid)))

-- A source whose names are new and whose form is accepted means what it means in blocks.
pub meaning_kept : (p : Program) → IsTrue (names_are_new p) → first_refusal (demands p) ≡ None → (inputs : List (List Value)) → AreValid (declared (source_inputs p)) inputs
    → mean (shaped p) inputs ≡ source_mean p inputs
unfolding shaped source_mean
meaning_kept p new holds inputs valid = by_functions p holds inputs new valid (reverse p.functions) refl
