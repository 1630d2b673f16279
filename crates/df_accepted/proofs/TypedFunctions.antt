-- The functions of an accepted source keep the demands on functions of programs in blocks.
use Rattle.std.proofs.Common.{arith, ◌≡◌, ◌==◌, true, false, ◌||◌, List, [], ◌∷◌, ◌++◌, map, fold, length, refl, sym, ◌∙◌, ap, subst, Some, None, append_assoc}
use Rattle.std.specs.Prelude.{flat_map}
use Rattle.std.specs.List.{list_all, list_any}
use Rattle.std.proofs.lemmas.Bool.{and_from, and_parts, eqb-true, or_parts, not-true}
use Rattle.std.proofs.lemmas.List.{map-append}
use Rattle.std.proofs.lemmas.List.Folds.{list_all-append}
use Rattle.df_values.specs.declared.values.Basic.{Basic}
use Rattle.df_syntax.specs.declared.tree.Sort.{Sort}
use Rattle.df_syntax.specs.declared.tree.Sort.TheVariants as of
use Rattle.df_syntax.specs.declared.tree.Parameter.{Parameter}
use Rattle.df_syntax.specs.declared.tree.Expr.{Expr}
use Rattle.df_syntax.specs.declared.program.Constant.{Constant}
use Rattle.df_syntax.specs.declared.program.Function.{Function}
use Rattle.df_syntax.specs.declared.form.Form.TheVariants as rule
use Rattle.df_syntax.specs.Demands.{first_refusal}
use Rattle.df_syntax.specs.SourceForms.{Numbers, with_number, is_array}
use Rattle.df_syntax.specs.WellBuilt.{is_bounded, function_bounded, is_some_list}
use Rattle.df_syntax.specs.WellShaped.{Around, Known, type_of, parameter_sorts, only_result, values_fit, function_fits, functions_fit}
use Rattle.df_syntax.proofs.FirstRefusals.{begin_holds, rest_holds, head_holds, tail_holds}
use Rattle.df_names.specs.Maps.{nothing}
use Rattle.df_types.specs.declared.answers.CheckAnswer.TheVariants.{WrongArity, WrongType}
use Rattle.df_types.specs.Demands as types
use Rattle.df_types.specs.Scopes as scopes
use Rattle.df_types.specs.Scopes.{bound}
use Rattle.df_types.specs.Sorts.{is_same}
use Rattle.df_types.specs.Types.{look_of, asked, asked_each, count_of}
use Rattle.df_types.specs.Sources as typed_sources
use Rattle.df_types.specs.Sources.{fresh_demands, numbered, later, parameters, first_place, results_demands, is_empty}
use Rattle.df_shape.specs.declared.part.Part.TheVariants.{Inside}
use Rattle.df_shape.specs.declared.answers.ShapeAnswer.TheVariants.{NotPiped}
use Rattle.df_shape.specs.Demands.{demand, demands_of}
use Rattle.df_shape.specs.Renamed.{Names, renamed, function_renamed}
use Rattle.df_shape.specs.Shaped.{constant_names}
use Rattle.df_shape.specs.Sources as source
use Rattle.df_shape.specs.Sources.{constants_demands, is_scalar_function, are_several, callable_among, around_function}
use Rattle.df_accepted.proofs.Agreed.{Agrees}
use Rattle.df_accepted.proofs.Forms.{around}
use Rattle.df_accepted.proofs.FormDemands.{one_holds}
use Rattle.df_accepted.proofs.ManifestParts.{NumbersStand}
use Rattle.df_accepted.proofs.SourceNames.{all_known}
use Rattle.df_accepted.proofs.SourceScope.{agrees_known, agrees_parameters, constants_stand}
use Rattle.df_accepted.proofs.Told.{told}
use Rattle.df_accepted.proofs.TypedForms.{alike_both, asked_is, no_array}
use Rattle.df_accepted.proofs.TypedParts.{part_typed}

-- what an expression tells in blocks is its type there
pub type_is : (names : Names) (e : Expr) (around : Around) → type_of (renamed names e) around ≡ (told names e).type_in around
unfolding type_of told
type_is names e around = refl

-- the only result of a function that gives a scalar
one_result : (results : List Sort) → is_some_list results ≡ true → list_any is_array results ≡ false → are_several results ≡ false → (b : Basic) × (results ≡ of.Basic b ∷ [])
one_result [] some none one = absurd (cc)
one_result (s ∷ []) some none one = let found = no_array s (left s none) in (found.0, ap (λ (t : Sort). t ∷ []) found.1)
  where
    left : (t : Sort) → (is_array t || false) ≡ false → is_array t ≡ false
    left (of.Basic b) h = refl
    left (of.Array b) h = absurd (cc)
one_result (s ∷ t ∷ results) some none one = absurd (cc)

module _ (all before functions : List Function) (numbers : Numbers) (names : Names) (stand : NumbersStand numbers names) (scope : scopes.Names)
    (agrees : Agrees all functions (callable_among before) names scope []) where
  -- a function before the last
  function_typed : (f : Function) → function_bounded f ≡ true → first_refusal (typed_sources.function_demands all false f scope) ≡ None
      → first_refusal (source.function_demands numbers all before f) ≡ None → function_fits functions (function_renamed names f) ≡ true
  function_typed f bounded h d =
      let own = fresh_demands (parameters f.parameters) scope in
      let inner = bound (parameters f.parameters) scope in
      let agrees_inner = agrees_parameters all functions (callable_among before) names f.parameters scope [] (begin_holds own (results_demands all false f inner) h) agrees in
      let scalar = or_parts (list_any (λ (p : Parameter). is_array p.sort) f.parameters) _
      (not-true _ (one_holds _ _ (begin_holds (demand (is_scalar_function f) (NotPiped rule.ArrayParameter f.name.place)) (flat_map (λ e. demands_of e (around_function numbers all before)) f.values) d))) in
      let result = or_parts (list_any is_array f.results) (are_several f.results) scalar.1 in
      let bounds = and_parts (is_some_list f.results) _ bounded in
      let one = one_result f.results bounds.0 result.0 result.1 in
      by f.values one.0 agrees_inner (and_parts (is_some_list f.values) _ bounds.1).1
      (subst (λ (rs : List Sort). first_refusal (types.demand (count_of (map (look_of all) f.values) == length rs) (WrongArity (first_place f.values f.name.place))
      ∷ asked_each (map (look_of all) f.values) rs inner) ≡ None) one.1 (rest_holds own (results_demands all false f inner) h))
      (rest_holds (demand (is_scalar_function f) (NotPiped rule.ArrayParameter f.name.place)) (flat_map (λ e. demands_of e (around_function numbers all before)) f.values) d)
      (ap only_result one.1)
    where
      by : (values : List Expr) (b : Basic) → Agrees all functions (callable_among before) names (bound (parameters f.parameters) scope) (parameter_sorts f.parameters)
          → list_all is_bounded values ≡ true
          → first_refusal (types.demand (count_of (map (look_of all) values) == 1) (WrongArity (first_place values f.name.place))
          ∷ asked_each (map (look_of all) values) (of.Basic b ∷ []) (bound (parameters f.parameters) scope)) ≡ None
          → first_refusal (flat_map (λ e. demands_of e (around_function numbers all before)) values) ≡ None
          → only_result f.results ≡ Some b
          → values_fit (map (renamed names) values) (around (parameter_sorts f.parameters) functions Known) (only_result f.results) ≡ true
      by [] b agrees_here bounded_here asked_here demanded is = let bad : 0 ≡ 1 = eqb-true 0 1 (head_holds (types.demand (0 == 1) (WrongArity f.name.place)) [] asked_here) in absurd (omega (arith, bad))
      by (v ∷ w ∷ vs) b agrees_here bounded_here asked_here demanded is =
          let many = length (map (look_of all) (v ∷ w ∷ vs)) in
          let bad : many ≡ 1 = eqb-true many 1 (head_holds (types.demand (many == 1) (WrongArity v.place)) (asked_each (map (look_of all) (v ∷ w ∷ vs)) (of.Basic b ∷ []) (bound (parameters f.parameters) scope)) asked_here) in
          absurd (omega (arith, bad))
      by (v ∷ []) b agrees_here bounded_here asked_here demanded is =
          let inner = bound (parameters f.parameters) scope in
          let asked_v = begin_holds (asked (look_of all v) (of.Basic b) inner) [] (tail_holds (types.demand ((look_of all v).count == 1) (WrongArity v.place)) (asked (look_of all v) (of.Basic b) inner ++ []) asked_here) in
          let type_here = part_typed all functions numbers names stand (λ name. false) (callable_among before) (source.gives_an_array all) v inner (parameter_sorts f.parameters) Inside agrees_here tt tt
          (and_parts (is_bounded v) true bounded_here).0 (begin_holds ((look_of all v).demands inner) (types.demand (is_same ((look_of all v).sort inner) (of.Basic b)) (WrongType (look_of all v).place) ∷ []) asked_v) (begin_holds (demands_of v (around_function numbers all before)) [] demanded) (λ may. absurd (cc))
          b (asked_is all (λ e. None) inner (look_of all v) b asked_v) in
          alike_both b _ _ (type_is names v (around (parameter_sorts f.parameters) functions Known) ∙ type_here) is

-- ---- all functions before the last

pub never_empty : (init : List Function) (main : Function) → is_empty (init ++ main ∷ []) ≡ false
never_empty [] main = refl
never_empty (f ∷ init) main = refl

module _ (cs : List Constant) (all : List Function) (held : first_refusal (fresh_demands (later cs ++ numbered 0 all) nothing) ≡ None)
    (manifest : first_refusal (constants_demands (λ name. None) cs) ≡ None) where
  abbrev numbers_here : Numbers
  numbers_here = fold with_number (λ name. None) cs

  abbrev in_blocks : List Function → List Function
  in_blocks = map (function_renamed (constant_names (fold with_number (λ name. None) cs)))

  -- a function before others, and those
  pub form_parts : (before tail : List Function) (f : Function) → is_empty tail ≡ false → first_refusal (source.functions_demands numbers_here all before (f ∷ tail)) ≡ None
      → (first_refusal (source.function_demands numbers_here all before f) ≡ None) × (first_refusal (source.functions_demands numbers_here all (before ++ f ∷ []) tail) ≡ None)
  form_parts before [] f some d = absurd (cc)
  form_parts before (g ∷ tail) f some d =
      let own = source.function_demands numbers_here all before f in
      let others = source.functions_demands numbers_here all (before ++ f ∷ []) (g ∷ tail) in
      (begin_holds own others d, rest_holds own others d)

  -- each function with those before it
  pub functions_typed : (init before : List Function) (main : Function) → all ≡ before ++ (init ++ main ∷ []) → list_all is_scalar_function before ≡ true → list_all function_bounded init ≡ true
      → first_refusal (typed_sources.functions_demands all (init ++ main ∷ []) (all_known cs all)) ≡ None
      → first_refusal (source.functions_demands numbers_here all before (init ++ main ∷ [])) ≡ None
      → functions_fit (in_blocks before) (in_blocks init) ≡ true
  functions_typed [] before main same scalar bounded h d = refl
  functions_typed (f ∷ init) before main same scalar bounded h d =
      let tail = init ++ main ∷ [] in
      let known = all_known cs all in
      let bounds = and_parts (function_bounded f) (list_all function_bounded init) bounded in
      let h' = subst (λ b. first_refusal (typed_sources.function_demands all b f known ++ typed_sources.functions_demands all tail known) ≡ None) (never_empty init main) h in
      let d' = form_parts before tail f (never_empty init main) d in
      let own = typed_sources.function_demands all false f known in
      let agrees = agrees_known cs all held manifest before (f ∷ tail) same scalar in
      let here = function_typed all before (in_blocks before) numbers_here (constant_names numbers_here) (constants_stand numbers_here) known agrees f bounds.0
      (begin_holds own (typed_sources.functions_demands all tail known) h') d'.0 in
      let scalar_f = one_holds (is_scalar_function f) (NotPiped rule.ArrayParameter f.name.place)
      (begin_holds (demand (is_scalar_function f) (NotPiped rule.ArrayParameter f.name.place)) (flat_map (λ e. demands_of e (around_function numbers_here all before)) f.values) d'.0) in
      and_from _ _ here
      (subst (λ (fs : List Function). functions_fit fs (in_blocks init) ≡ true) (map-append (function_renamed (constant_names numbers_here)) before (f ∷ []))
      (functions_typed init (before ++ f ∷ []) main (same ∙ sym (append_assoc before (f ∷ []) tail))
      (list_all-append is_scalar_function before (f ∷ []) ∙ and_from _ _ scalar (and_from _ _ scalar_f refl)) bounds.1
      (rest_holds own (typed_sources.functions_demands all tail known) h') d'.1))
