-- An accepted source gives a program in blocks that keeps the demands on such programs.
use Rattle.std.proofs.Common.{arith, ◌≡◌, ◌==◌, ℤ, true, false, ◌&&◌, All, List, [], ◌∷◌, ◌++◌, map, fold, length, reverse, refl, sym, ◌∙◌, ap, subst, Option, Some, None, bytes_eq, append_assoc, append-nil}
use Rattle.std.specs.Prelude.{flat_map}
use Rattle.std.specs.List.{list_all, IsDistinct}
use Rattle.std.proofs.lemmas.Bool.{and_from, and_parts}
use Rattle.std.proofs.lemmas.List.{reverse-reverse, reverse-append, length-map}
use Rattle.std.proofs.lemmas.List.Folds.{list_all-append, list_all-map}
use Rattle.std.proofs.lemmas.List.Elements.{All-nil}
use Rattle.df_syntax.specs.declared.tree.Sort.TheVariants as of
use Rattle.df_syntax.specs.declared.tree.Expr.{Expr}
use Rattle.df_syntax.specs.declared.program.Constant.{Constant}
use Rattle.df_syntax.specs.declared.program.Range.{Range}
use Rattle.df_syntax.specs.declared.program.Function.{Function}
use Rattle.df_syntax.specs.declared.program.Program.{Program}
use Rattle.df_values.specs.Inputs.{HasExtent}
use Rattle.df_values.specs.declared.inputs.Input.{Input}
use Rattle.df_syntax.specs.declared.form.Form.TheVariants as rule
use Rattle.df_syntax.specs.Demands.{first_refusal}
use Rattle.df_syntax.specs.Refusals.{most_open}
use Rattle.df_syntax.specs.SourceForms.{Numbers, numbers_of, with_number, manifest}
use Rattle.df_syntax.specs.SourceMeaning.{or_zero}
use Rattle.df_syntax.specs.WellBuilt.{IsWellBuilt, is_bounded, is_some_list, function_bounded, program_bounded}
use Rattle.df_syntax.specs.WellShaped.{Around, Known, HaveRanges, IsPiped, IsPlace, parameter_sorts, blocks_fit}
use Rattle.df_syntax.proofs.FirstRefusals.{begin_holds, rest_holds, tail_holds}
use Rattle.df_names.specs.Maps.{nothing}
use Rattle.df_types.specs.declared.answers.CheckAnswer.TheVariants.{WrongArity}
use Rattle.df_types.specs.Demands as types
use Rattle.df_types.specs.Scopes as scopes
use Rattle.df_types.specs.Scopes.{bound}
use Rattle.df_types.specs.Types.{look_of, body_demands, count_of}
use Rattle.df_types.specs.Sources as typed_sources
use Rattle.df_types.specs.Sources.{fresh_demands, numbered, later, parameters, all_names, declared, known_names, constant_demands, all_range_demands, arrays, last_parameters, results_demands, is_empty, first_place}
use Rattle.df_shape.specs.declared.standing.Standing.{Standing}
use Rattle.df_shape.specs.declared.standing.Standing.TheVariants as standing
use Rattle.df_shape.specs.declared.answers.ShapeAnswer.TheVariants.{NotPiped}
use Rattle.df_shape.specs.Demands.{demand, demands_of}
use Rattle.df_shape.specs.Renamed.{Names, function_renamed}
use Rattle.df_shape.specs.Shaped.{Made, constant_standing, constant_names, with_parameters, main_blocks, program_blocks, shaped}
use Rattle.df_shape.specs.Sources as source
use Rattle.df_shape.specs.Sources.{constants_demands, is_scalar_function, callable_among, gives_an_array, array_parameters, around_function, last_demands}
use Rattle.df_accepted.proofs.Agreed.{Sorts}
use Rattle.df_accepted.proofs.BlockStates.{Going, IsPlaced, blocks_give}
use Rattle.df_accepted.proofs.FormDemands.{one_holds}
use Rattle.df_accepted.proofs.Forms.{around}
use Rattle.df_accepted.proofs.PipedParameters.{input_names, input_sorts, names_differ, parameters_begun, parameters_known}
use Rattle.df_accepted.proofs.SourceNames.{Numbered, all_known, known_numbered}
use Rattle.df_accepted.proofs.SourceScope.{agrees_known, constants_stand}
use Rattle.df_accepted.proofs.TypedFunctions.{functions_typed, form_parts, never_empty}
use Rattle.df_accepted.proofs.TypedSpine.{Done, main_done}

module _ (cs : List Constant) (all : List Function) (held : first_refusal (fresh_demands (later cs ++ numbered 0 all) nothing) ≡ None)
    (known_bounds : first_refusal (constants_demands (λ name. None) cs) ≡ None) where
  abbrev numbers : Numbers
  numbers = fold with_number (λ name. None) cs

  abbrev names : Names
  names = constant_names (fold with_number (λ name. None) cs)

  abbrev known : scopes.Names
  known = all_known cs all

  abbrev in_blocks : List Function → List Function
  in_blocks = map (function_renamed (constant_names (fold with_number (λ name. None) cs)))

  -- ---- the last function

  last_form : (init before : List Function) (main : Function) → list_all is_scalar_function before ≡ true
      → first_refusal (source.functions_demands numbers all before (init ++ main ∷ [])) ≡ None
      → (list_all is_scalar_function (before ++ init) ≡ true) × (first_refusal (last_demands numbers all (before ++ init) main) ≡ None)
  last_form [] before main scalar d =
      subst (λ (fs : List Function). (list_all is_scalar_function fs ≡ true) × (first_refusal (last_demands numbers all fs main) ≡ None)) (sym (append-nil before)) (scalar, d)
  last_form (f ∷ init) before main scalar d =
      let parts = form_parts cs all held known_bounds before (init ++ main ∷ []) f (never_empty init main) d in
      let own = demand (is_scalar_function f) (NotPiped rule.ArrayParameter f.name.place) in
      let scalar_f = one_holds (is_scalar_function f) (NotPiped rule.ArrayParameter f.name.place) (begin_holds own (flat_map (λ e. demands_of e (around_function numbers all before)) f.values) parts.0) in
      subst (λ (fs : List Function). (list_all is_scalar_function fs ≡ true) × (first_refusal (last_demands numbers all fs main) ≡ None)) (append_assoc before (f ∷ []) init)
      (last_form init (before ++ f ∷ []) main (list_all-append is_scalar_function before (f ∷ []) ∙ and_from _ _ scalar (and_from _ _ scalar_f refl)) parts.1)

  last_typed : (init : List Function) (main : Function) → first_refusal (typed_sources.functions_demands all (init ++ main ∷ []) known) ≡ None
      → first_refusal (typed_sources.function_demands all true main known) ≡ None
  last_typed [] main h = begin_holds (typed_sources.function_demands all true main known) [] h
  last_typed (f ∷ init) main h = last_typed init main (rest_holds (typed_sources.function_demands all (is_empty (init ++ main ∷ [])) f known) (typed_sources.functions_demands all (init ++ main ∷ []) known) h)

  -- ---- before any block

  module _ (init : List Function) (main : Function) (same : all ≡ init ++ main ∷ []) (scalar : list_all is_scalar_function init ≡ true) where
    abbrev Goes : Around → scopes.Names → Sorts → Made → Type 0
    Goes start = Going all (in_blocks init) numbers (callable_among init) (gives_an_array all) start (length main.parameters)

    numbered_names : Numbered known numbers
    numbered_names = known_numbered cs all known_bounds

    known_begun : Goes (around [] (in_blocks init) Known) known [] (record { names = names; blocks = [] })
    known_begun = record {
      agrees = agrees_known cs all held known_bounds init (main ∷ []) same scalar;
      stand = constants_stand numbers;
      arrays = λ m b at. absurd ((numbered_names m).2 (of.Array b) at);
      places = λ m s at. constant_place (numbers m) s at;
      blocks = refl;
    }
      where
        constant_place : (o : Option ℤ) (s : Standing) → constant_standing o ≡ Some s → IsPlaced (length main.parameters) 0 s
        constant_place None s at = absurd (cc)
        constant_place (Some k) s at = let equal : standing.Constant k ≡ s = cc in subst (λ (x : Standing). IsPlaced (length main.parameters) 0 x) equal tt

    -- the body of the main function
    body_done : function_bounded main ≡ true → first_refusal (typed_sources.function_demands all true main known) ≡ None → first_refusal (last_demands numbers all init main) ≡ None
        → Done all (in_blocks init) numbers (callable_among init) (gives_an_array all) (around (parameter_sorts main.parameters) (in_blocks init) Known) (length main.parameters)
        (record { names = with_parameters 0 main.parameters names; blocks = [] })
        (main_blocks numbers main.values (record { names = with_parameters 0 main.parameters names; blocks = [] }) main.results)
    body_done bounded h d =
        let own = fresh_demands (parameters main.parameters) known in
        let inner = bound (parameters main.parameters) known in
        let bounds = and_parts (is_some_list main.results) _ bounded in
        let values = and_parts (is_some_list main.values) (list_all is_bounded main.values) bounds.1 in
        let begun = parameters_begun all (in_blocks init) numbers (callable_among init) (gives_an_array all) (length main.parameters) 0 main.parameters known [] names (omega arith)
        (begin_holds own (results_demands all true main inner) h) known_begun in
        let looks = map (look_of all) main.values in
        main_done all (in_blocks init) numbers (callable_among init) (gives_an_array all) (around (parameter_sorts main.parameters) (in_blocks init) Known) (length main.parameters)
        main.values inner (parameter_sorts main.parameters) (record { names = with_parameters 0 main.parameters names; blocks = [] }) (array_parameters main.parameters) main.results begun
        (parameters_known main.parameters known (λ name. false) (λ m b at. absurd ((numbered_names m).2 (of.Array b) at)))
        (list_all-map (λ b. b) is_bounded main.values ∙ values.1) bounds.0
        (tail_holds (types.demand (count_of looks == length main.results) (WrongArity (first_place main.values main.name.place))) (body_demands looks main.results inner)
        (rest_holds own (results_demands all true main inner) h))
        d

  -- ---- all of it

  none_distinct : IsDistinct bytes_eq []
  unfolding IsDistinct
  none_distinct = tt

  program_piped : (ranges : List Range) (l : List Function) → l ≡ reverse all → list_all function_bounded all ≡ true
      → first_refusal (typed_sources.functions_demands all all known) ≡ None → first_refusal (source.functions_demands numbers all [] all) ≡ None
      → HaveRanges (program_blocks numbers ranges l).blocks → All (λ (p : Input). HasExtent p.extent) (program_blocks numbers ranges l).parameters → IsPiped (program_blocks numbers ranges l)
  program_piped ranges [] is bounded h d have extents =
      record { differ = none_distinct; extents = extents; ranges = have; called = refl; typed = refl; places = All-nil (IsPlace 0 0) }
  program_piped ranges (main ∷ others) is bounded h d have extents =
      let init = reverse others in
      let value : Expr → ℤ = λ e. or_zero (manifest numbers e) in
      let same : all ≡ init ++ main ∷ [] = sym (reverse-reverse all) ∙ (ap reverse (sym is) ∙ reverse-append (main ∷ []) others) in
      let h' = subst (λ (fs : List Function). first_refusal (typed_sources.functions_demands all fs known) ≡ None) same h in
      let d' = subst (λ (fs : List Function). first_refusal (source.functions_demands numbers all [] fs) ≡ None) same d in
      let all_bounded = and_parts (list_all function_bounded init) (list_all function_bounded (main ∷ []))
      (sym (list_all-append function_bounded init (main ∷ [])) ∙ (ap (list_all function_bounded) (sym same) ∙ bounded)) in
      let last = last_form init [] main refl d' in
      let last_h = last_typed init main h' in
      let done = body_done init main same last.0 (and_parts (function_bounded main) true all_bounded.1).0 last_h last.1 in
      let made = main_blocks numbers main.values (record { names = with_parameters 0 main.parameters names; blocks = [] }) main.results in
      record {
        differ = subst (IsDistinct bytes_eq) (sym (input_names value ranges main.parameters))
            (names_differ main.parameters known (begin_holds (fresh_demands (parameters main.parameters) known) (results_demands all true main (bound (parameters main.parameters) known)) last_h));
        extents = extents;
        ranges = have;
        called = functions_typed cs all held known_bounds init [] main same refl all_bounded.0 h' d';
        typed = subst (λ (sorts : Sorts). blocks_fit (around sorts (in_blocks init) Known) made.0 ≡ true) (sym (input_sorts value ranges main.parameters))
            (blocks_give (around (parameter_sorts main.parameters) (in_blocks init) Known) (around done.sorts (in_blocks init) Known) made.0 done.blocks);
        places = subst (λ n. All (IsPlace n (length made.0)) made.1) (sym (length-map main.parameters _)) done.places;
      }

pub accepted_piped : (tree : Program) → IsWellBuilt most_open tree → first_refusal (typed_sources.demands tree) ≡ None → first_refusal (source.demands tree) ≡ None
    → HaveRanges (shaped tree).blocks → All (λ (p : Input). HasExtent p.extent) (shaped tree).parameters → IsPiped (shaped tree)
unfolding shaped typed_sources.demands source.demands program_bounded
accepted_piped tree built h d have extents =
    let a = fresh_demands (all_names tree) nothing in
    let b = constant_demands tree.constants (declared tree) in
    let c = all_range_demands tree.ranges (arrays (last_parameters tree.functions)) (known_names tree) in
    let e = typed_sources.functions_demands tree.functions tree.functions (known_names tree) in
    let bounds = constants_demands (λ name. None) tree.constants in
    let ranges = flat_map (source.one_range_demands (numbers_of tree)) tree.ranges in
    let functions = source.functions_demands (numbers_of tree) tree.functions [] tree.functions in
    let built_parts = and_parts (list_all (λ (r : Range). is_bounded r.low && is_bounded r.high) tree.ranges) (list_all function_bounded tree.functions)
    (and_parts (list_all (λ (k : Constant). is_bounded k.value) tree.constants) _ (and_parts (is_some_list tree.functions) _ built.bounded).1).1 in
    program_piped tree.constants tree.functions (begin_holds a (b ++ (c ++ e)) h) (begin_holds bounds (ranges ++ functions) d) tree.ranges (reverse tree.functions) refl built_parts.1
    (rest_holds c e (rest_holds b (c ++ e) (rest_holds a (b ++ (c ++ e)) h))) (rest_holds ranges functions (rest_holds bounds (ranges ++ functions) d)) have extents
