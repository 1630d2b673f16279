-- What is known in a function of an accepted source agrees with what is known of it in blocks.
use Rattle.std.proofs.Common.{arith, ◌≡◌, ℕ, ℤ, Bool, true, false, ◌||◌, List, [], ◌∷◌, ◌++◌, map, fold, length, refl, sym, ◌∙◌, ap, subst, Option, Some, None, bytes_eq, slice_get, append_assoc, append-nil}
use Rattle.std.specs.Option.{is_some}
use Rattle.std.specs.List.{list_all, list_any}
use Rattle.df_syntax.specs.declared.tree.Sort.{Sort}
use Rattle.df_syntax.specs.declared.tree.Parameter.{Parameter}
use Rattle.df_syntax.specs.declared.program.Constant.{Constant}
use Rattle.df_syntax.specs.declared.program.Function.{Function}
use Rattle.df_syntax.specs.declared.piped.Outcome.{Outcome}
use Rattle.df_syntax.specs.Demands.{first_refusal}
use Rattle.df_syntax.specs.Meaning.{Name}
use Rattle.df_syntax.specs.SourceForms.{Numbers, with_number}
use Rattle.df_syntax.specs.WellShaped.{parameter_sorts}
use Rattle.df_syntax.proofs.FirstRefusals.{head_holds, tail_holds}
use Rattle.df_names.specs.Maps.{nothing, bind}
use Rattle.df_types.specs.declared.entry.Entry.{Entry}
use Rattle.df_types.specs.declared.entry.Entry.TheVariants as entry
use Rattle.df_types.specs.Scopes as scopes
use Rattle.df_types.specs.Scopes.{Binding, bound}
use Rattle.df_types.specs.Sorts.{is_value, value_sort}
use Rattle.df_types.specs.Types.{fresh}
use Rattle.df_types.specs.Sources.{fresh_demands, numbered, later, constants, parameters}
use Rattle.df_shape.specs.declared.standing.Standing.TheVariants as standing
use Rattle.df_shape.specs.Renamed.{Names, function_renamed}
use Rattle.df_shape.specs.Shaped.{constant_standing, constant_names}
use Rattle.df_shape.specs.Sources.{constants_demands, is_scalar_function, callable_among}
use Rattle.df_accepted.proofs.Agreed.{Agrees, Called, Fits, Sorts, bind_new, bind_old, agrees_inside}
use Rattle.df_accepted.proofs.FormDemands.{is_nothing}
use Rattle.df_accepted.proofs.ManifestParts.{NumbersStand}
use Rattle.df_accepted.proofs.SourceNames.{Numbered, all_known, declared_names, bound_append, fresh_append, fresh_keeps, numbered_append, found_in, found_numbered, found_some, found_holds, found_renamed, known_numbered}
use Rattle.df_accepted.proofs.Subscripted.{some_is}

abbrev is_constant : List Constant → Name → Bool
is_constant cs n = list_any (λ (c : Constant). bytes_eq c.name.name n) cs

later_stays : (cs : List Constant) (names : scopes.Names) (n : Name) → names n ≡ Some entry.Later → bound (later cs) names n ≡ Some entry.Later
later_stays [] names n is = is
later_stays (c ∷ cs) names n is = later_stays cs (bind names c.name.name entry.Later) n (by (bytes_eq c.name.name n) refl)
  where
    by : (b : Bool) → bytes_eq c.name.name n ≡ b → bind names c.name.name entry.Later n ≡ Some entry.Later
    by true at = bind_new names c.name.name entry.Later n at
    by false at = bind_old names c.name.name entry.Later n at ∙ is

later_bound : (cs : List Constant) (names : scopes.Names) (n : Name) → is_constant cs n ≡ true → bound (later cs) names n ≡ Some entry.Later
later_bound [] names n h = absurd (cc)
later_bound (c ∷ cs) names n h = by (later_bound cs (bind names c.name.name entry.Later) n) (bytes_eq c.name.name n) refl h
  where
    by : (is_constant cs n ≡ true → bound (later cs) (bind names c.name.name entry.Later) n ≡ Some entry.Later) → (b : Bool) → bytes_eq c.name.name n ≡ b
        → (b || is_constant cs n) ≡ true → bound (later cs) (bind names c.name.name entry.Later) n ≡ Some entry.Later
    by others true at k = later_stays cs (bind names c.name.name entry.Later) n (bind_new names c.name.name entry.Later n at)
    by others false at k = others k

no_constant : (cs : List Constant) (names : scopes.Names) (n : Name) → is_constant cs n ≡ false → bound (constants cs) names n ≡ names n
no_constant [] names n h = refl
no_constant (c ∷ cs) names n h = by (no_constant cs (bind names c.name.name entry.Constant) n) (bytes_eq c.name.name n) refl h
  where
    by : (is_constant cs n ≡ false → bound (constants cs) (bind names c.name.name entry.Constant) n ≡ bind names c.name.name entry.Constant n) → (b : Bool) → bytes_eq c.name.name n ≡ b
        → (b || is_constant cs n) ≡ false → bound (constants cs) (bind names c.name.name entry.Constant) n ≡ names n
    by others true at k = absurd (cc)
    by others false at k = others k ∙ bind_old names c.name.name entry.Constant n at

module _ (cs : List Constant) (all : List Function) (held : first_refusal (fresh_demands (later cs ++ numbered 0 all) nothing) ≡ None) where
  first_names : scopes.Names
  first_names = bound (later cs) nothing

  -- a function before others stands where its name tells
  declared_at : (before rest : List Function) → all ≡ before ++ rest → (n : Name) (x : Entry) → bound (numbered 0 before) first_names n ≡ Some x → declared_names cs all n ≡ Some x
  unfolding first_names
  declared_at before rest same n x is =
      let parts = fresh_append (later cs) (numbered 0 all) nothing held in
      let split : numbered 0 all ≡ numbered 0 before ++ numbered (length before) rest = ap (numbered 0) same ∙ (numbered_append 0 before rest ∙ ap (λ k. numbered 0 before ++ numbered k rest) (omega arith)) in
      let fresh_rest = (fresh_append (numbered 0 before) (numbered (length before) rest) (bound (later cs) nothing)
      (subst (λ (l : List Binding). first_refusal (fresh_demands l (bound (later cs) nothing)) ≡ None) split parts.1)).1 in
      ap (λ (s : scopes.Names). s n) (bound_append (later cs) (numbered 0 all) nothing)
      ∙ (ap (λ (l : List Binding). bound l (bound (later cs) nothing) n) split
      ∙ (ap (λ (s : scopes.Names). s n) (bound_append (numbered 0 before) (numbered (length before) rest) (bound (later cs) nothing))
      ∙ fresh_keeps (numbered (length before) rest) (bound (numbered 0 before) (bound (later cs) nothing)) n x fresh_rest is))

  constant_declared : (n : Name) → is_constant cs n ≡ true → declared_names cs all n ≡ Some entry.Later
  constant_declared n h =
      let parts = fresh_append (later cs) (numbered 0 all) nothing held in
      ap (λ (s : scopes.Names). s n) (bound_append (later cs) (numbered 0 all) nothing) ∙ fresh_keeps (numbered 0 all) (bound (later cs) nothing) n entry.Later parts.1 (later_bound cs nothing n h)

  -- a function that may be called is found among those before
  called_in : (names : Names) (before rest : List Function) → all ≡ before ++ rest → list_all is_scalar_function before ≡ true
      → (n : Name) (i : ℕ) (f : Function) → all_known cs all n ≡ Some (entry.Function i) → slice_get all i ≡ Some f → callable_among before n ≡ true
      → Called (map (function_renamed names) before) n f
  unfolding first_names
  called_in names before rest same scalar n i f is stands may =
      let found = some_is (found_in all n None before) (found_some all n before None may) in
      let place = found_numbered all n [] before rest None (bound (later cs) nothing) same (λ g at. absurd (cc)) found.0 found.1 in
      let declared = declared_at before rest same n (entry.Function place.0) place.1 in
      let index : i ≡ place.0 = function_is i place.0 (sym is ∙ (by (is_constant cs n) refl place.0 declared ∙ declared)) in
      let equal : found.0 ≡ f = some_same found.0 f (sym place.2 ∙ (ap (slice_get all) (sym index) ∙ stands)) in (
        function_renamed names found.0,
        found_renamed all n names before None None (λ g at. absurd (cc)) found.0 found.1,
        ap (λ (g : Function). g.parameters) equal,
        ap (λ (g : Function). g.results) equal,
        ap is_scalar_function (sym equal) ∙ found_holds all n is_scalar_function before None scalar (λ g at. absurd (cc)) found.0 found.1,
      )
    where
      function_is : (j k : ℕ) → Some (entry.Function j) ≡ Some (entry.Function k) → j ≡ k
      function_is j k at = cc

      some_same : (g h : Function) → Some g ≡ Some h → g ≡ h
      some_same g h at = cc

      by : (b : Bool) → is_constant cs n ≡ b → (j : ℕ) → declared_names cs all n ≡ Some (entry.Function j) → all_known cs all n ≡ declared_names cs all n
      by false at j declared = no_constant cs (declared_names cs all) n at
      by true at j declared = let clash : Some entry.Later ≡ Some (entry.Function j) = sym (constant_declared n at) ∙ declared in absurd (cc)

  -- where constants and functions alone are known
  pub agrees_known : first_refusal (constants_demands (λ name. None) cs) ≡ None
      → (before rest : List Function) → all ≡ before ++ rest → list_all is_scalar_function before ≡ true
      → Agrees all (map (function_renamed (constant_names (fold with_number (λ name. None) cs))) before) (callable_among before)
      (constant_names (fold with_number (λ name. None) cs)) (all_known cs all) []
  agrees_known manifest before rest same scalar = record {
    values = λ n s value is. value_by n s (all_known cs all n) refl value is;
    stands = λ n some. ap is_some ((numbered_names n).0 (number_some (numbers n) some));
    others = λ n o other at. absurd (no_array (numbers n) o other at);
    called = λ n i f. called_in (constant_names numbers) before rest same scalar n i f;
  }
    where
      numbers : Numbers
      numbers = fold with_number (λ name. None) cs

      numbered_names : Numbered (all_known cs all) numbers
      numbered_names = known_numbered cs all manifest

      number_some : (o : Option ℤ) → is_some (constant_standing o) ≡ true → is_some o ≡ true
      number_some None h = absurd (cc)
      number_some (Some k) h = refl

      no_array : (k : Option ℤ) (o : Outcome) (other : Name) → constant_standing k ≡ Some (standing.Array o other) → ⊥
      no_array None o other at = cc
      no_array (Some k) o other at = cc

      constant_fits : (n : Name) (k : Option ℤ) → is_some k ≡ true → Fits [] n (constant_standing k) (value_sort (Some entry.Constant))
      constant_fits n None h = absurd (cc)
      constant_fits n (Some k) h = refl

      value_by : (n : Name) (s : Sort) (x : Option Entry) → all_known cs all n ≡ x → is_value (all_known cs all n) ≡ true → value_sort (all_known cs all n) ≡ s → Fits [] n (constant_names numbers n) s
      value_by n s None at value is = let bad : false ≡ true = sym (ap is_value at) ∙ value in absurd (cc)
      value_by n s (Some entry.Later) at value is = let bad : false ≡ true = sym (ap is_value at) ∙ value in absurd (cc)
      value_by n s (Some (entry.Function i)) at value is = let bad : false ≡ true = sym (ap is_value at) ∙ value in absurd (cc)
      value_by n s (Some (entry.Local t)) at value is = absurd ((numbered_names n).2 t at)
      value_by n s (Some entry.Constant) at value is =
          subst (λ (t : Sort). Fits [] n (constant_names numbers n) t) (sym (ap value_sort at) ∙ is) (constant_fits n (numbers n) ((numbered_names n).1 at))

-- ---- parameters

-- the parameters of a function that is called
pub agrees_parameters : (all functions : List Function) (callable : Name → Bool) (names : Names) (ps : List Parameter) (scope : scopes.Names) (sorts : Sorts)
    → first_refusal (fresh_demands (parameters ps) scope) ≡ None → Agrees all functions callable names scope sorts
    → Agrees all functions callable names (bound (parameters ps) scope) (sorts ++ parameter_sorts ps)
agrees_parameters all functions callable names [] scope sorts h agrees = subst (λ (l : Sorts). Agrees all functions callable names scope l) (sym (append-nil sorts)) agrees
agrees_parameters all functions callable names (p ∷ ps) scope sorts h agrees =
    let inner = bind scope p.name.name (entry.Local p.sort) in
    let none = is_nothing (scope p.name.name) (head_holds (fresh p.name scope) (fresh_demands (parameters ps) inner) h) in
    subst (λ (l : Sorts). Agrees all functions callable names (bound (parameters ps) inner) l) (append_assoc sorts ((p.name.name, p.sort) ∷ []) (parameter_sorts ps))
    (agrees_parameters all functions callable names ps inner (sorts ++ (p.name.name, p.sort) ∷ []) (tail_holds (fresh p.name scope) (fresh_demands (parameters ps) inner) h)
    (agrees_inside all functions callable names scope sorts agrees p.name.name p.sort none))

-- each constant stands for its number
pub constants_stand : (numbers : Numbers) → NumbersStand numbers (constant_names numbers)
constants_stand numbers n k is = ap constant_standing is
