-- What is demanded of the form of a whole source: of its constants, its ranges and its functions, in this order.
use Rattle.std.specs.Prelude.{Bool, true, false, None, not, if◌then◌else◌, ◌&&◌, ◌||◌, nat_le, List, [], ◌∷◌, ◌++◌, map, flat_map, fold, bytes_eq}
use Rattle.std.specs.List.{list_any}
use Rattle.df_syntax.specs.declared.form.Form.TheVariants as rule
use Rattle.df_syntax.specs.declared.tree.Named.{Named}
use Rattle.df_syntax.specs.declared.tree.Sort.{Sort}
use Rattle.df_syntax.specs.declared.tree.Parameter.{Parameter}
use Rattle.df_syntax.specs.declared.tree.Expr.{Expr}
use Rattle.df_syntax.specs.declared.tree.Node.TheOpen.{Node-F}
use Rattle.df_syntax.specs.declared.program.Constant.{Constant}
use Rattle.df_syntax.specs.declared.program.Range.{Range}
use Rattle.df_syntax.specs.declared.program.Function.{Function}
use Rattle.df_syntax.specs.declared.program.Program.{Program}
use Rattle.df_syntax.specs.Trees.{Layer}
use Rattle.df_syntax.specs.Besides.{fold_beside}
use Rattle.df_syntax.specs.Meaning.{Name}
use Rattle.df_syntax.specs.SourceForms.{Numbers, numbers_of, with_number, form, is_let, is_array}
use Rattle.df_shape.specs.declared.answers.ShapeAnswer.TheVariants.{RangeTooLong, NotPiped}
use Rattle.df_shape.specs.declared.part.Part.TheVariants.{Whole, Inside}
use Rattle.df_shape.specs.Demands.{Demands, demand, Around, as_part, or_array, Look, manifest_demand, length_between, longest, demands_of}

-- ---- constants and ranges

abbrev pub constants_demands : Numbers → List Constant → Demands
constants_demands numbers [] = []
constants_demands numbers (c ∷ cs) = manifest_demand numbers c.value ++ constants_demands (with_number numbers c) cs

abbrev pub one_range_demands : Numbers → Range → Demands
one_range_demands numbers r =
    manifest_demand numbers r.low ++ (manifest_demand numbers r.high ++ demand (nat_le (length_between numbers r.low r.high) longest) (RangeTooLong r.name.place))

-- ---- the body of the main function

abbrev pub whole : Around → Around
whole around = as_part around Whole

-- the definitions of a body; what follows may name their arrays
abbrev pub body_definitions : Around → List (Named × Sort × (Expr × Look)) → Demands
body_definitions around [] = []
body_definitions around (d ∷ ds) = demands_of d.2.0 (whole around) ++ body_definitions (record around { arrays = or_array around.arrays d.0.name d.1 }) ds

abbrev pub with_arrays : Around → List (Named × Sort × (Expr × Look)) → Around
with_arrays around ds = record around { arrays = fold (λ arrays d. or_array arrays d.0.name d.1) around.arrays ds }

-- a body is a list of results, or one `let` whose body is such a body
abbrev pub body_demands : List (Expr × Look) → Look
body_demands (e ∷ []) = e.1
body_demands es = λ around. flat_map (λ (e : Expr × Look). demands_of e.0 (whole around)) es

abbrev pub body_node : Expr → Layer (Expr × Look) → Look
body_node e (Node-F.Parens of) = if is_let (form e) then of.1 else (λ around. demands_of e (whole around))
body_node e (Node-F.Let definitions values) = λ around. body_definitions around definitions ++ body_demands values (with_arrays around definitions)
body_node e node = λ around. demands_of e (whole around)

unfoldable pub body_of : Expr → Look
body_of = fold_beside Look body_node

abbrev pub main_demands : List Expr → Look
main_demands es = body_demands (map (λ e. (e, body_of e)) es)

-- ---- functions

-- whether these results are one array or several
abbrev pub are_several : List Sort → Bool
are_several [] = false
are_several (s ∷ []) = false
are_several (s ∷ t ∷ sorts) = true

-- a function before the last takes scalars and gives one
abbrev pub is_scalar_function : Function → Bool
is_scalar_function f = not (list_any (λ (p : Parameter). is_array p.sort) f.parameters || (list_any is_array f.results || are_several f.results))

abbrev pub gives_an_array : List Function → Name → Bool
gives_an_array functions name = list_any (λ (f : Function). bytes_eq f.name.name name && list_any is_array f.results) functions

-- the functions before a function may be called in it
abbrev pub callable_among : List Function → Name → Bool
callable_among before name = list_any (λ (f : Function). bytes_eq f.name.name name) before

abbrev pub array_parameters : List Parameter → Name → Bool
array_parameters ps = fold (λ arrays (p : Parameter). or_array arrays p.name.name p.sort) (λ name. false) ps

abbrev pub around_function : Numbers → List Function → List Function → Around
around_function numbers functions before =
    record { numbers = numbers; arrays = (λ name. false); callable = callable_among before; gives = gives_an_array functions; part = Inside }

module _ (numbers : Numbers) (functions : List Function) where
  abbrev pub function_demands : List Function → Function → Demands
  function_demands before f =
      demand (is_scalar_function f) (NotPiped rule.ArrayParameter f.name.place)
      ++ flat_map (λ e. demands_of e (around_function numbers functions before)) f.values

  abbrev pub last_demands : List Function → Function → Demands
  last_demands before f = main_demands f.values (record (around_function numbers functions before) { arrays = array_parameters f.parameters })

  -- each function with those before it; the last one is the main function
  abbrev pub functions_demands : List Function → List Function → Demands
  functions_demands before [] = []
  functions_demands before (f ∷ []) = last_demands before f
  functions_demands before (f ∷ g ∷ fs) = function_demands before f ++ functions_demands (before ++ f ∷ []) (g ∷ fs)

-- ---- sources

unfoldable pub demands : Program → Demands
demands p =
    let numbers = numbers_of p in
    constants_demands (λ name. None) p.constants ++ (flat_map (one_range_demands numbers) p.ranges ++ functions_demands numbers p.functions [] p.functions)
