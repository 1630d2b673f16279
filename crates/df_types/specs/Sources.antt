-- What is demanded of a whole source, in four passes.
use Rattle.std.specs.Prelude.{ℕ, suc, ◌==◌, Bool, true, false, List, [], ◌∷◌, ◌++◌, map, length, if◌then◌else◌}
use Rattle.std.specs.Option.{is_some, is_none}
use Rattle.df_io.specs.declared.place.Place.{Place}
use Rattle.df_syntax.specs.declared.tree.Expr.{Expr}
use Rattle.df_syntax.specs.declared.tree.Parameter.{Parameter}
use Rattle.df_syntax.specs.declared.program.Constant.{Constant}
use Rattle.df_syntax.specs.declared.program.Range.{Range}
use Rattle.df_syntax.specs.declared.program.Function.{Function}
use Rattle.df_syntax.specs.declared.program.Program.{Program}
use Rattle.df_types.specs.declared.answers.CheckAnswer.TheVariants.{WrongArity, BadRange}
use Rattle.df_types.specs.declared.entry.Entry.TheVariants as entry
use Rattle.df_names.specs.Maps.{nothing, bind, unbind}
use Rattle.df_types.specs.Scopes.{Names, Binding, bound}
use Rattle.df_types.specs.Demands.{Demand, demand}
use Rattle.df_types.specs.Sorts.{integer, is_array}
use Rattle.df_types.specs.Types.{Look, look_of, asked, asked_each, fresh, count_of, body_demands}

-- ---- 1: the names of constants and functions differ

-- names that are bound one after the other are new
abbrev pub fresh_demands : List Binding → Names → List Demand
fresh_demands [] names = []
fresh_demands (b ∷ bs) names = fresh b.0 names ∷ fresh_demands bs (bind names b.0.name b.1)

-- functions, numbered from i
abbrev pub numbered : ℕ → List Function → List Binding
numbered i [] = []
numbered i (f ∷ fs) = (f.name, entry.Function i) ∷ numbered (suc i) fs

-- constants that may not be named yet
abbrev pub later : List Constant → List Binding
later cs = map (λ c. (c.name, entry.Later)) cs

-- all names of constants and functions
abbrev pub all_names : Program → List Binding
all_names p = later p.constants ++ numbered 0 p.functions

-- ---- 2: constants are integers; the expression of one may name those before it

-- in the expressions of constants and ranges no function can be called
abbrev pub constant_look : Expr → Look
constant_look = look_of []

abbrev pub constant_demands : List Constant → Names → List Demand
constant_demands [] names = []
constant_demands (c ∷ cs) names = asked (constant_look c.value) integer names ++ constant_demands cs (bind names c.name.name entry.Constant)

-- constants that may be named
abbrev pub constants : List Constant → List Binding
constants cs = map (λ c. (c.name, entry.Constant)) cs

-- ---- 3: each array parameter of the last function has one range

abbrev pub last_parameters : List Function → List Parameter
last_parameters [] = []
last_parameters (f ∷ []) = f.parameters
last_parameters (f ∷ g ∷ fs) = last_parameters (g ∷ fs)

-- the array parameters among these
abbrev pub arrays : List Parameter → List Binding
arrays [] = []
arrays (p ∷ ps) = if is_array p.sort then (p.name, entry.Local p.sort) ∷ arrays ps else arrays ps

-- a range is of an array parameter that has none so far; its bounds are integers
abbrev pub one_range_demands : Range → Names → Names → List Demand
one_range_demands r without names =
    demand (is_some (without r.name.name)) (BadRange r.name.name r.name.place) ∷ (asked (constant_look r.low) integer names ++ asked (constant_look r.high) integer names)

abbrev pub range_demands : List Range → Names → Names → List Demand
range_demands [] without names = []
range_demands (r ∷ rs) without names = one_range_demands r without names ++ range_demands rs (unbind without r.name.name) names

-- those that have no range after these ranges
abbrev pub left_without : List Range → Names → Names
left_without [] without = without
left_without (r ∷ rs) without = left_without rs (unbind without r.name.name)

-- no array parameter is without a range
abbrev pub ranged_demands : List Binding → Names → List Demand
ranged_demands [] without = []
ranged_demands (b ∷ bs) without = demand (is_none (without b.0.name)) (BadRange b.0.name b.0.place) ∷ ranged_demands bs without

abbrev pub all_range_demands : List Range → List Binding → Names → List Demand
all_range_demands rs bs names = range_demands rs (bound bs nothing) names ++ ranged_demands bs (left_without rs (bound bs nothing))

-- ---- 4: functions

abbrev pub parameters : List Parameter → List Binding
parameters ps = map (λ p. (p.name, entry.Local p.sort)) ps

-- the first token of a body, which has an expression
abbrev pub first_place : List Expr → Place → Place
first_place [] otherwise = otherwise
first_place (e ∷ es) otherwise = e.place

abbrev pub is_empty : {A : Type 0} → List A → Bool
is_empty [] = true
is_empty (x ∷ xs) = false

module _ (functions : List Function) where
  -- a body gives as many values as results are declared, and values of their types
  abbrev pub results_demands : Bool → Function → Names → List Demand
  results_demands is_last f names =
      let values = map (look_of functions) f.values in
      demand (count_of values == length f.results) (WrongArity (first_place f.values f.name.place))
      ∷ (if is_last then body_demands values f.results names else asked_each values f.results names)

  abbrev pub function_demands : Bool → Function → Names → List Demand
  function_demands is_last f names = fresh_demands (parameters f.parameters) names ++ results_demands is_last f (bound (parameters f.parameters) names)

  -- the last function is the one that none follows
  abbrev pub functions_demands : List Function → Names → List Demand
  functions_demands [] names = []
  functions_demands (f ∷ fs) names = function_demands (is_empty fs) f names ++ functions_demands fs names

-- ---- all of them

-- where all names are declared and no constant may be named
abbrev pub declared : Program → Names
declared p = bound (all_names p) nothing

-- where all names are known
abbrev pub known_names : Program → Names
known_names p = bound (constants p.constants) (declared p)

unfoldable pub demands : Program → List Demand
demands p =
    fresh_demands (all_names p) nothing
    ++ (constant_demands p.constants (declared p)
    ++ (all_range_demands p.ranges (arrays (last_parameters p.functions)) (known_names p)
    ++ functions_demands p.functions p.functions (known_names p)))
