-- What is known where a function stands.
use Rattle.std.specs.Prelude.{◌≡◌, Bool, ◌||◌, List, ◌++◌, flat_map}
use Rattle.std.specs.Option.{is_some}
use Rattle.df_syntax.specs.declared.form.Form.TheVariants as rule
use Rattle.df_syntax.specs.declared.program.Function.{Function}
use Rattle.df_syntax.specs.Meaning.{Name}
use Rattle.df_names.specs.declared.map.NameMap.{NameMap}
use Rattle.df_names.specs.Found.{names_of}
use Rattle.df_shape.specs.declared.answers.ShapeAnswer.TheVariants.{NotPiped}
use Rattle.df_shape.specs.Demands.{Demands, demand, Around, demands_of}
use Rattle.df_shape.specs.Sources.{is_scalar_function, gives_an_array, main_demands, array_parameters}

-- whether a name is in a map
abbrev pub is_in : NameMap (Unit {0}) → Name → Bool
is_in map name = is_some (names_of map name)

-- a function before the last, and the last one
abbrev pub function_in : Around → Function → Demands
function_in around f = demand (is_scalar_function f) (NotPiped rule.ArrayParameter f.name.place) ++ flat_map (λ e. demands_of e around) f.values

abbrev pub main_in : Around → Function → Demands
main_in around f = main_demands f.values (record around { arrays = array_parameters f.parameters })

-- the functions that give an array are those of the map and those that are left
abbrev pub Holds : NameMap (Unit {0}) → List Function → List Function → Type 0
Holds map left functions = (name : Name) → gives_an_array functions name ≡ (is_in map name || gives_an_array left name)
