-- What decides whether the value of an expression is an array.
use Rattle.std.specs.Prelude.{◌≡◌, Bool, true, false, ◌&&◌, List, fold, bytes_eq}
use Rattle.std.specs.List.{list_any}
use Rattle.df_syntax.specs.declared.tree.Definition.{Definition}
use Rattle.df_syntax.specs.declared.tree.Expr.{Expr}
use Rattle.df_syntax.specs.Meaning.{Name}
use Rattle.df_syntax.specs.SourceForms.{is_array}
use Rattle.df_shape.specs.declared.endings.Ending.{Ending}
use Rattle.df_shape.specs.declared.endings.Ending.TheVariants as e
use Rattle.df_shape.specs.Demands.{Around, or_array, gives_array}

abbrev pub is_array_by : Around → Ending → Bool
is_array_by around e.Array = true
is_array_by around e.Scalar = false
is_array_by around (e.Name name) = around.arrays name.now
is_array_by around (e.Call name) = around.gives name.now

-- whether one of these definitions is an array of this name
abbrev pub defines : List Definition → Name → Bool
defines ds name = list_any (λ (d : Definition). is_array d.sort && bytes_eq d.name.name name) ds

-- the names of arrays behind definitions
abbrev pub behind : List Definition → (Name → Bool) → Name → Bool
behind ds arrays = fold (λ others (d : Definition). or_array others d.name.name d.sort) arrays ds

abbrev pub with_defined : List Definition → Around → Around
with_defined ds around = record around { arrays = behind ds around.arrays }

-- this ending decides
abbrev pub Decides : Expr → Ending → Type 0
Decides e ending = (around : Around) → gives_array around e ≡ is_array_by around ending
