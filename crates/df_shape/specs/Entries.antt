-- The names and the inputs of a main function, as they are gathered.
use Rattle.std.specs.Prelude.{ℤ, pos, List, [], ◌∷◌, fold, Option, Some, None, if◌then◌else◌, bytes_eq}
use Rattle.std.specs.List.{list_any}
use Rattle.df_syntax.specs.declared.tree.Sort.TheVariants as of
use Rattle.df_syntax.specs.declared.tree.Parameter.{Parameter}
use Rattle.df_syntax.specs.declared.tree.Expr.{Expr}
use Rattle.df_syntax.specs.declared.program.Constant.{Constant}
use Rattle.df_syntax.specs.declared.program.Range.{Range}
use Rattle.df_values.specs.declared.inputs.Extent.{Extent}
use Rattle.df_values.specs.declared.inputs.Input.{Input}
use Rattle.df_syntax.specs.Meaning.{Name}
use Rattle.df_syntax.specs.SourceForms.{Numbers, manifest, with_number}
use Rattle.df_syntax.specs.SourceMeaning.{or_zero, extent_over}
use Rattle.df_shape.specs.Renamed.{Names}
use Rattle.df_shape.specs.Shaped.{constant_standing}

-- the numbers of these constants
abbrev pub numbers_by : List Constant → Numbers
numbers_by = fold with_number (λ name. None)

-- the names of these constants alone
abbrev pub standing_in : Numbers → List Constant → Names
standing_in numbers constants = λ name. if list_any (λ (c : Constant). bytes_eq c.name.name name) constants then constant_standing (numbers name) else None

-- the number of a bound
abbrev pub bound_in : Numbers → Expr → ℤ
bound_in numbers e = or_zero (manifest numbers e)

-- the first range of each name
abbrev pub extents_found : (Expr → ℤ) → List Range → Name → Option Extent
extents_found value [] name = None
extents_found value (r ∷ ranges) name = if bytes_eq r.name.name name then Some (extent_over (value r.low) (value r.high)) else extents_found value ranges name

abbrev pub or_empty : Option Extent → Extent
or_empty None = record { lo = pos 0; n = 0 }
or_empty (Some extent) = extent

abbrev pub input_found : (Name → Option Extent) → Parameter → Input
input_found extents p =
    elim p.sort as (λ s. Input)
    [ of.Basic b ↦ record { name = p.name.name; basic = b; extent = None } | of.Array b ↦ record { name = p.name.name; basic = b; extent = Some (or_empty (extents p.name.name)) } ]
