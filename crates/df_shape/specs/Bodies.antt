-- What is around the parts of the main function.
use Rattle.std.specs.Prelude.{List, map}
use Rattle.std.specs.Option.{is_some}
use Rattle.df_syntax.specs.declared.tree.Named.{Named}
use Rattle.df_syntax.specs.declared.tree.Sort.{Sort}
use Rattle.df_syntax.specs.declared.tree.Expr.{Expr}
use Rattle.df_syntax.specs.declared.tree.Definition.{Definition}
use Rattle.df_names.specs.declared.map.NameMap.{NameMap}
use Rattle.df_names.specs.Found.{names_of}
use Rattle.df_shape.specs.declared.part.Part.TheVariants.{Inside}
use Rattle.df_shape.specs.declared.body.Main.{Main}
use Rattle.df_shape.specs.Demands.{Around, Look}
use Rattle.df_shape.specs.Sources.{body_of}

abbrev pub main_around : Main → NameMap (Unit {0}) → Around
main_around main arrays =
    record {
      numbers = names_of main.numbers.now;
      arrays = λ name. is_some (names_of arrays name);
      callable = λ name. is_some (names_of main.callable.now name);
      gives = λ name. is_some (names_of main.gives.now name);
      part = Inside;
    }

-- an expression beside its demands as a body
abbrev pub as_body : Expr → Expr × Look
as_body e = (e, body_of e)

abbrev pub bodies : List Expr → List (Expr × Look)
bodies = map as_body

abbrev pub body_looks : List Definition → List (Named × Sort × (Expr × Look))
body_looks = map (λ (d : Definition). (d.name, d.sort, as_body d.value))
