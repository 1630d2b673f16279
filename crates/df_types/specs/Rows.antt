-- Small sources of one function f, whose name stands at column 2 and whose body begins at column 7.
use Rattle.std.specs.Prelude.{ℕ, true, List, [], ◌∷◌, codes}
use Rattle.df_values.specs.declared.values.Basic.TheVariants as basic
use Rattle.df_syntax.specs.declared.tree.Named.{Named}
use Rattle.df_syntax.specs.declared.tree.Parameter.{Parameter}
use Rattle.df_syntax.specs.declared.tree.Sort.{Sort}
use Rattle.df_syntax.specs.declared.tree.Sort.TheVariants as of
use Rattle.df_syntax.specs.declared.tree.Expr.{Expr}
use Rattle.df_syntax.specs.declared.tree.Node.TheVariants as n
use Rattle.df_syntax.specs.declared.program.Program.{Program}
use Rattle.df_syntax.specs.Grammar.{made_at, definition_of, function_of, program_of}
use Rattle.df_syntax.specs.Examples.{column, number_at}

abbrev pub f : List ℕ
f = codes "f"

abbrev pub x : List ℕ
x = codes "x"

abbrev pub named_at : List ℕ → ℕ → Named
named_at name c = record { name = name; place = column c }

abbrev pub integer : Sort
integer = of.Basic basic.Integer

-- function f ( PARAMETERS returns integer ) VALUES endfun
abbrev pub source : List Parameter → List Expr → Program
source parameters values = program_of [] [] (function_of (named_at f 2) parameters (integer ∷ []) values ∷ [])

-- x
abbrev pub x_at : ℕ → Expr
x_at c = made_at (column c) (n.Name x)

-- true
abbrev pub truth : Expr
truth = made_at (column 7) (n.Truth true)

-- let x : integer := x in 1 endlet
abbrev pub self_defined : Expr
self_defined = made_at (column 7) (n.Let (definition_of (named_at x 8) integer (x_at 12) ∷ []) (number_at 14 1 ∷ []))
