-- Whether a name stands in some part of an expression.
use Rattle.std.specs.Prelude.{Bool, ◌||◌, List}
use Rattle.std.specs.List.{list_any}
use Rattle.df_syntax.specs.declared.tree.Expr.{Expr}
use Rattle.df_syntax.specs.declared.tree.Link.{Link}
use Rattle.df_syntax.specs.declared.tree.Arm.{Arm}
use Rattle.df_syntax.specs.declared.tree.Definition.{Definition}
use Rattle.df_syntax.specs.declared.tree.Assign.{Assign}
use Rattle.df_syntax.specs.Meaning.{Name}
use Rattle.df_syntax.specs.SourceForms.{names_it}

abbrev pub in_links : Name → List Link → Bool
in_links name = list_any (λ l. names_it name l.operand)

abbrev pub in_arms : Name → List Arm → Bool
in_arms name = list_any (λ a. names_it name a.test || names_it name a.value)

abbrev pub in_definitions : Name → List Definition → Bool
in_definitions name = list_any (λ d. names_it name d.value)

abbrev pub in_assigns : Name → List Assign → Bool
in_assigns name = list_any (λ a. names_it name a.value)

abbrev pub in_values : Name → List Expr → Bool
in_values name = list_any (names_it name)
