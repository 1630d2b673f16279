-- Expressions in blocks: a number stands in place of each constant, and each array has the name of the parameter or block that it is.
use Rattle.std.specs.Prelude.{map, Option, Some}
use Rattle.df_syntax.specs.declared.tree.Expr.{Expr}
use Rattle.df_syntax.specs.declared.tree.Node.{Node}
use Rattle.df_syntax.specs.declared.tree.Node.TheOpen.{Node-F}
use Rattle.df_syntax.specs.declared.tree.Node.TheVariants as n
use Rattle.df_syntax.specs.declared.program.Function.{Function}
use Rattle.df_syntax.specs.Grammar.{made_at}
use Rattle.df_syntax.specs.Trees.{Layer, fold_tree}
use Rattle.df_syntax.specs.Besides.{node_of}
use Rattle.df_syntax.specs.Meaning.{Name}
use Rattle.df_shape.specs.declared.standing.Standing.{Standing}
use Rattle.df_shape.specs.declared.standing.Standing.TheVariants as standing

-- what each name stands for, or nothing
abbrev pub Names : Type 0
Names = Name → Option Standing

abbrev pub value_renamed : Name → Option Standing → Node
value_renamed name (Some (standing.Constant number)) = n.Number number
value_renamed name (Some (standing.Array outcome other)) = n.Name other
value_renamed name s = n.Name name

abbrev pub array_name : Name → Option Standing → Name
array_name name (Some (standing.Array outcome other)) = other
array_name name s = name

abbrev pub node_renamed : Names → Layer Expr → Node
node_renamed names (Node-F.Name name) = value_renamed name (names name)
node_renamed names (Node-F.Access name at) = n.Access (array_name name (names name)) at
node_renamed names node = node_of node

unfoldable pub renamed : Names → Expr → Expr
renamed names = fold_tree Expr (λ place node. made_at place (node_renamed names node))

-- a function whose body speaks of no constants
abbrev pub function_renamed : Names → Function → Function
function_renamed names f = record { name = f.name; parameters = f.parameters; results = f.results; values = map (renamed names) f.values }
