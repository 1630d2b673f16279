-- Parts of lines that are read turn by turn or twice.
use Rattle.df_forms.specs.Form.{row, again}
use Rattle.df_syntax.specs.declared.word.Reserved.TheVariants as r
use Rattle.df_syntax.specs.declared.symbol.Symbol.TheVariants as s
use Rattle.df_syntax.specs.declared.tree.Named.{Named}
use Rattle.df_syntax.specs.declared.tree.Sort.{Sort}
use Rattle.df_syntax.specs.declared.tree.Expr.{Expr}
use Rattle.df_syntax.specs.declared.tree.Arm.{Arm}
use Rattle.df_syntax.specs.declared.tree.Definition.{Definition}
use Rattle.df_syntax.specs.declared.tree.Assign.{Assign}
use Rattle.df_syntax.specs.declared.tree.Parameter.{Parameter}
use Rattle.df_syntax.specs.Grammar as g
use Rattle.df_syntax.specs.Grammar.{Line, symbol, word, behind, before, in_parens}
use Rattle.std.specs.Prelude.{List}

-- "," expr
unfoldable pub next_expr : Line Expr
next_expr = behind (symbol s.Comma) again

-- ";" def
unfoldable pub next_definition : Line Definition
next_definition = behind (symbol s.Semicolon) g.definition

-- "elseif" expr "then" expr
unfoldable pub next_arm : Line Arm
next_arm = behind (word r.ElseIf) g.arm

-- ";" assign
unfoldable pub next_assign : Line Assign
next_assign = behind (symbol s.Semicolon) g.assign

-- "do" "if" expr
unfoldable pub loop_test : Line Expr
loop_test = behind (word r.Do) (behind (word r.If) again)

-- "then" "iter" assign { ";" assign } "enditer"
unfoldable pub loop_turn : Line (List Assign)
loop_turn = behind (word r.Then) (behind (word r.Iter) (before g.assigns (word r.EndIter)))

-- "else" expr "endif" "endfor"
unfoldable pub loop_last : Line Expr
loop_last = behind (word r.Else) (before again (behind (word r.EndIf) (word r.EndFor)))

-- "," name
unfoldable pub next_name : Line Named
next_name = behind (symbol s.Comma) g.bound

-- ";" group
unfoldable pub next_group : Line (List Parameter)
next_group = behind (symbol s.Semicolon) g.group

-- "," type
unfoldable pub next_type : Line Sort
next_type = behind (symbol s.Comma) g.sort

-- "(" [ params ] "returns" type { "," type } ")"
unfoldable pub signature : Line (List Parameter × List Sort)
signature = in_parens (row g.declared (behind (word r.Returns) g.results))
