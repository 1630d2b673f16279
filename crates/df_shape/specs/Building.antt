-- A body as far as it is put into blocks.
use Rattle.std.specs.Prelude.{List, [], ◌∷◌, ◌++◌, fold, Option, Some, None}
use Rattle.df_syntax.specs.declared.tree.Sort.{Sort}
use Rattle.df_syntax.specs.declared.tree.Sort.TheVariants as of
use Rattle.df_syntax.specs.declared.tree.Expr.{Expr}
use Rattle.df_syntax.specs.declared.tree.Definition.{Definition}
use Rattle.df_syntax.specs.declared.piped.Block.{Block}
use Rattle.df_syntax.specs.declared.piped.Outcome.{Outcome}
use Rattle.df_syntax.specs.SourceForms.{Numbers}
use Rattle.df_names.specs.Found.{names_of}
use Rattle.df_shape.specs.declared.standing.Standing.{Standing}
use Rattle.df_shape.specs.declared.standing.Standing.TheVariants as standing
use Rattle.df_shape.specs.declared.blocks.Building.{Building}
use Rattle.df_shape.specs.Shaped.{Made, define, result}

-- the names and the blocks
abbrev pub made_of : Building → Made
made_of b = record { names = names_of b.names; blocks = b.blocks }

-- the blocks and the results
abbrev pub parts_of : Building → List Block × List Outcome
parts_of b = (b.blocks, b.results)

-- these blocks, and the results with these behind them
abbrev pub with_parts : Building → List Block × List Outcome → List Block × List Outcome
with_parts b parts = (parts.0, b.results ++ parts.1)

-- definitions one after the other
abbrev pub definitions_made : Numbers → Made → List Definition → Made
definitions_made numbers = fold (λ made d. define numbers made d.name d.sort d.value)

-- a result: the blocks then, and what it is
abbrev pub result_parts : Numbers → Made → Sort → Expr → List Block × List Outcome
result_parts numbers made sort e = let r = result numbers made sort e in (r.1, r.0 ∷ [])

-- what a definition that is a plain array name stands for
abbrev pub alias_of : Sort → Option Standing → Option Standing
alias_of (of.Array b) (Some (standing.Array o name)) = Some (standing.Array o name)
alias_of sort s = None

-- what a result that is a plain array name is
abbrev pub outcome_of : Sort → Option Standing → Option Outcome
outcome_of (of.Array b) (Some (standing.Array o name)) = Some o
outcome_of sort s = None
