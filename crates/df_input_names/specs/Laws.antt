-- The names of inputs.
use Rattle.std.specs.Prelude.{ℕ, List, IsTrue}
use Rattle.std.specs.List.{AllByRecursion}
use Rattle.df_values.specs.declared.inputs.Input.{Input}
use Rattle.df_celltext.specs.Writable.{is_name}
use Rattle.df_syntax.specs.declared.program.Program.{Program}
use Rattle.df_syntax.specs.Refusals.{IsSource}
use Rattle.df_syntax.specs.SourceMeaning.{source_inputs}
use Rattle.df_syntax.specs.TokenList.{TokenList}
use Rattle.df_syntax.specs.Tokens.{Splits}

-- The names of the inputs of a source are names in a cell file.
abbrev pub InputsAreNamed : Type 0
InputsAreNamed = (text : List ℕ) (list : TokenList) (tree : Program) → Splits text list.tokens list.end → IsSource list tree
    → AllByRecursion (λ (i : Input). IsTrue (is_name i.name)) (source_inputs tree)
