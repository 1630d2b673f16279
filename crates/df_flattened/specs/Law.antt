-- Lowering keeps the meaning of programs in blocks, and gives flat programs within the bounds.
use Rattle.std.specs.Prelude.{◌≡◌, List}
use Rattle.df_values.specs.declared.values.Value.{Value}
use Rattle.df_values.specs.Inputs.{AreValid}
use Rattle.df_syntax.specs.declared.piped.Piped.{Piped}
use Rattle.df_syntax.specs.BlockMeaning.{mean}
use Rattle.df_values.specs.Inputs.{declared}
use Rattle.df_syntax.specs.WellShaped.{IsPiped}
use Rattle.df_core.specs.Meaning.{flat_mean}
use Rattle.df_core.specs.Within.{IsFlat}
use Rattle.df_flattened.specs.Flattened.{flattened}

-- Under all valid inputs a program in blocks that keeps the demands means what its flat program means.
abbrev pub LoweringKeepsTheMeaning : Type 0
LoweringKeepsTheMeaning = (p : Piped) (inputs : List (List Value)) → IsPiped p → AreValid (declared p.parameters) inputs → flat_mean (flattened p) inputs ≡ mean p inputs

-- It keeps the bounds of a flat program.
abbrev pub LoweredProgramsAreFlat : Type 0
LoweredProgramsAreFlat = (p : Piped) → IsPiped p → IsFlat (flattened p)
