-- What is known of a task whose texts were read.
use Rattle.std.specs.Prelude.{◌≡◌, ◌≤◌, length, IsTrue}
use Rattle.df_cells.specs.Schedules.{choices_of}
use Rattle.df_cells.specs.declared.schedules.Schedule.{Schedule}
use Rattle.df_core.specs.declared.flat.Flat.{Flat}
use Rattle.df_core.specs.Within.{IsFlat}
use Rattle.df_flattened.specs.Flattened.{flattened}
use Rattle.df_shape.specs.Shaped.{shaped}
use Rattle.df_syntax.specs.FreshNames.{names_are_new}
use Rattle.df_syntax.specs.WellShaped.{IsPiped}
use Rattle.df_syntax.specs.declared.program.Program.{Program as Tree}
use Rattle.df_commands.specs.ProgramTexts.{IsSized}

-- there are no more choices than a schedule may have, its drain counted
abbrev pub HasFewChoices : Schedule → Type 0
HasFewChoices schedule = length (choices_of schedule) ≤ 1_001_000_000

-- The source is right but for the number of its cells, its program in blocks keeps what is left of the demands on it, and this is its flat program.
pub record IsFlatOf (tree : Tree) (flat : Flat) : Type 0 where
  pub sized : IsSized tree
  pub new : IsTrue (names_are_new tree)
  pub piped : IsPiped (shaped tree)
  pub is : flat ≡ flattened (shaped tree)
  pub bounds : IsFlat flat
