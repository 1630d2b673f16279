-- What `shape` answers.
use Rattle.std.specs.Prelude.{◌≡◌, Some, None, Result, Ok, Err}
use Rattle.df_syntax.specs.declared.program.Program.{Program}
use Rattle.df_syntax.specs.declared.piped.Piped.{Piped}
use Rattle.df_syntax.specs.Demands.{first_refusal}
use Rattle.df_shape.specs.declared.answers.ShapeAnswer.{ShapeAnswer}
use Rattle.df_shape.specs.declared.answers.ShapeAnswer.TheVariants.{Memory}
use Rattle.df_shape.specs.Shaped.{shaped}
use Rattle.df_shape.specs.Sources.{demands}

-- all demands hold, and this is the source in blocks
pub record IsShaped (p : Program) (piped : Piped) : Type 0 where
  pub holds : first_refusal (demands p) ≡ None
  pub is : piped ≡ shaped p

-- the source in blocks where all demands on it hold, else the refusal of the first that fails, or want of memory
abbrev pub Shapes : Program → Result Piped ShapeAnswer → Type 0
Shapes p (Ok piped) = IsShaped p piped
Shapes p (Err refusal) = ¬ (refusal ≡ Memory) → first_refusal (demands p) ≡ Some refusal
