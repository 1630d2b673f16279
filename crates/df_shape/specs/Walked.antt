-- What a walk over an expression answers on the demands that it tries.
use Rattle.std.specs.Prelude.{◌≡◌, Some, None, Result, Ok, Err}
use Rattle.std.specs.Result.{result_err}
use Rattle.df_syntax.specs.Demands.{first_refusal}
use Rattle.df_shape.specs.declared.answers.ShapeAnswer.{ShapeAnswer}
use Rattle.df_shape.specs.declared.answers.ShapeAnswer.TheVariants.{Memory}
use Rattle.df_shape.specs.Demands.{Demands}

-- Ok where all demands hold, else the refusal of the first that fails
abbrev pub Walked : {A : Type 0} → Demands → Result A ShapeAnswer → Type 0
Walked ds result = first_refusal ds ≡ result_err result

-- Ok where all demands hold, and then with such a value; else the refusal of the first that fails, or want of memory
abbrev pub Tried : {A : Type 0} → Demands → (A → Type 0) → Result A ShapeAnswer → Type 0
Tried ds P (Ok a) = (first_refusal ds ≡ None) × P a
Tried ds P (Err refusal) = ¬ (refusal ≡ Memory) → first_refusal ds ≡ Some refusal

-- the same, whatever the value
abbrev pub Kept : {A : Type 0} → Demands → Result A ShapeAnswer → Type 0
Kept ds = Tried ds (λ _. Unit {0})
