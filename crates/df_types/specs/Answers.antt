-- What a walk over a source answers, and what that says of the demands that it tries.
use Rattle.std.specs.Prelude.{◌≡◌, List, Some, None, Result, Ok, Err}
use Rattle.df_types.specs.declared.answers.CheckAnswer.{CheckAnswer}
use Rattle.df_types.specs.declared.answers.CheckAnswer.TheVariants.{Memory}
use Rattle.df_types.specs.Scopes.{Scope, Names}
use Rattle.df_syntax.specs.declared.tree.Sort.{Sort}
use Rattle.df_names.specs.Found.{names_of}
use Rattle.df_syntax.specs.Demands.{first_refusal}
use Rattle.df_types.specs.Demands.{Demand}
use Rattle.df_types.specs.Types.{Look}

-- all demands hold, the value is this one, and the names stand for this
pub record Holds {A : Type 0} (value : A) (ds : List Demand) (names : Names) (found : A) (scope : Scope) : Type 0 where
  pub holds : first_refusal ds ≡ None
  pub value_is : found ≡ value
  pub names_are : names_of scope ≡ names

-- the refusal is that of the first demand that fails, or want of memory
abbrev pub IsRefused : List Demand → CheckAnswer → Type 0
IsRefused ds refusal = ¬ (refusal ≡ Memory) → first_refusal ds ≡ Some refusal

-- Ok where all demands hold, and then with this value and these names; else the first refusal
abbrev pub Answers : {A : Type 0} → A → List Demand → Names → Result A CheckAnswer → Scope → Type 0
Answers value ds names (Ok found) scope = Holds value ds names found scope
Answers value ds names (Err refusal) scope = IsRefused ds refusal

-- an answer on an expression: its type, where its demands hold
abbrev pub Looked : Look → Names → Result Sort CheckAnswer → Scope → Type 0
Looked look names result scope = Answers (look.sort names) (look.demands names) names result scope
