-- What the readers of inputs and of schedules say of their parts.
use Rattle.std.specs.Prelude.{◌≡◌, ◌≢◌, ◌+◌, ◌<◌, ◌⊎◌, ℕ, Bool, true, false, List, [], ◌∷◌, map, length, slice_get, bytes_eq, Option, Some, None, unwrap_or}
use Rattle.std.specs.List.{list_all}
use Rattle.std.specs.Map.{lookup}
use Rattle.df_values.specs.declared.values.Value.{Value}
use Rattle.df_values.specs.declared.values.Value.TheVariants.{Truth, Error}
use Rattle.df_values.specs.declared.values.ErrorValue.TheVariants.{Undef, MissElt}
use Rattle.df_values.specs.declared.values.Basic.{Basic}
use Rattle.df_values.specs.declared.values.Basic.TheVariants as basic
use Rattle.df_cells.specs.declared.cells.InputDecl.{InputDecl}
use Rattle.df_iotext.specs.Inputs.{Given, IsOpen}
use Rattle.df_iotext.specs.Schedules.{IsCount}
use Rattle.df_iotext.specs.declared.inputs.InputAnswer.{InputAnswer}
use Rattle.df_iotext.specs.declared.inputs.InputAnswer.TheVariants.{BadInput, WrongLength}

-- names with the numbers of their inputs
abbrev pub Places : Type 0
Places = List (List ℕ × ℕ)

-- the number under a name
abbrev pub place_of_name : Places → List ℕ → Option ℕ
place_of_name places name = lookup (bytes_eq name) places

-- lists of values under their numbers
abbrev pub Lists : Type 0
Lists = List (List Value)

-- the places are those of the open inputs, and the lists what was given
pub record HasGiven (decls : List InputDecl) (places : Places) (lists : List (List Value)) (given : Given) : Type 0 where
  pub as_many : length given ≡ length decls
  pub found : (name : List ℕ) (k : ℕ) → place_of_name places name ≡ Some k → (decl : InputDecl) × IsOpen decls given name k decl
  pub there : (name : List ℕ) (k : ℕ) (decl : InputDecl) → IsOpen decls given name k decl → place_of_name places name ≡ Some k
  pub listed : lists ≡ map (λ values. unwrap_or values []) given

-- the first `count` inputs have their places, and no other names do
pub record HasPlaces (decls : List InputDecl) (places : Places) (count : ℕ) : Type 0 where
  pub found : (name : List ℕ) (k : ℕ) → place_of_name places name ≡ Some k → (k < count) × ((decl : InputDecl) × (slice_get decls k ≡ Some decl) × (decl.name ≡ name))
  pub there : (k : ℕ) (decl : InputDecl) → k < count → slice_get decls k ≡ Some decl → place_of_name places decl.name ≡ Some k

-- the first of the inputs whose name has a place
pub record IsFirstPlaced (decls : List InputDecl) (places : Places) (k : ℕ) (decl : InputDecl) : Type 0 where
  pub declared : slice_get decls k ≡ Some decl
  pub placed : place_of_name places decl.name ≢ None
  pub first : (j : ℕ) (other : InputDecl) → j < k → slice_get decls j ≡ Some other → place_of_name places other.name ≡ None

-- whether a value whose integer, if it is one, is ordinary has this type
abbrev pub has_type : Basic → Value → Bool
has_type basic.Integer (Truth _) = false
has_type basic.Integer _ = true
has_type basic.Boolean (Truth _) = true
has_type basic.Boolean (Error Undef) = true
has_type basic.Boolean (Error MissElt) = true
has_type basic.Boolean _ = false

-- the values are of an input's type, and as many as declared
pub record FitValues (decl : InputDecl) (values : List Value) : Type 0 where
  pub typed : list_all (has_type decl.basic) values ≡ true
  pub counted : length values ≡ decl.length

-- why values are refused for an input: first their types, then their number
abbrev pub RefusesValues : InputDecl → List Value → ℕ → InputAnswer → Type 0
RefusesValues decl values number answer =
    ((answer ≡ BadInput number) × (list_all (has_type decl.basic) values ≡ false))
    ⊎ ((answer ≡ WrongLength decl.name (length values) decl.length) × (list_all (has_type decl.basic) values ≡ true) × (length values ≢ decl.length))

-- ---- schedules

-- what is wrong behind a `drain`, which is word `number`: word k
pub data IsBadDrain (behind : List (List ℕ)) (number k : ℕ) : Type 0 where
  missing : behind ≡ [] → k ≡ number → IsBadDrain behind number k
  wrong : (word : List ℕ) (more : List (List ℕ)) → behind ≡ word ∷ more → ((count : ℕ) → ¬ IsCount word count) → k ≡ number + 1 → IsBadDrain behind number k
  longer : (word : List ℕ) (count : ℕ) (next : List ℕ) (more : List (List ℕ)) → behind ≡ word ∷ next ∷ more → IsCount word count → k ≡ number + 2 → IsBadDrain behind number k
