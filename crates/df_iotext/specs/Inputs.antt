-- The lines of a text with inputs: each is idle or gives one input its values.
use Rattle.std.specs.Prelude.{◌≡◌, ◌≢◌, ◌+◌, ◌<◌, ◌==◌, ◌&&◌, ◌||◌, ℕ, Bool, true, false, List, [], ◌∷◌, ◌++◌, All, map, length, drop, slice_get, slice_set, Option, Some, None, Result, Ok, Err}
use Rattle.std.specs.List.{AllZip, list_all, prefix_len, position_or_len, before_first, after_first}
use Rattle.std.specs.Char.{is_ascii_alphabetic, is_ascii_alphanumeric}
use Rattle.std.specs.Str.Lines.{lines}
use Rattle.df_values.specs.Inputs.{HasType, IsAsDeclared}
use Rattle.df_values.specs.declared.values.Value.{Value}
use Rattle.df_cells.specs.declared.cells.InputDecl.{InputDecl}
use Rattle.df_cells.specs.Cells.{declaration_of}
use Rattle.df_iotext.specs.Words.{is_blank, words}
use Rattle.df_iotext.specs.Numbers.{Spells}
use Rattle.df_iotext.specs.declared.words.Gaps.TheVariants.{Blanks}
use Rattle.df_iotext.specs.declared.inputs.InputAnswer.{InputAnswer}
use Rattle.df_iotext.specs.declared.inputs.InputAnswer.TheVariants.{BadInput, ExtraInput, WrongLength, MissingInput}

-- ---- one line

-- whether a line whose first byte isn't blank is empty or a comment
abbrev pub is_empty_or_comment : List ℕ → Bool
is_empty_or_comment [] = true
is_empty_or_comment (byte ∷ _) = byte == 37

-- whether a line gives nothing: it is empty, but for blanks, or a comment behind blanks
abbrev pub is_idle : List ℕ → Bool
is_idle line = is_empty_or_comment (drop (prefix_len is_blank line) line)

-- a letter, a digit or _
abbrev pub is_name_byte : ℕ → Bool
is_name_byte byte = is_ascii_alphanumeric byte || (byte == 95)

-- a letter, and then letters, digits and _
abbrev pub is_name : List ℕ → Bool
is_name [] = false
is_name (byte ∷ bytes) = is_ascii_alphabetic byte && list_all is_name_byte bytes

-- whether a byte is the sign =
abbrev pub is_sign : ℕ → Bool
is_sign byte = byte == 61

-- before its first = the line has one word, a name
pub record IsNamed (line name : List ℕ) : Type 0 where
  pub signed : position_or_len is_sign line < length line
  pub alone : words Blanks (before_first is_sign line) ≡ name ∷ []
  pub formed : is_name name ≡ true

-- the line is `name = values`
pub record IsAssignment (line name : List ℕ) (values : List Value) : Type 0 where
  pub active : is_idle line ≡ false
  pub named : IsNamed line name
  pub spelled : AllZip Spells (words Blanks (after_first is_sign line)) values

-- ---- what was given

-- for each declared input, in order, the values that were given for it, if they were
abbrev pub Given : Type 0
Given = List (Option (List Value))

abbrev pub nothing_given : List InputDecl → Given
nothing_given decls = map (λ _. None) decls

-- input k has this name and declaration, and nothing was given for it
pub record IsOpen (decls : List InputDecl) (given : Given) (name : List ℕ) (k : ℕ) (decl : InputDecl) : Type 0 where
  pub declared : slice_get decls k ≡ Some decl
  pub named : decl.name ≡ name
  pub empty : slice_get given k ≡ Some None

-- no open input has this name
abbrev pub IsUnwanted : List InputDecl → Given → List ℕ → Type 0
IsUnwanted decls given name = (k : ℕ) (decl : InputDecl) → ¬ IsOpen decls given name k decl

-- a line that is fine after what was given: idle, or with the values of an open input as it is declared
pub data TakesLine (decls : List InputDecl) (given : Given) (line : List ℕ) (after : Given) : Type 0 where
  idle : is_idle line ≡ true → after ≡ given → TakesLine decls given line after
  gives : (name : List ℕ) (values : List Value) (k : ℕ) (decl : InputDecl) → IsAssignment line name values → IsOpen decls given name k decl
      → IsAsDeclared (declaration_of decl) values → after ≡ slice_set given k (Some values) → TakesLine decls given line after

-- a line that is refused after what was given, tried in this order: its form, its name, the types of its values, their number
pub data RefusesLine (decls : List InputDecl) (given : Given) (line : List ℕ) (number : ℕ) (answer : InputAnswer) : Type 0 where
  malformed : is_idle line ≡ false → ((name : List ℕ) (values : List Value) → ¬ IsAssignment line name values) → answer ≡ BadInput number
      → RefusesLine decls given line number answer
  unwanted : (name : List ℕ) (values : List Value) → IsAssignment line name values → IsUnwanted decls given name → answer ≡ ExtraInput number
      → RefusesLine decls given line number answer
  mistyped : (name : List ℕ) (values : List Value) (k : ℕ) (decl : InputDecl) → IsAssignment line name values → IsOpen decls given name k decl
      → ¬ All (HasType decl.basic) values → answer ≡ BadInput number → RefusesLine decls given line number answer
  miscounted : (name : List ℕ) (values : List Value) (k : ℕ) (decl : InputDecl) → IsAssignment line name values → IsOpen decls given name k decl
      → All (HasType decl.basic) values → length values ≢ decl.length → answer ≡ WrongLength name (length values) decl.length
      → RefusesLine decls given line number answer

-- ---- all lines

-- the lines are fine, each after those before it
abbrev pub TakesLines : List InputDecl → Given → List (List ℕ) → Given → Type 0
TakesLines decls given [] after = after ≡ given
TakesLines decls given (line ∷ rest) after = (next : Given) × TakesLine decls given line next × TakesLines decls next rest after

-- input k is the first for which nothing was given
pub record IsFirstMissing (decls : List InputDecl) (given : Given) (k : ℕ) (decl : InputDecl) : Type 0 where
  pub declared : slice_get decls k ≡ Some decl
  pub missing : slice_get given k ≡ Some None
  pub first : (j : ℕ) → j < k → slice_get given j ≢ Some None

-- the first line that is refused, counted from 1, or else the first input that was not given
pub data IsRefused (decls : List InputDecl) (all : List (List ℕ)) (answer : InputAnswer) : Type 0 where
  line_refused : (before : List (List ℕ)) (line : List ℕ) (behind : List (List ℕ)) (given : Given) → all ≡ before ++ line ∷ behind
      → TakesLines decls (nothing_given decls) before given → RefusesLine decls given line (length before + 1) answer → IsRefused decls all answer
  input_missing : (given : Given) (k : ℕ) (decl : InputDecl) → TakesLines decls (nothing_given decls) all given → IsFirstMissing decls given k decl
      → answer ≡ MissingInput decl.name → IsRefused decls all answer

-- the reading of a text: the lists of all inputs in order, or why there are none. Its `lines` stand before each line feed, less a
-- carriage return right before it, and behind the last line feed, if anything does
abbrev pub ReadsInputs : List ℕ → List InputDecl → Result (List (List Value)) InputAnswer → Type 0
ReadsInputs text decls (Ok lists) = TakesLines decls (nothing_given decls) (lines text) (map (λ values. Some values) lists)
ReadsInputs text decls (Err answer) = IsRefused decls (lines text) answer

-- no two of the inputs have one name
pub record HaveOwnNames (decls : List InputDecl) : Type 0 where
  pub differ : (j k : ℕ) (d e : InputDecl) → slice_get decls j ≡ Some d → slice_get decls k ≡ Some e → d.name ≡ e.name → j ≡ k
