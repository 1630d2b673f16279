-- What the reading of a source gives: the tree of an accepted program, whose names and types, form and sizes are right, or the line of its refusal.
use Rattle.std.specs.Prelude.{◌≡◌, ◌≤◌, ◌<◌, ℕ, List, [], ◌++◌, codes, Some, None, Result, Ok, Err}
use Rattle.std.specs.Fmt.{decimal}
use Rattle.df_io.specs.declared.place.Place.{Place}
use Rattle.df_grammar.specs.declared.parser.ParseAnswer.{ParseAnswer}
use Rattle.df_grammar.specs.declared.parser.ParseAnswer.TheVariants as parse
use Rattle.df_syntax.specs.declared.program.Program.{Program}
use Rattle.df_syntax.specs.TokenList.{TokenList}
use Rattle.df_syntax.specs.Tokens.{Splits, FirstBad, LexFault, no_token, literal_too_large, name_too_long}
use Rattle.df_syntax.specs.Refusals.{IsSource, IsWrongAt, IsUnsupportedAt, IsTooDeepAt}
use Rattle.df_types.specs.declared.answers.CheckAnswer.{CheckAnswer}
use Rattle.df_types.specs.declared.answers.CheckAnswer.TheVariants as check
use Rattle.df_syntax.specs.Demands.{first_refusal}
use Rattle.df_syntax.specs.declared.form.Form.{Form}
use Rattle.df_syntax.specs.declared.form.Form.TheVariants as form
use Rattle.df_syntax.specs.declared.piped.Piped.{Piped}
use Rattle.df_core.specs.declared.flat.Flat.{Flat}
use Rattle.df_types.specs.Sources.{demands}
use Rattle.df_shape.specs.declared.answers.ShapeAnswer.{ShapeAnswer}
use Rattle.df_shape.specs.declared.answers.ShapeAnswer.TheVariants as shape
use Rattle.df_shape.specs.Answers.{IsShaped}
use Rattle.df_shape.specs.Shaped.{shaped}
use Rattle.df_shape.specs.Sources.{demands as form_demands}
use Rattle.df_inline.specs.declared.size.Size.{Size}
use Rattle.df_flattened.specs.Flattened.{flattened}
use Rattle.df_inline.specs.Sizes.{piped_size}
use Rattle.df_build_elem.specs.Program.{census}
use Rattle.df_compile.specs.Compiled.{most_skeleton_cells, IsOverfull}
use Rattle.df_commands.specs.Lines.{refusal}
use Rattle.df_commands.specs.Texts.{and_word}

-- a place behind a word, as LINE:COLUMN
abbrev pub and_place : Place → List ℕ
and_place place = and_word (decimal place.line ++ (codes ":" ++ decimal place.column))

-- ---- tokens

abbrev pub fault_word : LexFault → List ℕ
fault_word no_token = codes "BadByte"
fault_word literal_too_large = codes "LiteralTooLarge"
fault_word name_too_long = codes "NameTooLong"

-- the text doesn't fall into tokens, and this is its first bad place
pub record HasNoTokens (text line : List ℕ) : Type 0 where
  pub fault : LexFault
  pub place : Place
  pub says : line ≡ refusal (fault_word fault ++ and_place place)
  pub first : FirstBad text place fault

-- ---- trees

-- the tokens are no source that is taken, and this line says why
pub data IsNoSource (list : TokenList) (line : List ℕ) : Type 0 where
  syntax : (place : Place) → IsWrongAt list place → line ≡ refusal (codes "Syntax" ++ and_place place) → IsNoSource list line
  unsupported : (name : List ℕ) (place : Place) → IsUnsupportedAt list name place
      → line ≡ refusal (codes "Unsupported" ++ (and_word name ++ and_place place)) → IsNoSource list line
  too_deep : (place : Place) → IsTooDeepAt list place → line ≡ refusal (codes "TooDeep" ++ and_place place) → IsNoSource list line

-- ---- names and types

-- why a tree is refused; want of memory refuses nothing
abbrev pub check_reason : CheckAnswer → List ℕ
check_reason (check.UnknownName name place) = codes "UnknownName" ++ (and_word name ++ and_place place)
check_reason (check.NameTwice name place) = codes "NameTwice" ++ (and_word name ++ and_place place)
check_reason (check.WrongType place) = codes "WrongType" ++ and_place place
check_reason (check.WrongArity place) = codes "WrongArity" ++ and_place place
check_reason (check.BadRange name place) = codes "BadRange" ++ (and_word name ++ and_place place)
check_reason check.Memory = []

-- a demand on names or types fails, and this is the first
pub record FailsDemand (tree : Program) (line : List ℕ) : Type 0 where
  pub answer : CheckAnswer
  pub says : line ≡ refusal (check_reason answer)
  pub first : first_refusal (demands tree) ≡ Some answer

-- ---- the form

-- the word of a rule on the form
abbrev pub form_word : Form → List ℕ
form_word form.ArrayParameter = codes "array-parameter"
form_word form.Block = codes "block"
form_word form.ArrayIf = codes "array-if"
form_word form.ArrayDefinition = codes "array-definition"
form_word form.ArrayValue = codes "array-value"
form_word form.Recurrence = codes "recurrence"
form_word form.Subscript = codes "subscript"

-- why a tree has not the form; want of memory refuses nothing
abbrev pub shape_reason : ShapeAnswer → List ℕ
shape_reason (shape.LaterFunction name place) = codes "LaterFunction" ++ (and_word name ++ and_place place)
shape_reason (shape.NotManifest place) = codes "NotManifest" ++ and_place place
shape_reason (shape.RangeTooLong place) = codes "RangeTooLong" ++ and_place place
shape_reason (shape.EmptyReduce place) = codes "EmptyReduce" ++ and_place place
shape_reason (shape.NotPiped rule place) = codes "NotPiped" ++ (and_word (form_word rule) ++ and_place place)
shape_reason shape.Memory = []

-- a demand on the form fails, and this is the first
pub record FailsForm (tree : Program) (line : List ℕ) : Type 0 where
  pub answer : ShapeAnswer
  pub says : line ≡ refusal (shape_reason answer)
  pub first : first_refusal (form_demands tree) ≡ Some answer

-- ---- sizes

-- of the program in blocks, as a flat program
abbrev pub most_nodes : ℕ
most_nodes = 20_000

abbrev pub most_brackets : ℕ
most_brackets = 256

-- the size is within the limits
pub record IsSmall (size : Size) : Type 0 where
  pub nodes : size.nodes ≤ most_nodes
  pub brackets : size.brackets ≤ most_brackets

-- the size is over a limit; nodes come before brackets
pub data IsOver (size : Size) (line : List ℕ) : Type 0 where
  too_large : most_nodes < size.nodes → line ≡ refusal (codes "TooLarge") → IsOver size line
  too_tall : size.nodes ≤ most_nodes → most_brackets < size.brackets → line ≡ refusal (codes "TooTall") → IsOver size line

-- ---- how many cells

-- the flat program of a tree
abbrev pub flat_of : Program → Flat
flat_of tree = flattened (shaped tree)

-- its skeleton has too many cells
pub record IsOverbuilt (flat : Flat) (line : List ℕ) : Type 0 where
  pub more : most_skeleton_cells < census flat
  pub says : line ≡ refusal (codes "TooManySkeletonCells" ++ and_word (decimal (census flat)))

-- ---- accepted programs

-- names and types are right, and so are the form and the sizes
pub record IsSized (tree : Program) : Type 0 where
  pub named : first_refusal (demands tree) ≡ None
  pub formed : first_refusal (form_demands tree) ≡ None
  pub within : IsSmall (piped_size (shaped tree))

-- and the cells of the skeleton are few enough
pub record IsAccepted (tree : Program) : Type 0 where
  pub sized : IsSized tree
  pub few : census (flat_of tree) ≤ most_skeleton_cells

-- the tree is not accepted, and this line says of the first that is wrong why
pub data IsNotAccepted (tree : Program) (line : List ℕ) : Type 0 where
  misnamed : FailsDemand tree line → IsNotAccepted tree line
  misshapen : first_refusal (demands tree) ≡ None → FailsForm tree line → IsNotAccepted tree line
  oversized : first_refusal (demands tree) ≡ None → first_refusal (form_demands tree) ≡ None → IsOver (piped_size (shaped tree)) line → IsNotAccepted tree line
  overbuilt : IsSized tree → IsOverbuilt (flat_of tree) line → IsNotAccepted tree line

-- ---- sources

-- the text falls into these tokens
abbrev pub HasTokens : List ℕ → TokenList → Type 0
HasTokens text list = Splits text list.tokens list.end

-- the text is that of this tree
pub record IsTextOfTree (text : List ℕ) (tree : Program) : Type 0 where
  pub list : TokenList
  pub tokens : HasTokens text list
  pub source : IsSource list tree

pub data IsRefusedSource (text line : List ℕ) : Type 0 where
  no_tokens : HasNoTokens text line → IsRefusedSource text line
  no_source : (list : TokenList) → HasTokens text list → IsNoSource list line → IsRefusedSource text line
  not_accepted : (tree : Program) → IsTextOfTree text tree → IsNotAccepted tree line → IsRefusedSource text line

abbrev pub ReadsProgram : List ℕ → Result Program (List ℕ) → Type 0
ReadsProgram text (Ok tree) = IsTextOfTree text tree × IsAccepted tree
ReadsProgram text (Err line) = IsRefusedSource text line

-- a text is no accepted source, or that of one whose cells with all BUF cells are too many
pub data IsNotCompilable (text line : List ℕ) : Type 0 where
  unread : IsRefusedSource text line → IsNotCompilable text line
  overfull : (tree : Program) → IsTextOfTree text tree → IsAccepted tree → IsOverfull (flat_of tree) → line ≡ refusal (codes "TooManyCells") → IsNotCompilable text line

abbrev pub ReadsCompilable : List ℕ → Result Program (List ℕ) → Type 0
ReadsCompilable text (Ok tree) = ReadsProgram text (Ok tree) × ¬ IsOverfull (flat_of tree)
ReadsCompilable text (Err line) = IsNotCompilable text line

-- ---- the steps of that reading

-- why tokens are refused; want of memory refuses nothing
abbrev pub parse_reason : ParseAnswer → List ℕ
parse_reason (parse.Syntax place) = codes "Syntax" ++ and_place place
parse_reason (parse.TooDeep place) = codes "TooDeep" ++ and_place place
parse_reason (parse.Unsupported name place) = codes "Unsupported" ++ (and_word name ++ and_place place)
parse_reason parse.Memory = []

abbrev pub ReadsTokens : List ℕ → Result TokenList (List ℕ) → Type 0
ReadsTokens text (Ok list) = HasTokens text list
ReadsTokens text (Err line) = HasNoTokens text line

abbrev pub ReadsTree : TokenList → Result Program (List ℕ) → Type 0
ReadsTree list (Ok tree) = IsSource list tree
ReadsTree list (Err line) = IsNoSource list line

abbrev pub MeetsDemands : Program → Result Unit (List ℕ) → Type 0
MeetsDemands tree (Ok done) = first_refusal (demands tree) ≡ None
MeetsDemands tree (Err line) = FailsDemand tree line

abbrev pub ReadsBlocks : Program → Result Piped (List ℕ) → Type 0
ReadsBlocks tree (Ok piped) = IsShaped tree piped
ReadsBlocks tree (Err line) = FailsForm tree line

abbrev pub ReadsFlat : Piped → Result Flat (List ℕ) → Type 0
ReadsFlat piped (Ok flat) = (flat ≡ flattened piped) × IsSmall (piped_size piped)
ReadsFlat piped (Err line) = IsOver (piped_size piped) line

abbrev pub ReadsFew : Flat → Result Unit (List ℕ) → Type 0
ReadsFew flat (Ok done) = census flat ≤ most_skeleton_cells
ReadsFew flat (Err line) = IsOverbuilt flat line
