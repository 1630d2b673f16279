-- The first line that is wrong in a text that no list of cells has.
use Rattle.std.specs.Prelude.{◌≡◌, ◌+◌, ◌==◌, ℕ, not, List, [], ◌∷◌, ◌++◌, All, IsTrue, length}
use Rattle.std.specs.List.{flat_map, list_all}
use Rattle.df_cells.specs.declared.cells.Cell.{Cell}
use Rattle.df_celltext.specs.declared.reader.CellTextAnswer.{CellTextAnswer}
use Rattle.df_celltext.specs.declared.reader.CellTextAnswer.TheVariants.{BadCellText, Memory}
use Rattle.df_celltext.specs.declared.words.LineAnswer.{LineAnswer}
use Rattle.df_celltext.specs.declared.words.LineAnswer.TheVariants as line_answer
use Rattle.df_celltext.specs.declared.version.Version.{Version}
use Rattle.df_celltext.specs.declared.version.Version.TheVariants.{Two}
use Rattle.df_celltext.specs.Writable.{IsTextIn}

-- lines, each with a line feed at its end
abbrev pub with_feeds : List (List ℕ) → List ℕ
with_feeds lines = flat_map (λ line. line ++ 10 ∷ []) lines

-- no line feed stands in it
abbrev pub IsLine : List ℕ → Type 0
IsLine line = IsTrue (list_all (λ b. not (b == 10)) line)

-- the text of some list begins with these lines
abbrev pub CanBegin : Version → List (List ℕ) → Type 0
CanBegin version lines = (cells : List Cell) × (rest : List ℕ) × IsTextIn version (with_feeds lines ++ rest) cells

-- No list has the text in the version, and line n is the first that no text of a list can have which begins with the lines before it. A line that
-- is cut off before its line feed is such a line, and so is the one that is missing where the text ends too soon.
pub record FirstWrongLineIn (version : Version) (text : List ℕ) (n : ℕ) : Type 0 where
  -- the lines before it, and what follows them
  pub before : List (List ℕ)
  pub rest : List ℕ
  pub parts : text ≡ with_feeds before ++ rest
  pub whole : All IsLine before
  pub number : n ≡ length before + 1
  pub possible : CanBegin version before
  -- where a whole line follows, no text begins with it too
  pub wrong : (line later : List ℕ) → IsLine line → rest ≡ line ++ 10 ∷ later → ¬ CanBegin version (before ++ line ∷ [])
  pub no_text : (cells : List Cell) → ¬ IsTextIn version text cells

-- the same of the version that is written
abbrev pub FirstWrongLine : List ℕ → ℕ → Type 0
FirstWrongLine text n = FirstWrongLineIn Two text n

-- the line at which the words were wrong
abbrev pub answer_at : LineAnswer → ℕ → CellTextAnswer
answer_at line_answer.Wrong n = BadCellText n
answer_at line_answer.Memory n = Memory

-- what a refusal says of the text
abbrev pub ShowsWrong : Version → List ℕ → CellTextAnswer → Type 0
ShowsWrong version text (BadCellText n) = FirstWrongLineIn version text n
ShowsWrong version text Memory = Unit {0}
