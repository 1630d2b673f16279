-- The text of a list of cells: a first line with their number, a line for each cell, and a last line.
use Rattle.std.specs.Prelude.{ℕ, ◌+◌, List, [], ◌∷◌, ◌++◌, map, length, codes}
use Rattle.std.specs.List.{flat_map}
use Rattle.std.specs.Fmt.{decimal, signed_decimal}
use Rattle.df_values.specs.Spelling.{spelled}
use Rattle.df_values.specs.declared.values.Basic.{Basic}
use Rattle.df_values.specs.declared.values.Basic.TheVariants as basic
use Rattle.df_cells.specs.declared.cells.Cell.{Cell}
use Rattle.df_cells.specs.declared.kinds.Run.{Run}
use Rattle.df_cells.specs.declared.cells.Dest.{Dest}
use Rattle.df_cells.specs.declared.cells.Feed.{Feed}
use Rattle.df_cells.specs.declared.cells.Feed.TheVariants.{Arc, Constant, Loaded}
use Rattle.df_cells.specs.declared.kinds.Kind.{Kind}
use Rattle.df_cells.specs.declared.kinds.Kind.TheVariants as kind
use Rattle.df_celltext.specs.declared.version.Version.{Version}
use Rattle.df_celltext.specs.declared.version.Version.TheVariants.{Two}
use Rattle.df_celltext.specs.Versions.{version_word}

abbrev pub spelled_basic : Basic → List ℕ
spelled_basic basic.Integer = codes "integer"
spelled_basic basic.Boolean = codes "boolean"

-- words with a space before each
abbrev pub spaced : List (List ℕ) → List ℕ
spaced words = flat_map (λ word. codes " " ++ word) words

-- a run as COUNT*VALUE, a port as @CELL, =VALUE or @CELL!VALUE, a destination as CELL.PORT
abbrev pub run_word : Run → List ℕ
run_word r = decimal r.count ++ codes "*" ++ spelled r.value

abbrev pub port_word : Feed → List ℕ
port_word (Arc u) = codes "@" ++ decimal u.0
port_word (Constant v) = codes "=" ++ spelled v
port_word (Loaded u v) = codes "@" ++ decimal u.0 ++ codes "!" ++ spelled v

abbrev pub dest_word : Dest → List ℕ
dest_word d = decimal d.cell.0 ++ codes "." ++ decimal d.port.0

-- the kind's name and what goes with it
abbrev pub kind_words : Kind → List (List ℕ)
kind_words (kind.In name basic n) = codes "IN" ∷ name ∷ spelled_basic basic ∷ decimal n ∷ []
kind_words (kind.Idx lo n) = codes "IDX" ∷ signed_decimal lo ∷ decimal n ∷ []
kind_words (kind.Ctl runs) = codes "CTL" ∷ map run_word runs
kind_words (kind.Out k n) = codes "OUT" ∷ decimal k ∷ decimal n ∷ []
kind_words kind.Buf = codes "BUF" ∷ []
kind_words kind.Add = codes "ADD" ∷ []
kind_words kind.Sub = codes "SUB" ∷ []
kind_words kind.Mul = codes "MUL" ∷ []
kind_words kind.Div = codes "DIV" ∷ []
kind_words kind.Mod = codes "MOD" ∷ []
kind_words kind.Min = codes "MIN" ∷ []
kind_words kind.Max = codes "MAX" ∷ []
kind_words kind.Lt = codes "LT" ∷ []
kind_words kind.Le = codes "LE" ∷ []
kind_words kind.Gt = codes "GT" ∷ []
kind_words kind.Ge = codes "GE" ∷ []
kind_words kind.Eq = codes "EQ" ∷ []
kind_words kind.Ne = codes "NE" ∷ []
kind_words kind.And = codes "AND" ∷ []
kind_words kind.Or = codes "OR" ∷ []
kind_words kind.Neg = codes "NEG" ∷ []
kind_words kind.Not = codes "NOT" ∷ []
kind_words kind.IsUndef = codes "IS_UNDEF" ∷ []
kind_words kind.IsMissElt = codes "IS_MISS_ELT" ∷ []
kind_words kind.IsPosOver = codes "IS_POS_OVER" ∷ []
kind_words kind.IsNegOver = codes "IS_NEG_OVER" ∷ []
kind_words kind.IsUnknown = codes "IS_UNKNOWN" ∷ []
kind_words kind.IsZeroDivide = codes "IS_ZERO_DIVIDE" ∷ []
kind_words kind.IsError = codes "IS_ERROR" ∷ []
kind_words kind.Tgate = codes "TGATE" ∷ []
kind_words kind.Fgate = codes "FGATE" ∷ []
kind_words kind.Merge = codes "MERGE" ∷ []

-- NUMBER KIND ARGS stage STAGE loop MARK ports PORTS dests DESTS
abbrev pub cell_line : ℕ → Cell → List ℕ
cell_line number cell =
    decimal number ++ spaced (kind_words cell.kind)
    ++ codes " stage " ++ decimal cell.stage ++ codes " loop " ++ decimal cell.mark
    ++ codes " ports" ++ spaced (map port_word cell.ports)
    ++ codes " dests" ++ spaced (map dest_word cell.dests) ++ codes "\n"

abbrev pub cell_lines : ℕ → List Cell → List ℕ
cell_lines number [] = []
cell_lines number (cell ∷ cells) = cell_line number cell ++ cell_lines (number + 1) cells

abbrev pub version_text : Version → List Cell → List ℕ
version_text version cells = codes "dataflow " ++ version_word version ++ codes " " ++ decimal (length cells) ++ codes "\n" ++ cell_lines 0 cells ++ codes "end\n"

-- the text that is written, of version 2
abbrev pub cell_text : List Cell → List ℕ
cell_text cells = version_text Two cells
