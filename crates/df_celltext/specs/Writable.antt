-- What a list of cells has to be so that it has a text.
use Rattle.std.specs.Prelude.{◌≡◌, ◌≤◌, ◌&&◌, ◌||◌, ◌==◌, ℕ, Bool, false, List, [], ◌∷◌, All, IsTrue, length, nat_le}
use Rattle.std.specs.List.{list_all}
use Rattle.df_values.specs.Values.{IsOrdinary, IsValue}
use Rattle.df_cells.specs.declared.cells.Cell.{Cell}
use Rattle.df_cells.specs.declared.cells.InputDecl.{InputDecl}
use Rattle.df_cells.specs.declared.cells.Dest.{Dest}
use Rattle.df_cells.specs.declared.cells.Feed.{Feed}
use Rattle.df_cells.specs.declared.cells.Feed.TheVariants.{Arc, Constant, Loaded}
use Rattle.df_cells.specs.declared.kinds.Kind.{Kind}
use Rattle.df_cells.specs.declared.kinds.Kind.TheVariants as kind
use Rattle.df_cells.specs.declared.kinds.Run.{Run}
use Rattle.df_cells.specs.Cells.{AreCells, inputs_of}
use Rattle.df_celltext.specs.declared.version.Version.{Version}
use Rattle.df_celltext.specs.declared.version.Version.TheVariants.{Two}
use Rattle.df_celltext.specs.Versions.{has_cell}
use Rattle.df_celltext.specs.CellText.{version_text}

-- ---- names

abbrev pub between : ℕ → ℕ → ℕ → Bool
between low high b = nat_le low b && nat_le b high

-- from A to Z or from a to z
abbrev pub is_letter : ℕ → Bool
is_letter b = between 65 90 b || between 97 122 b

-- a letter, a digit or _
abbrev pub is_name_byte : ℕ → Bool
is_name_byte b = is_letter b || (between 48 57 b || b == 95)

-- a letter, and then letters, digits and _: at most 64 bytes in all
abbrev pub is_name : List ℕ → Bool
is_name [] = false
is_name (b ∷ more) = is_letter b && (list_all is_name_byte more && nat_le (length (b ∷ more)) 64)

-- a kind that declares an input declares it under a name
abbrev pub IsNamed : Kind → Type 0
IsNamed (kind.In name basic n) = IsTrue (is_name name)
IsNamed _ = Unit {0}

-- the names of the inputs that the cells declare are names
abbrev pub HaveNames : List Cell → Type 0
HaveNames cells = All (λ (decl : InputDecl). IsTrue (is_name decl.name)) (inputs_of cells)

-- ---- numbers

-- a stage, a mark, a cell, a result, a length or a count
abbrev pub IsCount : ℕ → Type 0
IsCount n = n ≤ 4294967295

abbrev pub IsWritableRun : Run → Type 0
IsWritableRun r = IsCount r.count × IsValue r.value

abbrev pub IsWritableKind : Kind → Type 0
IsWritableKind (kind.In name basic n) = IsTrue (is_name name) × IsCount n
IsWritableKind (kind.Idx lo n) = IsOrdinary lo × IsCount n
IsWritableKind (kind.Ctl runs) = All IsWritableRun runs
IsWritableKind (kind.Out k n) = IsCount k × IsCount n
IsWritableKind _ = Unit {0}

abbrev pub IsWritableFeed : Feed → Type 0
IsWritableFeed (Arc u) = IsCount u.0
IsWritableFeed (Constant v) = IsValue v
IsWritableFeed (Loaded u v) = IsCount u.0 × IsValue v

abbrev pub IsWritableDest : Dest → Type 0
IsWritableDest d = IsCount d.cell.0 × (d.port.0 ≤ 255)

-- ---- cells

-- its name is a name, and its numbers are within their limits
pub record IsWritableCell (cell : Cell) : Type 0 where
  pub kind : IsWritableKind cell.kind
  pub stage : IsCount cell.stage
  pub mark : IsCount cell.mark
  pub ports : All IsWritableFeed cell.ports
  pub dests : All IsWritableDest cell.dests

-- all of it can be written in the version
pub record IsWritableIn (version : Version) (cells : List Cell) : Type 0 where
  pub shaped : AreCells cells
  pub each : All IsWritableCell cells
  pub has : All (λ cell. IsTrue (has_cell version cell)) cells

-- the text is that of the list in the version
abbrev pub IsTextIn : Version → List ℕ → List Cell → Type 0
IsTextIn version text cells = IsWritableIn version cells × (text ≡ version_text version cells)

-- the text is that of the list
abbrev pub IsTextOf : List ℕ → List Cell → Type 0
IsTextOf text cells = IsTextIn Two text cells
