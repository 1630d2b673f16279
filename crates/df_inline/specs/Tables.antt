-- What a table knows of functions.
use Rattle.std.specs.Prelude.{ℕ, ◌≡◌, ◌+◌, ◌<◌, ◌≤◌, true, false, List, length, get_or, Option, Some, None, bytes_eq}
use Rattle.df_names.specs.Found.{names_of}
use Rattle.df_syntax.specs.declared.program.Function.{Function}
use Rattle.df_syntax.specs.Meaning.{Name}
use Rattle.df_inline.specs.declared.size.Size.{Size}
use Rattle.df_inline.specs.declared.table.Entry.{Entry}
use Rattle.df_inline.specs.declared.table.Table.{Table}
use Rattle.df_inline.specs.Sizes.{nothing}

-- what a table has for a name
unfoldable pub entry_in : Table → Name → Option Entry
entry_in table = names_of table.entries

abbrev pub entry_size : Option Entry → Size
entry_size None = nothing
entry_size (Some entry) = entry.size

abbrev pub entry_place : Option Entry → Option ℕ
entry_place None = None
entry_place (Some entry) = Some entry.place

-- a size; nothing where the table has nothing for a name
abbrev pub size_in : Table → Name → Size
size_in table name = entry_size (entry_in table name)

abbrev pub place_in : Table → Name → Option ℕ
place_in table name = entry_place (entry_in table name)

-- no function from a place on has this name
abbrev pub NoneFrom : List Function → ℕ → Name → Type 0
NoneFrom functions start name = (i : ℕ) (f : Function) → start ≤ i → i < length functions → f ≡ get_or functions i f → bytes_eq f.name.name name ≡ false

-- the function at a place is the last one of this name
pub record IsLastAt (functions : List Function) (name : Name) (place : ℕ) : Type 0 where
  pub function : Function
  pub at : function ≡ get_or functions place function
  pub named : bytes_eq function.name.name name ≡ true
  pub last : NoneFrom functions (place + 1) name

-- the place is that of the last function of this name
abbrev pub IsLast : List Function → Name → Option ℕ → Type 0
IsLast functions name None = NoneFrom functions 0 name
IsLast functions name (Some place) = (place < length functions) × IsLastAt functions name place

-- the table has the last functions of all names
abbrev pub HasAll : List Function → Table → Type 0
HasAll functions table = (name : Name) → IsLast functions name (place_in table name)

-- the same where the place is that of one of these functions; otherwise the table may know a later one
abbrev pub IsKnown : List Function → Name → Option ℕ → Type 0
IsKnown functions name None = NoneFrom functions 0 name
IsKnown functions name (Some place) = place < length functions → IsLastAt functions name place

abbrev pub Knows : List Function → Table → Type 0
Knows functions table = (name : Name) → IsKnown functions name (place_in table name)
