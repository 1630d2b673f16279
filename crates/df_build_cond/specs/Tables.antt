-- Tables of what was noted, as functions.
use Rattle.std.specs.Prelude.{ℕ, Option, Some, None}
use Rattle.std.specs.Ordering.{nat_cmp}
use Rattle.std.specs.BTreeMap.{get}
use Rattle.df_build_cond.specs.Noted.{Noted, entry_in}
use Rattle.df_build_cond.specs.declared.tables.Table.{Table}

abbrev pub else_at : Option ℕ → Option ℕ → Option ℕ
else_at (Some cell) other = Some cell
else_at None other = other

-- what is noted at each number in a table: in its rows, or else in its map
unfoldable pub table_of : Table → Noted
table_of table = λ number. else_at (entry_in table.rows number) (get nat_cmp table.others number)
