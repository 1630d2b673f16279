-- The versions of the form of cell files: how the first line names one, and which cells it can write.
use Rattle.std.specs.Prelude.{ℕ, ℤ, pos, negsuc, int_lt, not, Bool, true, false, ◌&&◌, List, codes}
use Rattle.std.specs.List.{list_all}
use Rattle.df_values.specs.declared.values.Value.{Value}
use Rattle.df_values.specs.declared.values.Value.TheVariants.{Int}
use Rattle.df_cells.specs.declared.cells.Cell.{Cell}
use Rattle.df_cells.specs.declared.cells.Feed.{Feed}
use Rattle.df_cells.specs.declared.cells.Feed.TheVariants.{Arc, Constant, Loaded}
use Rattle.df_cells.specs.declared.kinds.Kind.{Kind}
use Rattle.df_cells.specs.declared.kinds.Kind.TheVariants as kind
use Rattle.df_celltext.specs.declared.version.Version.{Version}
use Rattle.df_celltext.specs.declared.version.Version.TheVariants.{One, Two}

abbrev pub version_word : Version → List ℕ
version_word One = codes "1"
version_word Two = codes "2"

-- version 1 has the numbers of 32 bits, and version 2 all ordinary integers
abbrev pub has_number : Version → ℤ → Bool
has_number One z = not (int_lt z (negsuc 2147483647)) && not (int_lt (pos 2147483647) z)
has_number Two z = true

abbrev pub has_value : Version → Value → Bool
has_value version (Int z) = has_number version z
has_value version _ = true

-- whether a port may have a loaded value
abbrev pub has_loads : Version → Bool
has_loads One = false
has_loads Two = true

abbrev pub has_feed : Version → Feed → Bool
has_feed version (Arc u) = true
has_feed version (Constant v) = has_value version v
has_feed version (Loaded u v) = has_loads version && has_value version v

abbrev pub has_kind : Version → Kind → Bool
has_kind version (kind.Idx lo n) = has_number version lo
has_kind version (kind.Ctl runs) = list_all (λ r. has_value version r.value) runs
has_kind version _ = true

-- whether the version can write all that the cell has
unfoldable pub has_cell : Version → Cell → Bool
has_cell version cell = has_kind version cell.kind && list_all (has_feed version) cell.ports
