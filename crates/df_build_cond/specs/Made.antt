-- What a cell has by itself: ports and runs as its kind asks, an arc where it waits for one, and a length that is
-- allowed.
use Rattle.std.specs.Prelude.{◌≡◌, ◌≤◌, ◌<◌, ◌⊎◌, ◌+ℤ◌, pos, ℕ, ℤ, true, false, List, length, slice_get, Some, None}
use Rattle.std.specs.List.{AllByRecursion}
use Rattle.df_values.specs.Values.{IsOrdinary}
use Rattle.df_cells.specs.declared.cells.CellId.{CellId}
use Rattle.df_cells.specs.declared.cells.Feed.{Feed}
use Rattle.df_cells.specs.declared.kinds.Kind.TheVariants as kind
use Rattle.df_cells.specs.Families.{family}
use Rattle.df_cells.specs.Kinds.{port_count, source_length, limit, HasCanonicalRuns, is_buffer}
use Rattle.df_cells.specs.Cells.{cell_from, loaded_from}
use Rattle.df_cells.specs.WellFormed.{is_controlled}
use Rattle.df_labels.specs.Graphs.{Node, Graph}

-- an arc feeds port p
abbrev pub IsFed : ℕ → List Feed → Type 0
IsFed p ports = (u : CellId) × (cell_from (slice_get ports p) ≡ Some u)

-- n indices from lo on are ordinary integers
abbrev pub AreOrdinary : ℤ → ℕ → Type 0
AreOrdinary lo n = (j : ℕ) → j < n → IsOrdinary (lo +ℤ pos j)

pub record IsMade (node : Node) : Type 0 where
  pub ports : length node.ports ≡ port_count node.kind
  pub runs : HasCanonicalRuns node.kind
  pub plain : is_buffer node.kind ≡ false
  -- nothing lies at a port before the run
  pub unloaded : (p : ℕ) → loaded_from (slice_get node.ports p) ≡ None
  -- an arc feeds one of the first two ports of a cell that is no source, and the first of one that has a control
  pub some : source_length node.kind ≡ None → IsFed 0 node.ports ⊎ IsFed 1 node.ports
  pub control : is_controlled (family node.kind) ≡ true → IsFed 0 node.ports
  pub short : (n : ℕ) → limit node.kind ≡ Some n → n ≤ 65536
  pub ordinary : (lo : ℤ) (n : ℕ) → node.kind ≡ kind.Idx lo n → AreOrdinary lo n

abbrev pub AreMade : Graph → Type 0
AreMade graph = AllByRecursion IsMade graph
