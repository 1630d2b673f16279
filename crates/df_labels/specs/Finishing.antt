-- Cells of a graph while a builder makes them well-formed.
use Rattle.std.specs.Prelude.{◌≡◌, ◌<◌, ◌≤◌, ℕ, false, List, [], get_or, length, Some}
use Rattle.df_cells.specs.declared.cells.CellId.{CellId}
use Rattle.df_cells.specs.declared.cells.Cell.{Cell}
use Rattle.df_cells.specs.Cells.{cell_at, is_buf, port_of, producer_of}
use Rattle.df_wellformed.specs.Cursors.{ListsBefore}

-- no cell is a BUF
abbrev pub HasNoBuffers : List Cell → Type 0
HasNoBuffers cells = (c : ℕ) → c < length cells → is_buf cells c ≡ false

-- each arc comes from a cell of the list
abbrev pub ArcsWithin : List Cell → Type 0
ArcsWithin cells = (c p : ℕ) (u : CellId) → producer_of cells (port_of c p) ≡ Some u → u.0 < length cells

-- cells that have only their kinds and feeds so far
pub record AreBare (cells : List Cell) : Type 0 where
  pub stage : (c : ℕ) → (cell_at cells c).stage ≡ 0
  pub dests : (c : ℕ) → (cell_at cells c).dests ≡ []

-- the cell without its destinations
abbrev pub without_dests : Cell → Cell
without_dests cell = record cell { dests = [] }

-- the same cells but for destinations
pub record SameButDests (old new : List Cell) : Type 0 where
  pub count : length new ≡ length old
  pub each : (c : ℕ) → without_dests (cell_at new c) ≡ without_dests (cell_at old c)

-- each cell lists the ports before port p of the cell v that it feeds, in order
pub record ListsSoFar (old : List Cell) (v p : ℕ) (new : List Cell) : Type 0 where
  pub same : SameButDests old new
  pub dests : (u : ℕ) → ListsBefore new v p u (length (cell_at new u).dests)

-- the same cells but for the marks of the first n, which are these
pub record MarkedSoFar (old : List Cell) (marks : List ℕ) (n : ℕ) (new : List Cell) : Type 0 where
  pub count : length new ≡ length old
  pub marked : (c : ℕ) → c < n → cell_at new c ≡ record (cell_at old c) { mark = get_or marks c 0 }
  pub others : (c : ℕ) → n ≤ c → cell_at new c ≡ cell_at old c

-- the same cells but for stage and destinations of the first n, which have none
pub record ClearedSoFar (old : List Cell) (n : ℕ) (new : List Cell) : Type 0 where
  pub count : length new ≡ length old
  pub cleared : (c : ℕ) → c < n → cell_at new c ≡ record (cell_at old c) { stage = 0; dests = [] }
  pub others : (c : ℕ) → n ≤ c → cell_at new c ≡ cell_at old c
