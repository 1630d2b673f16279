-- What is known of finished cells of which the graph is a skeleton.
use Rattle.std.specs.Prelude.{◌≡◌, ◌⊎◌, ◌≤◌, ◌<◌, ℕ, false, List, length, Some}
use Rattle.df_cells.specs.Cells.{inputs_of, outputs, is_buf, producer_of}
use Rattle.df_cells.specs.Paths.{HasMarks}
use Rattle.df_cells.specs.Shifts.{controls, gate_part, merge_part}
use Rattle.df_cells.specs.WellFormed.{NamesWithin, ListsItsArcs, WellFormed}
use Rattle.df_cells.specs.declared.cells.Cell.{Cell}
use Rattle.df_cells.specs.declared.cells.CellId.{CellId}
use Rattle.df_cells.specs.declared.cells.Dest.{Dest}
use Rattle.df_labels.specs.Graphs.{graph_of}
use Rattle.df_core.specs.Within.{IsFlat}
use Rattle.df_core.specs.declared.flat.Flat.{Flat}
use Rattle.df_build_cond.specs.Orderly.{AreNeverFalse}
use Rattle.df_build_elem.specs.Program.{declared_inputs, program_graph}

-- the cells of a skeleton, with destinations in order and right marks
pub record IsFinished (flat : Flat) (cells : List Cell) : Type 0 where
  pub graph : graph_of cells ≡ program_graph flat
  pub port : (c : ℕ) → c < length cells → NamesWithin cells c
  pub dest : (c : ℕ) → c < length cells → ListsItsArcs cells c
  pub loop : HasMarks cells

pub record SkeletonsAreWellFormed : Type 0 where
  pub well_formed : (flat : Flat) (cells : List Cell) → IsFlat flat → IsFinished flat cells → length cells ≤ 4096
      → WellFormed cells
  pub plain : (flat : Flat) (cells : List Cell) → IsFlat flat → graph_of cells ≡ program_graph flat
      → (c : ℕ) → c < length cells → is_buf cells c ≡ false
  pub inputs : (flat : Flat) (cells : List Cell) → IsFlat flat → graph_of cells ≡ program_graph flat
      → inputs_of cells ≡ declared_inputs flat
  pub outputs : (flat : Flat) (cells : List Cell) → IsFlat flat → graph_of cells ≡ program_graph flat
      → outputs cells ≡ length flat.results

-- ---- zones

-- the arc within a zone from u to the port d: forward without shift, back with shift 1, or back where no control is
-- false
abbrev pub StaysWithin : List Cell → Dest → ℕ → Type 0
StaysWithin cells d u =
    ((gate_part cells u ≡ 0) × (merge_part cells d ≡ 0) × (u < d.cell.0))
    ⊎ (((gate_part cells u ≡ 0) × (merge_part cells d ≡ 1) × (d.cell.0 < u))
    ⊎ ((d.port.0 ≡ 2) × (d.cell.0 < u) × AreNeverFalse (controls cells d.cell.0)))

-- along each arc the zone rises, or stays as it may
abbrev pub AreInZones : List Cell → (ℕ → ℕ) → Type 0
AreInZones cells zone = (d : Dest) (u : CellId) → producer_of cells d ≡ Some u
    → (zone u.0 < zone d.cell.0) ⊎ ((zone u.0 ≡ zone d.cell.0) × StaysWithin cells d u.0)

abbrev pub SkeletonsHaveZones : Type 0
SkeletonsHaveZones = (flat : Flat) (cells : List Cell) → IsFlat flat → graph_of cells ≡ program_graph flat
    → (zone : ℕ → ℕ) × AreInZones cells zone
