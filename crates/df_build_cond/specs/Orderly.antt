-- Orderly graphs: each cell has a zone, a number that falls along no arc. Along an arc within a zone the turn is equal
-- and the number of the cell rises, or the turn rises by one and the number falls, or no value passes.
use Rattle.std.specs.Prelude.{◌≡◌, ◌<◌, ◌⊎◌, ◌+◌, ◌++◌, ℕ, false, List, [], length, get_or, slice_get, Option, Some, None}
use Rattle.std.specs.List.{AllByRecursion}
use Rattle.df_values.specs.declared.values.Value.{Value}
use Rattle.df_cells.specs.declared.cells.CellId.{CellId}
use Rattle.df_cells.specs.Families.{family}
use Rattle.df_cells.specs.Cells.{cell_from}
use Rattle.df_cells.specs.Shifts.{control_values, gate_place, merge_place, is_truth}
use Rattle.df_labels.specs.Graphs.{Graph, HasArcs, node_at}

-- the zone of a cell; 0 past the end
abbrev pub zone_at : List ℕ → ℕ → ℕ
zone_at zones c = get_or zones c 0

abbrev pub controls_by : Graph → Option CellId → List Value
controls_by graph None = []
controls_by graph (Some u) = control_values (node_at graph u.0).kind

-- the values of the CTL that feeds the first port of a cell; none where no CTL feeds it
abbrev pub controls_in : Graph → ℕ → List Value
controls_in graph c = controls_by graph (cell_from (slice_get (node_at graph c).ports 0))

-- how many turns pass before the first value leaves the cell u
abbrev pub gate_in : Graph → ℕ → ℕ
gate_in graph u = gate_place (family (node_at graph u).kind) (controls_in graph u)

-- how many turns pass before the first value is taken at port p of the cell c
abbrev pub side_in : Graph → ℕ → ℕ → ℕ
side_in graph c p = merge_place (family (node_at graph c).kind) p (controls_in graph c)

-- there are controls, and none of them is false
abbrev pub AreNeverFalse : List Value → Type 0
AreNeverFalse controls = (0 < length controls) × AllByRecursion (λ v. is_truth false v ≡ false) controls

-- the arc within a zone from u to port p of c: forward without shift, back with shift 1, or back where no control is
-- false
abbrev pub StaysIn : Graph → ℕ → ℕ → ℕ → Type 0
StaysIn graph c p u =
    ((gate_in graph u ≡ 0) × (side_in graph c p ≡ 0) × (u < c))
    ⊎ (((gate_in graph u ≡ 0) × (side_in graph c p ≡ 1) × (c < u))
    ⊎ ((p ≡ 2) × (c < u) × AreNeverFalse (controls_in graph c)))

abbrev pub KeepsZone : Graph → List ℕ → ℕ → ℕ → ℕ → Type 0
KeepsZone graph zones c p u =
    (zone_at zones u < zone_at zones c) ⊎ ((zone_at zones u ≡ zone_at zones c) × StaysIn graph c p u)

pub record Orderly (zones : List ℕ) (graph : Graph) : Type 0 where
  pub count : length zones ≡ length graph
  pub there : HasArcs graph
  pub arcs : (c p : ℕ) (u : CellId) → cell_from (slice_get (node_at graph c).ports p) ≡ Some u → KeepsZone graph zones c p u.0

abbrev pub IsOrderly : Graph → Type 0
IsOrderly graph = (zones : List ℕ) × Orderly zones graph

-- a graph with more cells, whose arcs are in their zones, is orderly where the graph was
abbrev pub ZonesExtend : Type 0
ZonesExtend = (graph new : Graph) (zones more : List ℕ) → Orderly zones graph → length more ≡ length new
    → ((i p : ℕ) (u : CellId) → cell_from (slice_get (node_at new i).ports p) ≡ Some u
    → (u.0 < length graph + length new) × KeepsZone (graph ++ new) (zones ++ more) (length graph + i) p u.0)
    → Orderly (zones ++ more) (graph ++ new)
