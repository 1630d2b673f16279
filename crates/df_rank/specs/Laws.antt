-- The laws of ranks and places.
use Rattle.std.specs.Prelude.{◌≡◌, ◌≢◌, ℕ, ◌+◌, List, Some}
use Rattle.df_values.specs.declared.values.Value.{Value}
use Rattle.df_cells.specs.declared.cells.CellId.{CellId}
use Rattle.df_cells.specs.declared.cells.Cell.{Cell}
use Rattle.df_cells.specs.declared.cells.Dest.{Dest}
use Rattle.df_cells.specs.Cells.{producer_of}
use Rattle.df_cells.specs.Paths.{mark_of}
use Rattle.df_cells.specs.Shifts.{gate_part, merge_part}
use Rattle.df_cells.specs.WellFormed.{WellFormed}
use Rattle.df_labels.specs.Labels as plain
use Rattle.df_labels.specs.Members.{Labels, LabelsMeet}
use Rattle.df_labels.specs.MemberPlaces.{HasPlaces}
use Rattle.df_labels.specs.Places as placed
use Rattle.df_labels.specs.Realizes.{Realizes}
use Rattle.df_stages.specs.Balance.{IsBalanced}
use Rattle.df_rank.specs.Hold.{hold, held}
use Rattle.df_rank.specs.Ranks.{HasRanks, rank_of}
use Rattle.df_rank.specs.Suits.{SuitsShifts}
use Rattle.df_rank.specs.Zones.{KeepsZones}

-- In balanced cells, where loops have places, what a firing waits for has a lower rank.
abbrev pub BalancedCellsHaveRanks : Type 0
BalancedCellsHaveRanks = (cells : List Cell) (inputs : List (List Value)) (n : ℕ) (labels : Labels)
    → WellFormed cells → IsBalanced cells → LabelsMeet cells inputs n labels
    → (places : HasPlaces cells labels) → HasRanks cells labels (rank_of cells labels places.place)

-- ---- labels of values

-- from a firing to one that takes its answer, the block's turn falls by the shift
abbrev pub BlockTurnsShift : Type 0
BlockTurnsShift = (cells : List Cell) (inputs : List (List Value)) (labels : plain.Labels)
    → plain.LabelsMeet cells inputs labels
    → (d : Dest) (u : CellId) (i j : ℕ) → producer_of cells d ≡ Some u → plain.Pairs cells labels d u.0 i j
    → plain.block_turn (plain.turn_at labels d.cell.0 j) + gate_part cells u.0
    ≡ plain.block_turn (plain.turn_at labels u.0 i) + merge_part cells d

-- so values proceed on the arcs of loops whose shifts suit the places
abbrev pub ShiftsGivePlaces : Type 0
ShiftsGivePlaces = (cells : List Cell) (inputs : List (List Value)) (labels : plain.Labels) (place : ℕ → ℕ)
    → plain.LabelsMeet cells inputs labels → SuitsShifts cells labels place
    → (d : Dest) (u : CellId) (i j : ℕ) → producer_of cells d ≡ Some u → mark_of cells u.0 ≢ 0
    → mark_of cells u.0 ≡ mark_of cells d.cell.0
    → plain.Pairs cells labels d u.0 i j → placed.Proceeds labels place u.0 d.cell.0 i j

-- Where arcs keep zones, loops have places.
abbrev pub ZonesGivePlaces : Type 0
ZonesGivePlaces = (cells : List Cell) (inputs : List (List Value)) (labels : plain.Labels) (zone : ℕ → ℕ)
    → WellFormed cells → plain.LabelsMeet cells inputs labels
    → KeepsZones cells labels zone → placed.HasPlaces cells labels

-- There are such cells with a loop: a held value.
abbrev pub HoldRealizes : Type 0
HoldRealizes = WellFormed hold × IsBalanced hold × Realizes hold held
