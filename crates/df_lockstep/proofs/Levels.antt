-- Where there is no loop, levels alone are ranks.
use Rattle.std.proofs.Common.{◌≡◌, ℕ, ◌+◌, ◌<◌, ◌==◌, ◌&&◌, false, nat_lt, List, [], ◌∷◌, Some, inl, inr, arith}
use Rattle.std.specs.Prelude.{Option, is_some}
use Rattle.std.proofs.lemmas.Bool.{both_ways, cases_Bool, or_left, lt-ltb}
use Rattle.std.proofs.Common.{ap}
use Rattle.df_values.specs.declared.values.Value.{Value}
use Rattle.df_cells.specs.declared.cells.CellId.{CellId}
use Rattle.df_cells.specs.declared.cells.Dest.{Dest}
use Rattle.df_cells.specs.declared.cells.Cell.{Cell}
use Rattle.df_cells.specs.Cells.{producer_of, loaded_at}
use Rattle.df_cells.specs.Shifts.{origin}
use Rattle.df_cells.specs.WellFormed.{WellFormed}
use Rattle.df_labels.specs.Members.{Labels, LabelsMeet, Pairs}
use Rattle.df_labels.specs.MemberPlaces.{HasPlaces}
use Rattle.df_stages.specs.Nodes.{same_node}
use Rattle.df_stages.specs.Balance.{IsBalanced}
use Rattle.df_stages.specs.Laws.{HeightsRise, HeightsStay}
use Rattle.df_rank.specs.Ranks.{level, IsLower}
use Rattle.df_rank.proofs.Ranked.{level_rises, turns_go_over}
use Rattle.df_lockstep.specs.Rates.{HasNoLoops, HasNumbers}

lower_number : (a b : ℕ) → a < b → IsLower (a ∷ []) (b ∷ [])
lower_number a b less = or_left (nat_lt a b) ((a == b) && false) (lt-ltb a b less)

module _ (heights_rise : HeightsRise) (heights_stay : HeightsStay) (cells : List Cell) (inputs : List (List Value))
    (n : ℕ) (labels : Labels) (well_formed : WellFormed cells) (balanced : IsBalanced cells) (free : HasNoLoops cells)
    (meet : LabelsMeet cells inputs n labels) (places : HasPlaces cells labels) where
  -- the two ends of an arc are two nodes
  apart : (d : Dest) (u : CellId) → producer_of cells d ≡ Some u → same_node cells (origin cells u.0) d.cell.0 ≡ false
  apart d u fed = elim (cases_Bool (same_node cells (origin cells u.0) d.cell.0)) [
    | inl same ↦ absurd ((heights_stay cells well_formed balanced d u fed same).0 (free u.0))
    | inr other ↦ other
  ]

  -- so the level rises by one over it
  pub level_over : (d : Dest) (u : CellId) (i j : ℕ) → producer_of cells d ≡ Some u → Pairs cells labels d u.0 i j
      → level cells labels d.cell.0 j ≡ level cells labels u.0 i + 1
  level_over d u i j fed pairs =
      let h = heights_rise cells well_formed balanced d u fed (apart d u fed) in
      let t = turns_go_over cells inputs n labels meet places d u i j fed pairs in
      omega (arith, h, t)

  pub levels_rank : HasNumbers cells labels (level cells labels)
  levels_rank = record {
    rising = λ c i j less there.
        let r = level_rises cells inputs n labels meet places c i j less there in
        lower_number (level cells labels c i) (level cells labels c j) (omega (arith, r));
    operands = λ d u i j fed pairs.
        let o = level_over d u i j fed pairs in
        lower_number (level cells labels u.0 i) (level cells labels d.cell.0 j) (omega (arith, o));
    acknowledgements = λ d u i j k fed pairs less there.
        let o = level_over d u i j fed pairs in
        let r = level_rises cells inputs n labels meet places u.0 i k less there in
        lower_number (level cells labels d.cell.0 j) (level cells labels u.0 k) (omega (arith, o, r));
    loads = λ d u j k fed loaded there. absurd
        (both_ways (is_some (loaded_at cells d))
        (ap (λ (o : Option Value). is_some o) (places.unloaded d)) loaded.some);
  }
