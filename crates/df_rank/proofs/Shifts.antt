-- From a firing to one that takes its answer the block's turn falls by the shift, by labels of values; so where shifts
-- suit places, values proceed by them.
use Rattle.std.proofs.Common.{◌≡◌, ℕ, suc, ◌+◌, ◌<◌, List, [], ◌∷◌, get_or, length, take, Option, None, sym, ◌∙◌, ap}
use Rattle.std.proofs.Common.{inl, inr, arith, refl, Some, zero}
use Rattle.std.specs.List.{AllByRecursion, flat_map}
use Rattle.std.proofs.lemmas.List.{length-map, take_all}
use Rattle.std.proofs.lemmas.Bool.{cases_lt}
use Rattle.df_values.specs.declared.values.Value.{Value}
use Rattle.df_cells.specs.declared.cells.CellId.{CellId}
use Rattle.df_cells.specs.declared.cells.Dest.{Dest}
use Rattle.df_cells.specs.declared.cells.Cell.{Cell}
use Rattle.df_cells.specs.Cells.{producer_of}
use Rattle.df_cells.specs.Shifts.{gate_part, merge_part}
use Rattle.df_labels.specs.Labels.{Turn, later, Firing, Labels, turns_of, turn_at, at_turn, Pairs, LabelsMeet, block_turn}
use Rattle.df_labels.specs.Laws.{TurnsShift}
use Rattle.df_rank.specs.Laws.{BlockTurnsShift, ShiftsGivePlaces}

single_at : (turns : List Turn) (i : ℕ) → AllByRecursion (λ t. length t ≡ 1) turns → i < length turns
    → length (get_or turns i []) ≡ 1
single_at [] i all h = absurd (omega arith)
single_at (t ∷ turns) zero all h = all.0
single_at (t ∷ turns) (suc i) all h = single_at turns i all.1 (omega arith)

later_turn : (n : ℕ) (t : Turn) → length t ≡ 1 → block_turn (later n t) ≡ block_turn t + n
later_turn n [] one = absurd (omega arith)
later_turn n (i ∷ inner) one = refl

-- a firing with which there are more values is one of the label
there : (g : Firing → Option Value) (label : List Firing) (i : ℕ)
    → length (flat_map (λ f. at_turn f.turn (g f)) (take (suc i) label))
    ≡ suc (length (flat_map (λ f. at_turn f.turn (g f)) (take i label)))
    → i < length label
there g label i more = elim (cases_lt i (length label)) [
  | inl within ↦ within
  | inr past ↦
      let same = ap (λ l. length (flat_map (λ f. at_turn f.turn (g f)) l))
      (take_all (suc i) label (omega arith) ∙ sym (take_all i label past)) in
      absurd (omega (arith, more, same))
]

module _ (turns_shift : TurnsShift) (cells : List Cell) (inputs : List (List Value)) (labels : Labels)
    (meet : LabelsMeet cells inputs labels) where
  one_number : (c i : ℕ) → i < length (labels c) → length (turn_at labels c i) ≡ 1
  one_number c i within = single_at (turns_of (labels c)) i (meet c).single
      (omega (arith, length-map (labels c) (λ (f : Firing). f.turn)))

  turns_go_over : (d : Dest) (u : CellId) (i j : ℕ) → producer_of cells d ≡ Some u → Pairs cells labels d u.0 i j
      → block_turn (turn_at labels d.cell.0 j) + gate_part cells u.0
      ≡ block_turn (turn_at labels u.0 i) + merge_part cells d
  turns_go_over d u i j fed pairs =
      let e = ap block_turn (turns_shift cells inputs labels meet d u i j fed pairs) in
      let a = later_turn (gate_part cells u.0) (turn_at labels d.cell.0 j)
      (one_number d.cell.0 j (there (λ f. get_or f.taken d.port.0 None) (labels d.cell.0) j pairs.takes)) in
      let b = later_turn (merge_part cells d) (turn_at labels u.0 i)
      (one_number u.0 i (there (λ f. f.answer) (labels u.0) i pairs.gives)) in
      omega arith

pub block_turns_shift : TurnsShift → BlockTurnsShift
block_turns_shift shift cells inputs labels meet d u i j fed pairs =
    turns_go_over shift cells inputs labels meet d u i j fed pairs

pub shifts_give_places : BlockTurnsShift → ShiftsGivePlaces
shifts_give_places shift cells inputs labels place meet suits d u i j fed marked same pairs =
    let t = shift cells inputs labels meet d u i j fed pairs in
    elim (suits d u fed marked same) [
      | inl still ↦ let g = still.0 in let m = still.1 in inl (omega arith, still.2)
      | inr rest ↦ elim rest [
        | inl next ↦ let g = next.0 in let m = next.1 in inr (omega arith, next.2)
        | inr never ↦ absurd (never i j pairs)
      ]
    ]
