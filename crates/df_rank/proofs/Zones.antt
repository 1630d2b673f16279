-- Where arcs keep zones, loops have places.
use Rattle.std.proofs.Common.{◌≡◌, ◌≢◌, ℕ, zero, suc, ◌<◌, ◌≤◌, ◌==◌, Bool, true, false, cond, List, [], ◌∷◌, length, take, refl, sym, ◌∙◌, ap, inl, inr, arith, eq-eqb}
use Rattle.std.specs.List.{count_by}
use Rattle.std.proofs.lemmas.Bool.{cases_lt, ne_eqb}
use Rattle.std.proofs.lemmas.List.{get_or_past}
use Rattle.std.proofs.lemmas.List.Sums.{sum_by-cons}
use Rattle.df_cells.specs.declared.cells.Cell.{Cell}
use Rattle.df_cells.specs.Cells.{no_cell, port_of}
use Rattle.df_cells.specs.Paths.{HasArc, IsPath, mark_of}
use Rattle.df_cells.specs.WellFormed.{WellFormed}
use Rattle.df_labels.specs.Labels.{Labels}
use Rattle.df_labels.specs.Places.{loop_size}
use Rattle.df_rank.specs.Suits.{SuitsShifts}
use Rattle.df_rank.specs.Zones.{KeepsZones, loop_place}
use Rattle.df_rank.specs.Laws.{ShiftsGivePlaces, ZonesGivePlaces}

-- ---- how many cells before one have a mark

abbrev bit : Bool → ℕ
bit b = cond b 1 0

abbrev marked_in : ℕ → List Cell → ℕ
marked_in m cells = count_by (λ cell. cell.mark == m) cells

-- a cell that has the mark is one more before each later cell, and in all
counted_before : (m : ℕ) (cells : List Cell) (c d : ℕ) → c < length cells → mark_of cells c ≡ m → c < d → marked_in m (take c cells) < marked_in m (take d cells)
counted_before m [] c d within is less = absurd (omega arith)
counted_before m (x ∷ cells) zero zero within is less = absurd (omega arith)
counted_before m (x ∷ cells) zero (suc d) within is less =
    let one = ap bit (eq-eqb x.mark m is) in let r = sum_by-cons (λ (y : Cell). bit (y.mark == m)) x (take d cells) in omega arith
counted_before m (x ∷ cells) (suc c) zero within is less = absurd (omega arith)
counted_before m (x ∷ cells) (suc c) (suc d) within is less =
    let rest = counted_before m cells c d (omega arith) is (omega arith) in
    let l = sum_by-cons (λ (y : Cell). bit (y.mark == m)) x (take c cells) in
    let r = sum_by-cons (λ (y : Cell). bit (y.mark == m)) x (take d cells) in omega arith

counted_in : (m : ℕ) (cells : List Cell) (c : ℕ) → c < length cells → mark_of cells c ≡ m → marked_in m (take c cells) < marked_in m cells
counted_in m [] c within is = absurd (omega arith)
counted_in m (x ∷ cells) zero within is =
    let one = ap bit (eq-eqb x.mark m is) in let r = sum_by-cons (λ (y : Cell). bit (y.mark == m)) x cells in omega arith
counted_in m (x ∷ cells) (suc c) within is =
    let rest = counted_in m cells c (omega arith) is in
    let l = sum_by-cons (λ (y : Cell). bit (y.mark == m)) x (take c cells) in
    let r = sum_by-cons (λ (y : Cell). bit (y.mark == m)) x cells in omega arith

-- ---- places

marked_within : (cells : List Cell) (c : ℕ) → mark_of cells c ≢ 0 → c < length cells
marked_within cells c marked = elim (cases_lt c (length cells)) [
  | inl within ↦ within
  | inr past ↦ absurd (marked (ap (λ (cell : Cell). cell.mark) (get_or_past cells c no_cell past)))
]

place_within : (cells : List Cell) (c : ℕ) → loop_place cells c < loop_size cells (mark_of cells c)
place_within cells c = by (mark_of cells c == 0) refl
  where
    by : (b : Bool) → (mark_of cells c == 0) ≡ b → cond b 0 (marked_in (mark_of cells c) (take c cells)) < cond b 1 (marked_in (mark_of cells c) cells)
    by true e = omega arith
    by false e = counted_in (mark_of cells c) cells c (marked_within cells c (λ z. let t : true ≡ false = sym (eq-eqb (mark_of cells c) 0 z) ∙ e in cc)) refl

place_of : (cells : List Cell) (c : ℕ) → mark_of cells c ≢ 0 → loop_place cells c ≡ marked_in (mark_of cells c) (take c cells)
place_of cells c marked = ap (λ b. cond b 0 (marked_in (mark_of cells c) (take c cells))) (ne_eqb (mark_of cells c) 0 marked)

-- in a loop places rise with numbers
place_rises : (cells : List Cell) (c d : ℕ) → mark_of cells c ≢ 0 → mark_of cells c ≡ mark_of cells d → c < d → loop_place cells c < loop_place cells d
place_rises cells c d marked same less =
    let first = place_of cells c marked in
    let second = place_of cells d (λ z. marked (same ∙ z)) in
    let more = counted_before (mark_of cells c) cells c d (marked_within cells c marked) refl less in
    let moved = ap (λ m. marked_in m (take d cells)) same in
    omega arith

-- ---- zones

module _ (cells : List Cell) (labels : Labels) (zone : ℕ → ℕ) (keeps : KeepsZones cells labels zone) where
  arc_keeps : (u v : ℕ) → HasArc cells u v → zone u ≤ zone v
  arc_keeps u v (p, w, fed, is) = let e = ap zone is in elim (keeps (port_of v p) w fed) [
    | inl up ↦ omega arith
    | inr stay ↦ let same = stay.0 in omega arith
  ]

  path_keeps : (u : ℕ) (between : List ℕ) (v : ℕ) → IsPath cells u between v → zone u ≤ zone v
  path_keeps u [] v arc = arc_keeps u v arc
  path_keeps u (w ∷ between) v (arc, rest) = let a = arc_keeps u w arc in let b = path_keeps w between v rest in omega arith

  suits : WellFormed cells → SuitsShifts cells labels (loop_place cells)
  suits well_formed d u fed marked same = elim (keeps d u fed) [
    | inl up ↦
        let back = well_formed.loop.together d.cell.0 u.0 (λ z. marked (same ∙ z)) (sym same) in
        let down = path_keeps d.cell.0 back.0 u.0 back.1 in
        absurd (omega arith)
    | inr stay ↦ elim stay.1 [
      | inl forth ↦ inl (forth.0, forth.1, place_rises cells u.0 d.cell.0 marked same forth.2)
      | inr rest ↦ elim rest [
        | inl around ↦ inr (inl (around.0, around.1, place_rises cells d.cell.0 u.0 (λ z. marked (same ∙ z)) (sym same) around.2))
        | inr never ↦ inr (inr never)
      ]
    ]
  ]

pub zones_give_places : ShiftsGivePlaces → ZonesGivePlaces
zones_give_places give cells inputs labels zone well_formed meet keeps = record {
  place = loop_place cells;
  within = place_within cells;
  passing = give cells inputs labels (loop_place cells) meet (suits cells labels zone keeps well_formed);
}
