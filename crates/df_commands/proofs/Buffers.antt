-- How many cells are BUF cells, and how many are not.
use Rattle.std.proofs.Common.{◌≡◌, ◌+◌, ◌-◌, ℕ, Bool, true, false, cond, not, List, [], ◌∷◌, length, refl, arith}
use Rattle.std.proofs.lemmas.List.Sums.{sum_by-cons}
use Rattle.df_cells.specs.declared.cells.Cell.{Cell}
use Rattle.df_cells.specs.Kinds.{is_buffer}
use Rattle.df_stages.specs.Skeletons.{buffers}
use Rattle.df_commands.specs.Reports.{others}

one_of : (b : Bool) → cond (not b) 1 0 + cond b 1 0 ≡ 1
one_of true = refl
one_of false = refl

all_counted : (cells : List Cell) → others cells + buffers cells ≡ length cells
all_counted [] = refl
all_counted (cell ∷ cells) =
    let one : cond (not (is_buffer cell.kind)) 1 0 + cond (is_buffer cell.kind) 1 0 ≡ 1 = one_of (is_buffer cell.kind) in
    let rest = all_counted cells in
    omega (
      arith,
      sum_by-cons (λ (c : Cell). cond (not (is_buffer c.kind)) 1 0) cell cells,
      sum_by-cons (λ (c : Cell). cond (is_buffer c.kind) 1 0) cell cells,
    )

pub others_left : (cells : List Cell) (n b : ℕ) → n ≡ length cells → b ≡ buffers cells → n - b ≡ others cells
others_left cells n b all some = omega (arith, all_counted cells)
