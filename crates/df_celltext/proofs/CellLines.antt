-- One more line of a cell file.
use Rattle.std.proofs.Common.{◌≡◌, ◌++◌, ◌∷◌, [], ◌<◌, ◌+◌, ℕ, suc, zero, List, length, take, sym, ◌∙◌, ap, append_assoc, append-nil, arith}
use Rattle.df_cells.specs.declared.cells.Cell.{Cell}
use Rattle.df_celltext.specs.CellText.{cell_line, cell_lines}
use Rattle.df_cells.specs.Cells.{cell_at}

lines_more : (first : ℕ) (cells : List Cell) (i : ℕ) → i < length cells → cell_lines first (take (suc i) cells) ≡ cell_lines first (take i cells) ++ cell_line (first + i) (cell_at cells i)
lines_more first [] i within = absurd (omega arith)
lines_more first (cell ∷ cells) zero within =
    let same : first + 0 ≡ first = omega arith in rw same (append-nil (cell_line first cell))
lines_more first (cell ∷ cells) (suc i) within =
    let same : first + suc i ≡ first + 1 + i = omega arith in
    rw same (ap (λ t. cell_line first cell ++ t) (lines_more (first + 1) cells i (omega arith))
    ∙ sym (append_assoc (cell_line first cell) (cell_lines (first + 1) (take i cells)) (cell_line (first + 1 + i) (cell_at cells i))))

pub one_more_line : (cells : List Cell) (i : ℕ) → i < length cells → cell_lines 0 (take (i + 1) cells) ≡ cell_lines 0 (take i cells) ++ cell_line i (cell_at cells i)
one_more_line cells i within =
    let next : i + 1 ≡ suc i = omega arith in let same : 0 + i ≡ i = omega arith in
    rw next (lines_more 0 cells i within ∙ ap (λ n. cell_lines 0 (take i cells) ++ cell_line n (cell_at cells i)) same)

-- a line written behind those before it
pub one_more_written : (cells : List Cell) (i : ℕ) (head old new : List ℕ) (cell : Cell) → i < length cells → old ≡ head ++ cell_lines 0 (take i cells) → new ≡ old ++ cell_line i cell → cell ≡ cell_at cells i
    → new ≡ head ++ cell_lines 0 (take (i + 1) cells)
one_more_written cells i head old new cell within before step same =
    step ∙ ap (λ t. t ++ cell_line i cell) before ∙ append_assoc head (cell_lines 0 (take i cells)) (cell_line i cell)
    ∙ ap (λ it. head ++ (cell_lines 0 (take i cells) ++ cell_line i it)) same ∙ ap (λ t. head ++ t) (sym (one_more_line cells i within))
