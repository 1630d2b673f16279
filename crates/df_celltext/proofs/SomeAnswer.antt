-- A text is that of a list of cells, or has a first wrong line.
use Rattle.std.proofs.Common.{◌≡◌, ◌⊎◌, inl, inr, ℕ, suc, zero, ◌+◌, List, [], ◌∷◌, ◌++◌, Option, Some, None, ◌≤◌, length, refl, ap, length-append, arith}
use Rattle.df_cells.specs.declared.cells.Cell.{Cell}
use Rattle.df_celltext.specs.declared.version.Version.{Version}
use Rattle.df_celltext.specs.Writable.{IsTextIn}
use Rattle.df_celltext.specs.WrongLines.{FirstWrongLineIn}
use Rattle.df_celltext.specs.Reading.{count_line, cell_line_in, end_line}
use Rattle.df_celltext.proofs.WrongLemmas.{HasRead, first_read, one_more_read, whole_read, wrong_first, wrong_cell, wrong_end, wrong_more}

abbrev Answer : Version → List ℕ → Type 0
Answer version text = ((cells : List Cell) × IsTextIn version text cells) ⊎ ((n : ℕ) × FirstWrongLineIn version text n)

at_the_end : (version : Version) (text : List ℕ) (count : ℕ) (cells : List Cell) (rest : List ℕ) → HasRead version text count cells rest → length cells ≡ count
    → (read : Option (List ℕ)) → end_line rest ≡ read → Answer version text
at_the_end version text count cells rest h k None e = inr (count + 2, wrong_end version text count cells rest h k e)
at_the_end version text count cells rest h k (Some []) e = inl (cells, whole_read version text count cells rest h k e)
at_the_end version text count cells rest h k (Some (b ∷ more)) e =
    inr (count + 3, wrong_more version text count cells rest (b ∷ more) h k e (λ nothing. absurd (omega (arith, ap length nothing))))

at_a_cell : (version : Version) (text : List ℕ) (count : ℕ) (cells : List Cell) (rest : List ℕ) → HasRead version text count cells rest → length cells + 1 ≤ count
    → ((cell : Cell) (more : List ℕ) → HasRead version text count (cells ++ cell ∷ []) more → Answer version text)
    → (read : Option (Cell × List ℕ)) → cell_line_in version (length cells) rest ≡ read → Answer version text
at_a_cell version text count cells rest h within next None e = inr (length cells + 2, wrong_cell version text count (length cells) cells rest h refl (omega arith) e)
at_a_cell version text count cells rest h within next (Some (cell, more)) e = next cell more (one_more_read version text count (length cells) cells rest cell more h refl e)

-- so many cells are still to be read
with_left : (version : Version) (left : ℕ) (text : List ℕ) (count : ℕ) (cells : List Cell) (rest : List ℕ) → HasRead version text count cells rest → length cells + left ≡ count → Answer version text
with_left version zero text count cells rest h k = at_the_end version text count cells rest h (omega arith) (end_line rest) refl
with_left version (suc left) text count cells rest h k =
    at_a_cell version text count cells rest h (omega arith)
    (λ cell more g. with_left version left text count (cells ++ cell ∷ []) more g (omega (arith, length-append cells (cell ∷ []))))
    (cell_line_in version (length cells) rest)
    refl

at_the_count : (version : Version) (text : List ℕ) (read : Option (ℕ × List ℕ)) → count_line version text ≡ read → Answer version text
at_the_count version text None e = inr (1, wrong_first version text e)
at_the_count version text (Some (count, rest)) e = with_left version count text count [] rest (first_read version text count rest e) (omega arith)

pub some_answer : (version : Version) (text : List ℕ) → Answer version text
some_answer version text = at_the_count version text (count_line version text) refl
