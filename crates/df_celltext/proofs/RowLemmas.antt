-- The lines of a cell text.
use Rattle.std.proofs.Common.{◌≡◌, ℕ, suc, ◌+◌, ◌≤◌, List, [], ◌∷◌, ◌++◌, map, length, refl, sym, ap, ◌∙◌, append_assoc, append-nil, arith}
use Rattle.std.specs.Prelude.{codes}
use Rattle.std.specs.List.{All, join_with_byte}
use Rattle.std.specs.Fmt.{decimal}
use Rattle.std.proofs.lemmas.Grind.{flat_map-append}
use Rattle.std.proofs.lemmas.List.Elements.{All-nil, All-cons, All-head, All-tail, All-append}
use Rattle.std.proofs.lemmas.List.Splits.{join_with_byte-slice_split}
use Rattle.df_cells.specs.declared.cells.Cell.{Cell}
use Rattle.df_celltext.specs.CellText.{spaced, port_word, dest_word, kind_words, cell_line, cell_lines, version_text}
use Rattle.df_celltext.specs.declared.version.Version.{Version}
use Rattle.df_celltext.specs.declared.version.Version.TheVariants.{One, Two}
use Rattle.df_celltext.specs.Versions.{version_word}
use Rattle.df_celltext.specs.Cuts.{words_of}
use Rattle.df_celltext.specs.Writable.{IsCount, IsWritableCell}
use Rattle.df_celltext.specs.WrongLines.{with_feeds, IsLine}
use Rattle.df_celltext.specs.Reading.{stage}
use Rattle.df_celltext.proofs.LineLemmas.{later_words, cell_words, count_words}
use Rattle.df_celltext.proofs.SolidLemmas.{Solid, decimal_solid, cell_solid, row_lacks, words_of_row}

-- the words of a line in a row
abbrev pub row_of : List (List ℕ) → List ℕ
row_of [] = []
row_of (word ∷ words) = word ++ spaced words

joined_row : (word : List ℕ) (words : List (List ℕ)) → join_with_byte 32 (word ∷ words) ≡ row_of (word ∷ words)
joined_row word [] = sym (append-nil word)
joined_row word (next ∷ words) = ap (λ l. word ++ 32 ∷ l) (joined_row next words)

joined : (words : List (List ℕ)) → join_with_byte 32 words ≡ row_of words
joined [] = refl
joined (word ∷ words) = joined_row word words

-- a line is the row of its words
pub row_of_words : (line : List ℕ) → line ≡ row_of (words_of line)
row_of_words line = sym (join_with_byte-slice_split 32 line) ∙ joined (words_of line)

-- ---- the first line

abbrev pub header : Version → ℕ → List ℕ
header version count = row_of (count_words version count)

version_solid : (version : Version) → Solid (version_word version)
version_solid One = refl
version_solid Two = refl

pub words_of_header : (version : Version) (count : ℕ) → IsCount count → words_of (header version count) ≡ count_words version count
words_of_header version count small = words_of_row (codes "dataflow") (version_word version ∷ decimal count ∷ []) refl (version_solid version, (decimal_solid count small, tt))

pub header_is_line : (version : Version) (count : ℕ) → IsCount count → IsLine (header version count)
header_is_line version count small = row_lacks (codes "dataflow") (version_word version ∷ decimal count ∷ []) refl (version_solid version, (decimal_solid count small, tt))

-- ---- the line of a cell

abbrev pub cell_row : ℕ → Cell → List ℕ
cell_row number cell = row_of (cell_words number cell)

pub words_of_cell : (number : ℕ) (cell : Cell) → IsCount number → IsWritableCell cell → words_of (cell_row number cell) ≡ cell_words number cell
words_of_cell number cell small good = words_of_row (decimal number) (kind_words cell.kind ++ later_words cell) (decimal_solid number small) (cell_solid cell good)

pub cell_row_is_line : (number : ℕ) (cell : Cell) → IsCount number → IsWritableCell cell → IsLine (cell_row number cell)
cell_row_is_line number cell small good = row_lacks (decimal number) (kind_words cell.kind ++ later_words cell) (decimal_solid number small) (cell_solid cell good)

regroup_line : (n k a s b m c p e d z : List ℕ) → n ++ k ++ a ++ s ++ b ++ m ++ c ++ p ++ e ++ d ++ z ≡ (n ++ (k ++ (a ++ (s ++ (b ++ (m ++ (c ++ (p ++ (e ++ d))))))))) ++ z
regroup_line n k a s b m c p e d z = simp append_assoc

pub line_is_row : (number : ℕ) (cell : Cell) → cell_line number cell ≡ cell_row number cell ++ 10 ∷ []
line_is_row number cell =
    let kinds = flat_map-append (λ word. codes " " ++ word) (kind_words cell.kind) (later_words cell) in
    let ports = flat_map-append (λ word. codes " " ++ word) (map port_word cell.ports) (codes "dests" ∷ map dest_word cell.dests) in
    regroup_line (decimal number) (spaced (kind_words cell.kind)) (codes " stage ") (decimal cell.stage) (codes " loop ") (decimal cell.mark) (codes " ports") (spaced (map port_word cell.ports)) (codes " dests") (spaced (map dest_word cell.dests)) (codes "\n")
    ∙ ap (λ l. (decimal number ++ (spaced (kind_words cell.kind) ++ ((codes " " ++ stage) ++ ((codes " " ++ decimal cell.stage) ++ ((codes " " ++ codes "loop") ++ ((codes " " ++ decimal cell.mark) ++ ((codes " " ++ codes "ports") ++ l))))))) ++ 10 ∷ []) (sym ports)
    ∙ ap (λ l. (decimal number ++ l) ++ 10 ∷ []) (sym kinds)

-- ---- all lines

abbrev pub rows : ℕ → List Cell → List (List ℕ)
rows number [] = []
rows number (cell ∷ cells) = cell_row number cell ∷ rows (number + 1) cells

abbrev pub text_lines : Version → List Cell → List (List ℕ)
text_lines version cells = header version (length cells) ∷ (rows 0 cells ++ codes "end" ∷ [])

pub feeds-append : (v w : List (List ℕ)) → with_feeds (v ++ w) ≡ with_feeds v ++ with_feeds w
feeds-append v w = flat_map-append (λ line. line ++ 10 ∷ []) v w

lines_are_rows : (number : ℕ) (cells : List Cell) → cell_lines number cells ≡ with_feeds (rows number cells)
lines_are_rows number [] = refl
lines_are_rows number (cell ∷ cells) = rw (line_is_row number cell, lines_are_rows (number + 1) cells) refl

regroup_text : (h c z r e : List ℕ) → h ++ c ++ z ++ r ++ e ≡ ((h ++ (c ++ [])) ++ z) ++ (r ++ e)
regroup_text h c z r e = simp (append_assoc, append-nil)

pub text_is_lines : (version : Version) (cells : List Cell) → version_text version cells ≡ with_feeds (text_lines version cells)
text_is_lines version cells =
    ap (λ l. codes "dataflow " ++ version_word version ++ codes " " ++ decimal (length cells) ++ codes "\n" ++ l ++ codes "end\n") (lines_are_rows 0 cells)
    ∙ by_version version
    ∙ ap (λ l. (header version (length cells) ++ 10 ∷ []) ++ l) (sym (feeds-append (rows 0 cells) (codes "end" ∷ [])))
  where
    by_version : (v : Version) → codes "dataflow " ++ version_word v ++ codes " " ++ decimal (length cells) ++ codes "\n" ++ with_feeds (rows 0 cells) ++ codes "end\n"
        ≡ (header v (length cells) ++ 10 ∷ []) ++ (with_feeds (rows 0 cells) ++ codes "end\n")
    by_version One = regroup_text (codes "dataflow 1 ") (decimal (length cells)) (codes "\n") (with_feeds (rows 0 cells)) (codes "end\n")
    by_version Two = regroup_text (codes "dataflow 2 ") (decimal (length cells)) (codes "\n") (with_feeds (rows 0 cells)) (codes "end\n")

pub length-rows : (number : ℕ) (cells : List Cell) → length (rows number cells) ≡ length cells
length-rows number [] = refl
length-rows number (cell ∷ cells) = ap suc (length-rows (number + 1) cells)

pub rows-append : (number : ℕ) (v w : List Cell) → rows number (v ++ w) ≡ rows number v ++ rows (number + length v) w
rows-append number [] w = let same : number + 0 ≡ number = omega arith in rw same refl
rows-append number (cell ∷ v) w =
    let same : number + 1 + length v ≡ number + suc (length v) = omega arith in
    ap (λ l. cell_row number cell ∷ l) (rows-append (number + 1) v w ∙ ap (λ n. rows (number + 1) v ++ rows n w) same)

pub rows_are_lines : (number : ℕ) (cells : List Cell) → IsCount (number + length cells) → All IsWritableCell cells → All IsLine (rows number cells)
rows_are_lines number [] small all = All-nil IsLine
rows_are_lines number (cell ∷ cells) small all =
    All-cons IsLine (cell_row number cell) (rows (number + 1) cells) (cell_row_is_line number cell (omega arith) (All-head IsWritableCell cell cells all))
    (rows_are_lines (number + 1) cells (omega arith) (All-tail IsWritableCell cell cells all))

pub text_lines_are_lines : (version : Version) (cells : List Cell) → length cells ≤ 65536 → All IsWritableCell cells → All IsLine (text_lines version cells)
text_lines_are_lines version cells few all =
    All-cons IsLine (header version (length cells)) (rows 0 cells ++ codes "end" ∷ []) (header_is_line version (length cells) (omega arith))
    (All-append IsLine (rows 0 cells) (codes "end" ∷ []) (rows_are_lines 0 cells (omega arith) all) (All-cons IsLine (codes "end") [] refl (All-nil IsLine)))
