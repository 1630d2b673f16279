-- How a text begins, line by line.
use Rattle.std.proofs.Common.{◌≡◌, ℕ, ◌+◌, ◌<◌, ◌≤◌, List, [], ◌∷◌, ◌++◌, Some, length, refl, sym, ap, ◌∙◌, append_assoc, append-nil, arith}
use Rattle.std.specs.Prelude.{codes, IsTrue}
use Rattle.std.specs.List.{All}
use Rattle.std.proofs.lemmas.List.Elements.{All-head, All-tail}
use Rattle.df_cells.specs.declared.cells.Cell.{Cell}
use Rattle.df_cells.specs.Cells.{IsCell}
use Rattle.df_celltext.specs.declared.version.Version.{Version}
use Rattle.df_celltext.specs.Versions.{has_cell}
use Rattle.df_celltext.specs.Cuts.{cut_at, words_of}
use Rattle.df_celltext.specs.Writable.{IsCount, IsWritableCell, IsTextIn}
use Rattle.df_celltext.specs.WrongLines.{with_feeds, IsLine}
use Rattle.df_celltext.specs.Reading.{count_in, cell_in}
use Rattle.df_celltext.proofs.OptionLemmas.{some_same, some_none}
use Rattle.df_celltext.proofs.CutLemmas.{cut_again}
use Rattle.df_celltext.proofs.LineLemmas.{cell_again, count_again}
use Rattle.df_celltext.proofs.RowLemmas.{header, words_of_header, cell_row, words_of_cell, rows, text_lines, text_is_lines, text_lines_are_lines}

-- ---- lists

pub cons_head : {A : Type 0} (x y : A) (xs ys : List A) → x ∷ xs ≡ y ∷ ys → x ≡ y
cons_head x y xs ys h = cc

pub cons_tail : {A : Type 0} (x y : A) (xs ys : List A) → x ∷ xs ≡ y ∷ ys → xs ≡ ys
cons_tail x y xs ys h = cc

pub All-middle : {A : Type 0} (P : A → Type 0) (xs ys : List A) (y : A) → All P (xs ++ y ∷ ys) → P y
All-middle P [] ys y all = All-head P y ys all
All-middle P (x ∷ xs) ys y all = All-middle P xs ys y (All-tail P x (xs ++ y ∷ ys) all)

-- ---- lines

pub feeds_cons : (line : List ℕ) (lines : List (List ℕ)) (more : List ℕ) → with_feeds (line ∷ lines) ++ more ≡ line ++ 10 ∷ (with_feeds lines ++ more)
feeds_cons line lines more = append_assoc (line ++ 10 ∷ []) (with_feeds lines) more ∙ append_assoc line (10 ∷ []) (with_feeds lines ++ more)

-- lines that begin a row of lines, and those behind them
pub record Begin (front : List (List ℕ)) (more : List ℕ) (lines : List (List ℕ)) : Type 0 where
  pub tail : List (List ℕ)
  pub lines_are : lines ≡ front ++ tail
  pub rest : more ≡ with_feeds tail

pub same_cut : (a b : List ℕ) (x y : List ℕ) → IsLine a → IsLine b → a ++ 10 ∷ x ≡ b ++ 10 ∷ y → (a ≡ b) × (x ≡ y)
same_cut a b x y p q e =
    let both : (a, x) ≡ (b, y) = some_same _ _ (sym (cut_again 10 a x p) ∙ ap (cut_at 10) e ∙ cut_again 10 b y q) in
    (ap (λ p. p.0) both, ap (λ p. p.1) both)

no_cut : (a x : List ℕ) → IsLine a → a ++ 10 ∷ x ≡ [] → ⊥
no_cut a x p e = some_none (a, x) (sym (cut_again 10 a x p) ∙ ap (cut_at 10) e)

pub begin : (front lines : List (List ℕ)) (more : List ℕ) → All IsLine front → All IsLine lines → with_feeds front ++ more ≡ with_feeds lines → Begin front more lines
begin [] lines more p q e = record { tail = lines; lines_are = refl; rest = e }
begin (l ∷ front) [] more p q e = absurd (no_cut l (with_feeds front ++ more) (All-head IsLine l front p) (sym (feeds_cons l front more) ∙ e))
begin (l ∷ front) (m ∷ lines) more p q e =
    let both = same_cut l m (with_feeds front ++ more) (with_feeds lines ++ []) (All-head IsLine l front p) (All-head IsLine m lines q)
    (sym (feeds_cons l front more) ∙ e ∙ sym (append-nil (with_feeds (m ∷ lines))) ∙ feeds_cons m lines []) in
    let b : Begin front more lines = begin front lines more (All-tail IsLine l front p) (All-tail IsLine m lines q) (both.1 ∙ append-nil (with_feeds lines)) in
    record { tail = b.tail; lines_are = ap (λ x. x ∷ lines) (sym both.0) ∙ ap (λ ls. l ∷ ls) b.lines_are; rest = b.rest }

pub text_begins : (version : Version) (front : List (List ℕ)) (more : List ℕ) (cells : List Cell) → All IsLine front → IsTextIn version (with_feeds front ++ more) cells → Begin front more (text_lines version cells)
text_begins version front more cells p h =
    begin front (text_lines version cells) more p (text_lines_are_lines version cells h.0.shaped.few h.0.each) (h.1 ∙ text_is_lines version cells)

-- ---- what lines tell

pub count_told : (version : Version) (count : ℕ) → count ≤ 65536 → count_in version (words_of (header version count)) ≡ Some (count, [])
count_told version count few = ap (count_in version) (words_of_header version count (omega arith)) ∙ count_again version count few

pub header_tells : (version : Version) (m n : ℕ) → m ≤ 65536 → n ≤ 65536 → header version m ≡ header version n → m ≡ n
header_tells version m n p q e =
    ap (λ x. x.0) (some_same (m, []) (n, []) (sym (count_told version m p) ∙ ap (λ l. count_in version (words_of l)) e ∙ count_told version n q))

pub cell_told : (number : ℕ) (cell : Cell) → IsCount number → IsCell cell → IsWritableCell cell → cell_in number (words_of (cell_row number cell)) ≡ Some (cell, [])
cell_told number cell small shaped good = ap (cell_in number) (words_of_cell number cell small good) ∙ cell_again number cell small shaped good

-- the line at a place of the rows is that of a cell
pub record IsRowOf (version : Version) (number : ℕ) (line : List ℕ) : Type 0 where
  pub cell : Cell
  pub is : line ≡ cell_row number cell
  pub shaped : IsCell cell
  pub within : IsWritableCell cell
  pub has : IsTrue (has_cell version cell)

pub row_at : (version : Version) (number at : ℕ) (cells : List Cell) (front : List (List ℕ)) (line : List ℕ) (end tail : List (List ℕ)) → All IsCell cells → All IsWritableCell cells
    → All (λ cell. IsTrue (has_cell version cell)) cells → rows number cells ++ end ≡ front ++ line ∷ tail → length front < length cells → at ≡ number + length front → IsRowOf version at line
row_at version number at [] front line end tail p q r e within k = absurd (omega arith)
row_at version number at (cell ∷ cells) [] line end tail p q r e within k =
    let here : number ≡ at = omega arith in
    record {
      cell = cell;
      is = sym (cons_head _ _ _ _ e) ∙ ap (λ n. cell_row n cell) here;
      shaped = All-head IsCell cell cells p;
      within = All-head IsWritableCell cell cells q;
      has = All-head (λ cell. IsTrue (has_cell version cell)) cell cells r;
    }
row_at version number at (cell ∷ cells) (f ∷ front) line end tail p q r e within k =
    row_at version (number + 1) at cells front line end tail (All-tail IsCell cell cells p) (All-tail IsWritableCell cell cells q) (All-tail (λ cell. IsTrue (has_cell version cell)) cell cells r)
    (cons_tail _ _ _ _ e) (omega arith) (omega arith)

-- behind the rows of all cells stands the last line
pub end_at : (number : ℕ) (cells : List Cell) (front end tail : List (List ℕ)) → rows number cells ++ end ≡ front ++ tail → length front ≡ length cells → end ≡ tail
end_at number [] [] end tail e same = e
end_at number [] (f ∷ front) end tail e same = absurd (omega arith)
end_at number (cell ∷ cells) [] end tail e same = absurd (omega arith)
end_at number (cell ∷ cells) (f ∷ front) end tail e same = end_at (number + 1) cells front end tail (cons_tail _ _ _ _ e) (omega arith)

-- ---- one list at most has a text

rows_tell : (number : ℕ) (a b : List Cell) (x y : List (List ℕ)) → IsCount (number + length a) → All IsCell a → All IsWritableCell a → All IsCell b → All IsWritableCell b
    → length a ≡ length b → rows number a ++ x ≡ rows number b ++ y → a ≡ b
rows_tell number [] [] x y small p q r s same e = refl
rows_tell number [] (c ∷ b) x y small p q r s same e = absurd (omega arith)
rows_tell number (c ∷ a) [] x y small p q r s same e = absurd (omega arith)
rows_tell number (c ∷ a) (d ∷ b) x y small p q r s same e =
    let told = sym (cell_told number c (omega arith) (All-head IsCell c a p) (All-head IsWritableCell c a q))
    ∙ ap (λ l. cell_in number (words_of l)) (cons_head _ _ _ _ e) ∙ cell_told number d (omega arith) (All-head IsCell d b r) (All-head IsWritableCell d b s) in
    let first : c ≡ d = ap (λ f. f.0) (some_same (c, []) (d, []) told) in
    ap (λ z. z ∷ a) first ∙ ap (λ l. d ∷ l)
    (rows_tell (number + 1) a b x y (omega arith) (All-tail IsCell c a p) (All-tail IsWritableCell c a q) (All-tail IsCell d b r) (All-tail IsWritableCell d b s) (omega arith) (cons_tail _ _ _ _ e))

pub one_list : (version : Version) (text : List ℕ) (a b : List Cell) → IsTextIn version text a → IsTextIn version text b → a ≡ b
one_list version text a b g h =
    let lines_a = text_lines_are_lines version a g.0.shaped.few g.0.each in
    let lines_b = text_lines_are_lines version b h.0.shaped.few h.0.each in
    let same : with_feeds (text_lines version a) ++ [] ≡ with_feeds (text_lines version b)
    = append-nil (with_feeds (text_lines version a)) ∙ sym (text_is_lines version a) ∙ sym g.1 ∙ h.1 ∙ text_is_lines version b in
    let t : Begin (text_lines version a) [] (text_lines version b) = begin (text_lines version a) (text_lines version b) [] lines_a lines_b same in
    let count : length a ≡ length b = header_tells version (length a) (length b) g.0.shaped.few h.0.shaped.few (sym (cons_head _ _ _ _ t.lines_are)) in
    rows_tell 0 a b ((codes "end" ∷ []) ++ t.tail) (codes "end" ∷ []) (omega (arith, g.0.shaped.few)) g.0.shaped.each g.0.each h.0.shaped.each h.0.each count
    (sym (append_assoc (rows 0 a) (codes "end" ∷ []) t.tail) ∙ sym (cons_tail _ _ _ _ t.lines_are))
