-- What was read of a text, and what it shows where the next line is wrong.
use Rattle.std.proofs.Common.{◌≡◌, ◌≢◌, ℕ, suc, zero, ◌+◌, ◌-◌, ◌<◌, ◌≤◌, true, List, [], ◌∷◌, ◌++◌, Some, None, length, refl, sym, ap, subst, ◌∙◌, append_assoc, append-nil, length-append, arith}
use Rattle.std.specs.Prelude.{codes, bytes_eq, IsTrue}
use Rattle.std.specs.List.{All}
use Rattle.std.proofs.lemmas.List.Elements.{All-nil, All-cons, All-append, All-push}
use Rattle.df_cells.specs.declared.cells.Cell.{Cell}
use Rattle.df_cells.specs.declared.kinds.Kind.TheVariants as kind
use Rattle.df_cells.specs.Cells.{IsCell}
use Rattle.df_celltext.specs.declared.version.Version.{Version}
use Rattle.df_celltext.specs.Versions.{has_cell}
use Rattle.df_celltext.specs.CellText.{version_text}
use Rattle.df_celltext.specs.Cuts.{cut_at, words_of}
use Rattle.df_celltext.specs.Writable.{IsCount, IsWritableRun, IsWritableFeed, IsWritableDest, IsWritableCell, IsWritableIn, IsTextIn}
use Rattle.df_celltext.specs.WrongLines.{with_feeds, IsLine, CanBegin, FirstWrongLineIn}
use Rattle.df_celltext.specs.Reading.{passed, count_in, cell_in, count_line, cell_line_in, end_line}
use Rattle.df_celltext.proofs.OptionLemmas.{bind_ok, passed_some, some_same, some_none, same_bytes, bytes_same}
use Rattle.df_celltext.proofs.CutLemmas.{cut_again}
use Rattle.df_celltext.proofs.WordLemmas.{cut_found}
use Rattle.df_celltext.proofs.LineLemmas.{count_found, IsReadCell, cell_found}
use Rattle.df_celltext.proofs.RowLemmas.{row_of, row_of_words, header, cell_row, rows, text_lines, text_is_lines, feeds-append, length-rows, rows-append, header_is_line, rows_are_lines, text_lines_are_lines}
use Rattle.df_celltext.proofs.TextLemmas.{cons_head, cons_tail, All-middle, feeds_cons, Begin, text_begins, count_told, header_tells, cell_told, IsRowOf, row_at, end_at}

-- ---- what was read

-- the first lines of the text are those of these cells
pub record HasRead (version : Version) (text : List ℕ) (count : ℕ) (cells : List Cell) (rest : List ℕ) : Type 0 where
  pub parts : text ≡ with_feeds (header version count ∷ rows 0 cells) ++ rest
  pub few : count ≤ 65536
  pub shaped : All IsCell cells
  pub within : All IsWritableCell cells
  pub has : All (λ cell. IsTrue (has_cell version cell)) cells

pub first_read : (version : Version) (text : List ℕ) (count : ℕ) (rest : List ℕ) → count_line version text ≡ Some (count, rest) → HasRead version text count [] rest
unfolding count_line
first_read version text count rest h =
    let l = bind_ok (cut_at 10 text) _ (count, rest) h in
    let c = bind_ok (count_in version (words_of l.0.0)) _ (count, rest) l.2 in
    let both : (c.0.0, l.0.1) ≡ (count, rest) = some_same _ _ c.2 in
    let found = count_found version (words_of l.0.0) c.0 c.1 in
    let line : l.0.0 ≡ header version count = row_of_words l.0.0 ∙ ap row_of found.0 ∙ ap (header version) (ap (λ p. p.0) both) in
    record {
      parts = cut_found 10 text l.0 l.1 ∙ ap (λ x. x ++ 10 ∷ l.0.1) line ∙ ap (λ x. header version count ++ 10 ∷ x) (ap (λ p. p.1) both) ∙ sym (feeds_cons (header version count) [] rest);
      few = subst (λ n. n ≤ 65536) (ap (λ p. p.0) both) found.2;
      shaped = All-nil IsCell;
      within = All-nil IsWritableCell;
      has = All-nil (λ cell. IsTrue (has_cell version cell));
    }

-- the line of a cell, and what follows it
pub record IsReadLine (version : Version) (number : ℕ) (text : List ℕ) (cell : Cell) (rest : List ℕ) : Type 0 where
  pub parts : text ≡ cell_row number cell ++ 10 ∷ rest
  pub shaped : IsCell cell
  pub within : IsWritableCell cell
  pub has : IsTrue (has_cell version cell)

pub cell_read : (version : Version) (number : ℕ) (text : List ℕ) (cell : Cell) (rest : List ℕ) → cell_line_in version number text ≡ Some (cell, rest) → IsReadLine version number text cell rest
unfolding cell_line_in
cell_read version number text cell rest h =
    let l = bind_ok (cut_at 10 text) _ (cell, rest) h in
    let c = bind_ok (cell_in number (words_of l.0.0)) _ (cell, rest) l.2 in
    let t = bind_ok (passed (has_cell version c.0.0) number) _ (cell, rest) c.2 in
    let both : (c.0.0, l.0.1) ≡ (cell, rest) = some_same _ _ t.2 in
    let found : IsReadCell number (words_of l.0.0) c.0 = cell_found number (words_of l.0.0) c.0 c.1 in
    let same : c.0.0 ≡ cell = ap (λ p. p.0) both in
    let line : l.0.0 ≡ cell_row number cell = row_of_words l.0.0 ∙ ap row_of found.is ∙ ap (cell_row number) same in
    record {
      parts = cut_found 10 text l.0 l.1 ∙ ap (λ x. x ++ 10 ∷ l.0.1) line ∙ ap (λ x. cell_row number cell ++ 10 ∷ x) (ap (λ p. p.1) both);
      shaped = subst IsCell same found.shaped;
      within = subst IsWritableCell same found.within;
      has = subst (λ x. IsTrue (has_cell version x)) same (passed_some (has_cell version c.0.0) number t.0 t.1).0;
    }

pub one_more_read : (version : Version) (text : List ℕ) (count number : ℕ) (cells : List Cell) (rest : List ℕ) (cell : Cell) (more : List ℕ) → HasRead version text count cells rest → length cells ≡ number
    → cell_line_in version number rest ≡ Some (cell, more) → HasRead version text count (cells ++ cell ∷ []) more
one_more_read version text count number cells rest cell more h k e =
    let r : IsReadLine version number rest cell more = cell_read version number rest cell more e in
    let same : 0 + length cells ≡ number = omega arith in
    let all : rows 0 (cells ++ cell ∷ []) ≡ rows 0 cells ++ cell_row number cell ∷ [] = rows-append 0 cells (cell ∷ []) ∙ ap (λ n. rows 0 cells ++ cell_row n cell ∷ []) same in
    let front = header version count ∷ rows 0 cells in
    record {
      parts = h.parts ∙ ap (λ x. with_feeds front ++ x) (r.parts ∙ sym (feeds_cons (cell_row number cell) [] more))
          ∙ sym (append_assoc (with_feeds front) (with_feeds (cell_row number cell ∷ [])) more)
          ∙ ap (λ x. x ++ more) (sym (feeds-append front (cell_row number cell ∷ [])))
          ∙ ap (λ ls. with_feeds (header version count ∷ ls) ++ more) (sym all);
      few = h.few;
      shaped = All-push IsCell cells cell h.shaped r.shaped;
      within = All-push IsWritableCell cells cell h.within r.within;
      has = All-push (λ cell. IsTrue (has_cell version cell)) cells cell h.has r.has;
    }

end_read : (text rest : List ℕ) → end_line text ≡ Some rest → text ≡ codes "end" ++ 10 ∷ rest
unfolding end_line
end_read text rest h =
    let l = bind_ok (cut_at 10 text) _ rest h in
    let p = passed_some (bytes_eq l.0.0 (codes "end")) l.0.1 rest l.2 in
    cut_found 10 text l.0 l.1 ∙ ap (λ x. x ++ 10 ∷ l.0.1) (same_bytes l.0.0 (codes "end") p.0) ∙ ap (λ x. codes "end" ++ 10 ∷ x) p.1

-- all lines, and then what follows them
all_read : (version : Version) (text : List ℕ) (count : ℕ) (cells : List Cell) (rest more : List ℕ) → HasRead version text count cells rest → length cells ≡ count → end_line rest ≡ Some more → text ≡ with_feeds (text_lines version cells) ++ more
all_read version text count cells rest more h k e =
    let front = header version count ∷ rows 0 cells in
    h.parts ∙ ap (λ x. with_feeds front ++ x) (end_read rest more e ∙ sym (feeds_cons (codes "end") [] more))
    ∙ sym (append_assoc (with_feeds front) (with_feeds (codes "end" ∷ [])) more)
    ∙ ap (λ x. x ++ more) (sym (feeds-append front (codes "end" ∷ [])))
    ∙ ap (λ n. with_feeds (header version n ∷ (rows 0 cells ++ codes "end" ∷ [])) ++ more) (sym k)

is_writable : (version : Version) (text : List ℕ) (count : ℕ) (cells : List Cell) (rest : List ℕ) → HasRead version text count cells rest → length cells ≡ count → IsWritableIn version cells
is_writable version text count cells rest h k = record { shaped = record { few = omega (arith, h.few); each = h.shaped }; each = h.within; has = h.has }

pub whole_read : (version : Version) (text : List ℕ) (count : ℕ) (cells : List Cell) (rest : List ℕ) → HasRead version text count cells rest → length cells ≡ count → end_line rest ≡ Some [] → IsTextIn version text cells
whole_read version text count cells rest h k e =
    (is_writable version text count cells rest h k, all_read version text count cells rest [] h k e ∙ append-nil (with_feeds (text_lines version cells)) ∙ sym (text_is_lines version cells))

-- ---- the first wrong line

after_nothing : (version : Version) (front : List (List ℕ)) (others : List Cell) (tail : List (List ℕ)) (rest : List ℕ) → All IsLine (text_lines version others) → text_lines version others ≡ front ++ tail → rest ≡ with_feeds tail
    → ((line later : List ℕ) (more : List (List ℕ)) → rest ≡ line ++ 10 ∷ later → IsLine line → text_lines version others ≡ front ++ line ∷ more → ⊥)
    → (text_lines version others ≡ front → rest ≡ [] → ⊥) → ⊥
after_nothing version front others [] rest all e r dead over = over (e ∙ append-nil front) r
after_nothing version front others (line ∷ tail) rest all e r dead over =
    dead line (with_feeds tail) tail (r ∙ append_assoc line (10 ∷ []) (with_feeds tail)) (All-middle IsLine front tail line (subst (All IsLine) e all)) e

pub first_wrong : (version : Version) (text : List ℕ) (before : List (List ℕ)) (rest : List ℕ) (n : ℕ) → text ≡ with_feeds before ++ rest → All IsLine before → n ≡ length before + 1 → CanBegin version before
    → ((line later : List ℕ) (others : List Cell) (tail : List (List ℕ)) → rest ≡ line ++ 10 ∷ later → IsLine line → IsWritableIn version others → text_lines version others ≡ before ++ line ∷ tail → ⊥)
    → ((others : List Cell) → IsWritableIn version others → text_lines version others ≡ before → rest ≡ [] → ⊥) → FirstWrongLineIn version text n
first_wrong version text before rest n parts whole number possible dead over = record {
  before = before;
  rest = rest;
  parts = parts;
  whole = whole;
  number = number;
  possible = possible;
  wrong = λ line later is e begins.
      let b : Begin (before ++ line ∷ []) begins.1 (text_lines version begins.0) = text_begins version (before ++ line ∷ []) begins.1 begins.0 (All-push IsLine before line whole is) begins.2 in
      dead line later begins.0 b.tail e is begins.2.0 (b.lines_are ∙ append_assoc before (line ∷ []) b.tail);
  no_text = λ cells h.
      let b : Begin before rest (text_lines version cells) = text_begins version before rest cells whole (h.0, sym parts ∙ h.1) in
      after_nothing version before cells b.tail rest (text_lines_are_lines version cells h.0.shaped.few h.0.each) b.lines_are b.rest (λ line later more r is e. dead line later cells more r is h.0 e) (over cells h.0);
}

-- ---- a good beginning goes on to a whole text

-- a list without runs
filler : Cell
filler = record { kind = kind.Ctl []; stage = 0; mark = 0; ports = []; dests = [] }

fillers : ℕ → List Cell
fillers zero = []
fillers (suc n) = filler ∷ fillers n

length-fillers : (n : ℕ) → length (fillers n) ≡ n
unfolding fillers
length-fillers zero = refl
length-fillers (suc n) = ap suc (length-fillers n)

all_fillers : (P : Cell → Type 0) (n : ℕ) → P filler → All P (fillers n)
unfolding fillers
all_fillers P zero h = All-nil P
all_fillers P (suc n) h = All-cons P filler (fillers n) h (all_fillers P n h)

filler_is_cell : IsCell filler
unfolding filler
filler_is_cell = record { ports = refl; runs = tt }

filler_is_writable : IsWritableCell filler
unfolding filler
filler_is_writable = record { kind = All-nil IsWritableRun; stage = omega arith; mark = omega arith; ports = All-nil IsWritableFeed; dests = All-nil IsWritableDest }

filler_has : (version : Version) → IsTrue (has_cell version filler)
unfolding filler has_cell
filler_has version = refl

can_begin : (version : Version) (text : List ℕ) (count : ℕ) (cells : List Cell) (rest : List ℕ) → HasRead version text count cells rest → length cells ≤ count → CanBegin version (header version count ∷ rows 0 cells)
can_begin version text count cells rest h within =
    let more = fillers (count - length cells) in
    let many : length (cells ++ more) ≡ count = omega (arith, length-append cells more, length-fillers (count - length cells)) in
    let behind = rows (0 + length cells) more ++ codes "end" ∷ [] in
    let lines : text_lines version (cells ++ more) ≡ (header version count ∷ rows 0 cells) ++ behind
    = ap (λ n. header version n ∷ (rows 0 (cells ++ more) ++ codes "end" ∷ [])) many
    ∙ ap (λ ls. header version count ∷ (ls ++ codes "end" ∷ [])) (rows-append 0 cells more)
    ∙ ap (λ ls. header version count ∷ ls) (append_assoc (rows 0 cells) (rows (0 + length cells) more) (codes "end" ∷ [])) in (
      cells ++ more,
      with_feeds behind,
      (
        record {
          shaped = record { few = omega (arith, many, h.few); each = All-append IsCell cells more h.shaped (all_fillers IsCell (count - length cells) filler_is_cell) };
          each = All-append IsWritableCell cells more h.within (all_fillers IsWritableCell (count - length cells) filler_is_writable);
          has = All-append (λ cell. IsTrue (has_cell version cell)) cells more h.has (all_fillers (λ cell. IsTrue (has_cell version cell)) (count - length cells) (filler_has version));
        },
        sym (feeds-append (header version count ∷ rows 0 cells) behind) ∙ ap with_feeds (sym lines) ∙ sym (text_is_lines version (cells ++ more)),
      ),
    )

-- ---- each line by itself

no_first : (version : Version) (text line later : List ℕ) (count : ℕ) → text ≡ line ++ 10 ∷ later → IsLine line → line ≡ header version count → count ≤ 65536 → count_line version text ≡ None → ⊥
unfolding count_line
no_first version text line later count e is same few none =
    let cut : cut_at 10 text ≡ Some (line, later) = ap (cut_at 10) e ∙ cut_again 10 line later is in
    let read : count_in version (words_of line) ≡ Some (count, []) = ap (λ l. count_in version (words_of l)) same ∙ count_told version count few in
    some_none (count, later) (sym (rw (cut, read) refl) ∙ none)

pub wrong_first : (version : Version) (text : List ℕ) → count_line version text ≡ None → FirstWrongLineIn version text 1
wrong_first version text none =
    first_wrong version text [] text 1 refl (All-nil IsLine) refl
    ([], version_text version [], (record { shaped = record { few = omega arith; each = All-nil IsCell }; each = All-nil IsWritableCell; has = All-nil (λ cell. IsTrue (has_cell version cell)) }, refl))
    (λ line later others tail e is good lines. no_first version text line later (length others) e is (sym (cons_head _ _ _ _ lines)) good.shaped.few none)
    (λ others good lines nothing. absurd (omega (arith, ap length lines)))

no_cell : (version : Version) (number : ℕ) (rest line later : List ℕ) → rest ≡ line ++ 10 ∷ later → IsLine line → IsCount number → IsRowOf version number line → cell_line_in version number rest ≡ None → ⊥
unfolding cell_line_in
no_cell version number rest line later e is small row none =
    let cut : cut_at 10 rest ≡ Some (line, later) = ap (cut_at 10) e ∙ cut_again 10 line later is in
    let read : cell_in number (words_of line) ≡ Some (row.cell, []) = ap (λ l. cell_in number (words_of l)) row.is ∙ cell_told number row.cell small row.shaped row.within in
    some_none (row.cell, later) (sym (rw (cut, read, row.has) refl) ∙ none)

before_is_whole : (version : Version) (text : List ℕ) (count : ℕ) (cells : List Cell) (rest : List ℕ) → HasRead version text count cells rest → length cells ≤ count → All IsLine (header version count ∷ rows 0 cells)
before_is_whole version text count cells rest h within =
    All-cons IsLine (header version count) (rows 0 cells) (header_is_line version count (omega (arith, h.few))) (rows_are_lines 0 cells (omega (arith, h.few)) h.within)

length-lines : (cells : List Cell) → length (rows 0 cells ++ codes "end" ∷ []) ≡ length cells + 1
length-lines cells = omega (arith, length-append (rows 0 cells) (codes "end" ∷ []), length-rows 0 cells)

pub wrong_cell : (version : Version) (text : List ℕ) (count number : ℕ) (cells : List Cell) (rest : List ℕ) → HasRead version text count cells rest → length cells ≡ number → number < count
    → cell_line_in version number rest ≡ None → FirstWrongLineIn version text (number + 2)
wrong_cell version text count number cells rest h k within none =
    let front = header version count ∷ rows 0 cells in
    let long : number + 2 ≡ length front + 1 = omega (arith, length-rows 0 cells) in
    first_wrong version text front rest (number + 2) h.parts (before_is_whole version text count cells rest h (omega arith)) long (can_begin version text count cells rest h (omega arith))
    (λ line later others tail e is good lines.
    let same : length others ≡ count = header_tells version (length others) count good.shaped.few h.few (cons_head _ _ _ _ lines) in
    let row : IsRowOf version number line = row_at version 0 number others (rows 0 cells) line (codes "end" ∷ []) tail good.shaped.each good.each good.has (cons_tail _ _ _ _ lines) (omega (arith, length-rows 0 cells)) (omega (arith, length-rows 0 cells)) in
    no_cell version number rest line later e is (omega (arith, h.few)) row none)
    (λ others good lines nothing.
    let same : length others ≡ count = header_tells version (length others) count good.shaped.few h.few (cons_head _ _ _ _ lines) in
    omega (arith, ap length (cons_tail _ _ _ _ lines), length-lines others, length-rows 0 cells))

no_end : (rest line later : List ℕ) → rest ≡ line ++ 10 ∷ later → IsLine line → line ≡ codes "end" → end_line rest ≡ None → ⊥
unfolding end_line
no_end rest line later e is same none =
    let cut : cut_at 10 rest ≡ Some (line, later) = ap (cut_at 10) e ∙ cut_again 10 line later is in
    let test : bytes_eq line (codes "end") ≡ true = bytes_same line (codes "end") same in
    some_none later (sym (rw (cut, test) refl) ∙ none)

pub wrong_end : (version : Version) (text : List ℕ) (count : ℕ) (cells : List Cell) (rest : List ℕ) → HasRead version text count cells rest → length cells ≡ count → end_line rest ≡ None → FirstWrongLineIn version text (count + 2)
wrong_end version text count cells rest h k none =
    let front = header version count ∷ rows 0 cells in
    let long : count + 2 ≡ length front + 1 = omega (arith, length-rows 0 cells) in
    first_wrong version text front rest (count + 2) h.parts (before_is_whole version text count cells rest h (omega arith)) long (can_begin version text count cells rest h (omega arith))
    (λ line later others tail e is good lines.
    let same : length others ≡ count = header_tells version (length others) count good.shaped.few h.few (cons_head _ _ _ _ lines) in
    let ends : codes "end" ∷ [] ≡ line ∷ tail = end_at 0 others (rows 0 cells) (codes "end" ∷ []) (line ∷ tail) (cons_tail _ _ _ _ lines) (omega (arith, length-rows 0 cells)) in
    no_end rest line later e is (sym (cons_head _ _ _ _ ends)) none)
    (λ others good lines nothing.
    let same : length others ≡ count = header_tells version (length others) count good.shaped.few h.few (cons_head _ _ _ _ lines) in
    omega (arith, ap length (cons_tail _ _ _ _ lines), length-lines others, length-rows 0 cells))

pub wrong_more : (version : Version) (text : List ℕ) (count : ℕ) (cells : List Cell) (rest more : List ℕ) → HasRead version text count cells rest → length cells ≡ count → end_line rest ≡ Some more → more ≢ []
    → FirstWrongLineIn version text (count + 3)
wrong_more version text count cells rest more h k e some =
    let good = is_writable version text count cells rest h k in
    let long : count + 3 ≡ length (text_lines version cells) + 1 = omega (arith, length-lines cells) in
    first_wrong version text (text_lines version cells) more (count + 3) (all_read version text count cells rest more h k e) (text_lines_are_lines version cells good.shaped.few good.each) long
    (cells, [], (good, append-nil (with_feeds (text_lines version cells)) ∙ sym (text_is_lines version cells)))
    (λ line later others tail r is fits lines.
    let same : length others ≡ length cells = header_tells version (length others) (length cells) fits.shaped.few good.shaped.few (cons_head _ _ _ _ lines) in
    omega (arith, ap length (cons_tail _ _ _ _ lines), length-lines others, length-append (rows 0 cells ++ codes "end" ∷ []) (line ∷ tail), length-lines cells))
    (λ others fits lines nothing. some nothing)
