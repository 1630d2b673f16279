-- No word has a space or a line feed in it.
use Rattle.std.proofs.Common.{◌≡◌, ℕ, ℤ, pos, negsuc, suc, ◌<◌, ◌≤◌, ◌==◌, nat_lt, nat_le, not, true, false, ◌&&◌, List, [], ◌∷◌, ◌++◌, map, length, refl, ap, ◌∙◌, lt-ltb, append-nil, arith}
use Rattle.std.specs.Prelude.{codes}
use Rattle.std.specs.List.{All, list_all}
use Rattle.std.specs.Fmt.{decimal, signed_decimal}
use Rattle.std.specs.Str.Parse.{AllDigits}
use Rattle.std.proofs.lemmas.Bool.{ne_eqb}
use Rattle.std.proofs.lemmas.Bool.Decides.{nat_tests}
use Rattle.std.proofs.lemmas.Fmt.{decimal_is_IsNumeral}
use Rattle.std.proofs.lemmas.List.Elements.{All-head, All-tail}
use Rattle.std.proofs.lemmas.List.Folds.{list_all-append}
use Rattle.std.proofs.lemmas.Str.Parse.{digit_from_value}
use borrow.Author.Tests.{ltb-true}
use Rattle.df_values.specs.Values.{IsOrdinary, IsValue}
use Rattle.df_values.specs.Spelling.{spelled}
use Rattle.df_values.specs.declared.values.Basic.{Basic}
use Rattle.df_values.specs.declared.values.Basic.TheVariants as basic
use Rattle.df_values.specs.declared.values.Value.{Value}
use Rattle.df_values.specs.declared.values.Value.TheVariants.{Int, Truth, Error}
use Rattle.df_values.specs.declared.values.ErrorValue.TheVariants.{Undef, MissElt, PosOver, NegOver, Unknown, ZeroDivide}
use Rattle.df_values.proofs.Limits.{small_from_ordinary}
use Rattle.df_cells.specs.declared.cells.Cell.{Cell}
use Rattle.df_cells.specs.declared.cells.Dest.{Dest}
use Rattle.df_cells.specs.declared.cells.Feed.{Feed}
use Rattle.df_cells.specs.declared.cells.Feed.TheVariants.{Arc, Constant, Loaded}
use Rattle.df_cells.specs.declared.kinds.Run.{Run}
use Rattle.df_cells.specs.declared.kinds.Kind.{Kind}
use Rattle.df_cells.specs.declared.kinds.Kind.TheVariants as kind
use Rattle.df_celltext.specs.CellText.{spaced, run_word, port_word, dest_word, spelled_basic, kind_words}
use Rattle.df_celltext.specs.Cuts.{words_of}
use Rattle.df_celltext.specs.Writable.{is_letter, is_name_byte, is_name, IsCount, IsWritableRun, IsWritableKind, IsWritableFeed, IsWritableDest, IsWritableCell}
use Rattle.df_celltext.proofs.OptionLemmas.{both_true, true_both}
use Rattle.df_celltext.proofs.CutLemmas.{Lacks, cut_again, cut_none, words_cut, words_whole}
use Rattle.df_celltext.proofs.LineLemmas.{later_words}

-- ---- words of bytes above the space

abbrev pub Solid : List ℕ → Type 0
Solid word = list_all (λ b. nat_lt 32 b) word ≡ true

abbrev pub AreSolid : List (List ℕ) → Type 0
AreSolid [] = Unit {0}
AreSolid (word ∷ words) = Solid word × AreSolid words

solid-append : (v w : List ℕ) → Solid v → Solid w → Solid (v ++ w)
solid-append v w p q = list_all-append (λ b. nat_lt 32 b) v w ∙ true_both (list_all (λ b. nat_lt 32 b) v) (list_all (λ b. nat_lt 32 b) w) p q

are_solid-append : (v w : List (List ℕ)) → AreSolid v → AreSolid w → AreSolid (v ++ w)
are_solid-append [] w p q = q
are_solid-append (x ∷ v) w p q = (p.0, are_solid-append v w p.1 q)

digits_solid : (ds : List ℕ) → AllDigits 10 ds → Solid ds
digits_solid [] d = refl
digits_solid (c ∷ cs) d =
    let r = digit_from_value c d.0 in
    let above : nat_lt 32 c ≡ true = lt-ltb 32 c (omega (arith, r)) in
    rw above (digits_solid cs d.1)

pub decimal_solid : (n : ℕ) → IsCount n → Solid (decimal n)
decimal_solid n small = digits_solid (decimal n) (decimal_is_IsNumeral n (omega arith)).0.1

signed_solid : (z : ℤ) → IsOrdinary z → Solid (signed_decimal z)
signed_solid (pos n) h = digits_solid (decimal n) (decimal_is_IsNumeral n (let m = small_from_ordinary (pos n) h in omega arith)).0.1
signed_solid (negsuc n) h = digits_solid (decimal (suc n)) (decimal_is_IsNumeral (suc n) (let m = small_from_ordinary (negsuc n) h in omega arith)).0.1

spelled_solid : (v : Value) → IsValue v → Solid (spelled v)
spelled_solid (Int z) h = signed_solid z h
spelled_solid (Truth true) h = refl
spelled_solid (Truth false) h = refl
spelled_solid (Error Undef) h = refl
spelled_solid (Error MissElt) h = refl
spelled_solid (Error PosOver) h = refl
spelled_solid (Error NegOver) h = refl
spelled_solid (Error Unknown) h = refl
spelled_solid (Error ZeroDivide) h = refl

letter_above : (b : ℕ) → is_letter b ≡ true → nat_lt 32 b ≡ true
letter_above b h = grind (arith, nat_tests)

name_byte_above : (b : ℕ) → is_name_byte b ≡ true → nat_lt 32 b ≡ true
name_byte_above b h = grind (arith, nat_tests)

name_bytes_solid : (bytes : List ℕ) → list_all is_name_byte bytes ≡ true → Solid bytes
name_bytes_solid [] h = refl
name_bytes_solid (b ∷ bytes) h =
    let both = both_true (is_name_byte b) (list_all is_name_byte bytes) h in
    true_both (nat_lt 32 b) (list_all (λ b. nat_lt 32 b) bytes) (name_byte_above b both.0) (name_bytes_solid bytes both.1)

name_solid : (name : List ℕ) → is_name name ≡ true → Solid name
name_solid [] h = absurd (cc)
name_solid (b ∷ more) h =
    let both = both_true (is_letter b) (list_all is_name_byte more && nat_le (length (b ∷ more)) 64) h in
    let rest = both_true (list_all is_name_byte more) (nat_le (length (b ∷ more)) 64) both.1 in
    true_both (nat_lt 32 b) (list_all (λ b. nat_lt 32 b) more) (letter_above b both.0) (name_bytes_solid more rest.0)

basic_solid : (b : Basic) → Solid (spelled_basic b)
basic_solid basic.Integer = refl
basic_solid basic.Boolean = refl

run_solid : (r : Run) → IsWritableRun r → Solid (run_word r)
run_solid r h = solid-append (decimal r.count ++ codes "*") (spelled r.value) (solid-append (decimal r.count) (codes "*") (decimal_solid r.count h.0) refl) (spelled_solid r.value h.1)

runs_solid : (runs : List Run) → All IsWritableRun runs → AreSolid (map run_word runs)
runs_solid [] all = tt
runs_solid (r ∷ runs) all = (run_solid r (All-head IsWritableRun r runs all), runs_solid runs (All-tail IsWritableRun r runs all))

port_solid : (f : Feed) → IsWritableFeed f → Solid (port_word f)
port_solid (Arc u) h = solid-append (codes "@") (decimal u.0) refl (decimal_solid u.0 h)
port_solid (Constant v) h = solid-append (codes "=") (spelled v) refl (spelled_solid v h)
port_solid (Loaded u v) h =
    solid-append (codes "@" ++ decimal u.0 ++ codes "!") (spelled v) (solid-append (codes "@" ++ decimal u.0) (codes "!") (solid-append (codes "@") (decimal u.0) refl (decimal_solid u.0 h.0)) refl) (spelled_solid v h.1)

ports_solid : (feeds : List Feed) → All IsWritableFeed feeds → AreSolid (map port_word feeds)
ports_solid [] all = tt
ports_solid (f ∷ feeds) all = (port_solid f (All-head IsWritableFeed f feeds all), ports_solid feeds (All-tail IsWritableFeed f feeds all))

dest_solid : (d : Dest) → IsWritableDest d → Solid (dest_word d)
dest_solid d h = solid-append (decimal d.cell.0 ++ codes ".") (decimal d.port.0) (solid-append (decimal d.cell.0) (codes ".") (decimal_solid d.cell.0 h.0) refl) (decimal_solid d.port.0 (omega (arith, h.1)))

dests_solid : (dests : List Dest) → All IsWritableDest dests → AreSolid (map dest_word dests)
dests_solid [] all = tt
dests_solid (d ∷ dests) all = (dest_solid d (All-head IsWritableDest d dests all), dests_solid dests (All-tail IsWritableDest d dests all))

kind_solid : (k : Kind) → IsWritableKind k → AreSolid (kind_words k)
kind_solid (kind.In name b n) h = (refl, (name_solid name h.0, (basic_solid b, (decimal_solid n h.1, tt))))
kind_solid (kind.Idx lo n) h = (refl, (signed_solid lo h.0, (decimal_solid n h.1, tt)))
kind_solid (kind.Ctl runs) h = (refl, runs_solid runs h)
kind_solid (kind.Out k n) h = (refl, (decimal_solid k h.0, (decimal_solid n h.1, tt)))
kind_solid _ h = (refl, tt)

-- the words behind the first of a cell's line
pub cell_solid : (cell : Cell) → IsWritableCell cell → AreSolid (kind_words cell.kind ++ later_words cell)
cell_solid cell good =
    are_solid-append (kind_words cell.kind) (later_words cell) (kind_solid cell.kind good.kind) (
      refl,
      (
        decimal_solid cell.stage good.stage,
        (
          refl,
          (
            decimal_solid cell.mark good.mark,
            (
              refl,
              are_solid-append (map port_word cell.ports) (codes "dests" ∷ map dest_word cell.dests) (ports_solid cell.ports good.ports) (refl, dests_solid cell.dests good.dests),
            ),
          ),
        ),
      ),
    )

-- ---- words in a row

solid_lacks : (mark : ℕ) (word : List ℕ) → mark ≤ 32 → Solid word → Lacks mark word
solid_lacks mark [] low h = refl
solid_lacks mark (b ∷ word) low h =
    let both = both_true (nat_lt 32 b) (list_all (λ b. nat_lt 32 b) word) h in
    let above : 32 < b = ltb-true 32 b both.0 in
    let other : (b == mark) ≡ false = ne_eqb b mark (λ e. omega arith) in
    rw other (solid_lacks mark word low both.1)

lacks-append : (mark : ℕ) (v w : List ℕ) → Lacks mark v → Lacks mark w → Lacks mark (v ++ w)
lacks-append mark v w p q = list_all-append (λ b. not (b == mark)) v w ∙ true_both (list_all (λ b. not (b == mark)) v) (list_all (λ b. not (b == mark)) w) p q

spaced_lacks : (words : List (List ℕ)) → AreSolid words → Lacks 10 (spaced words)
spaced_lacks [] h = refl
spaced_lacks (word ∷ words) h =
    lacks-append 10 (32 ∷ word) (spaced words) (solid_lacks 10 word (omega arith) h.0) (spaced_lacks words h.1)

-- no line feed stands in a row of words
pub row_lacks : (word : List ℕ) (words : List (List ℕ)) → Solid word → AreSolid words → Lacks 10 (word ++ spaced words)
row_lacks word words p q = lacks-append 10 word (spaced words) (solid_lacks 10 word (omega arith) p) (spaced_lacks words q)

-- a row of words falls into these words
pub words_of_row : (word : List ℕ) (words : List (List ℕ)) → Solid word → AreSolid words → words_of (word ++ spaced words) ≡ word ∷ words
words_of_row word [] p q = ap words_of (append-nil word) ∙ words_whole word (cut_none 32 word (solid_lacks 32 word (omega arith) p))
words_of_row word (next ∷ words) p q =
    words_cut (word ++ spaced (next ∷ words)) word (next ++ spaced words) (cut_again 32 word (next ++ spaced words) (solid_lacks 32 word (omega arith) p))
    ∙ ap (λ ws. word ∷ ws) (words_of_row next words q.0 q.1)
