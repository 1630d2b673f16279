-- The longest run of bytes of one sort is the longest piece.
use Rattle.std.proofs.Common.{◌≡◌, ℕ, ◌≤◌, Bool, true, false, not, ◌&&◌, cond, List, [], ◌∷◌, ◌++◌, take, drop, length, slice_index_or, refl, sym, ◌∙◌, subst, arith}
use Rattle.std.specs.List.{list_all, prefix_len, take_while}
use Rattle.std.proofs.lemmas.List.{take-append-drop}
use Rattle.std.proofs.lemmas.List.Sums.{take_while-cons}
use Rattle.std.proofs.lemmas.Bool.{eqb-true}
use Rattle.df_syntax.specs.Places.{is_line_feed}
use Rattle.df_syntax.specs.Pieces.{is_letter, is_digit, is_name_byte, is_white, is_percent, IsRun, IsBlank, IsComment, IsWord, IsNumber, IsPiece, blank, comment, word, number, symbol, IsLongest}
use Rattle.df_syntax.proofs.Classes.{class_of, class_of-word, class_of-number, class_of-blank, class_of-comment, class_of-symbol}
use Rattle.df_syntax.proofs.OneReading.{piece_some}
use Rattle.df_lexer.specs.Steps.{begins}

-- no byte of the line's end
abbrev pub is_in_line : ℕ → Bool
is_in_line b = not (is_line_feed b)

-- ---- runs

take_while_passes : (p : ℕ → Bool) (text : List ℕ) → list_all p (take_while p text) ≡ true
take_while_passes p [] = refl
take_while_passes p (b ∷ text) = rw (take_while-cons p b text) (at (p b) refl (take_while_passes p text))
  where
    at : (x : Bool) → p b ≡ x → list_all p (take_while p text) ≡ true → list_all p (cond x (b ∷ take_while p text) []) ≡ true
    at true h later = rw h later
    at false h later = refl

-- a front whose bytes all pass is no longer than the run
front_within : (p : ℕ → Bool) (v later : List ℕ) → list_all p v ≡ true → length v ≤ length (take_while p (v ++ later))
front_within p [] later h = omega arith
front_within p (b ∷ v) later h = at (p b) refl h (λ g. front_within p v later g)
  where
    at : (x : Bool) → p b ≡ x → (x && list_all p v) ≡ true → (list_all p v ≡ true → length v ≤ length (take_while p (v ++ later))) → length (b ∷ v) ≤ length (take_while p (b ∷ (v ++ later)))
    at true h all later_holds = rw (take_while-cons p b (v ++ later), h) (omega (arith, later_holds all))
    at false h all later_holds = cc

run_front : (first others : ℕ → Bool) (text : List ℕ) → ((b : ℕ) → first b ≡ true → others b ≡ true) → begins first text ≡ true → IsRun first others (take_while others text)
run_front first others [] weaker h = cc
run_front first others (b ∷ text) weaker h =
    let passes : others b ≡ true = weaker b h in
    rw (take_while-cons others b text, passes) (h, take_while_passes others text)

class_front : (k : ℕ) (v w later rest : List ℕ) → class_of w ≡ k → w ++ rest ≡ v ++ later → 1 ≤ length w → 1 ≤ length v → class_of v ≡ k
class_front k v [] later rest c e m n = absurd (omega arith)
class_front k [] (a ∷ w) later rest c e m n = absurd (omega arith)
class_front k (b ∷ v) (a ∷ w) later rest c e m n = (let head : b ≡ a = cc in rw head c)

-- the run is the longest piece where it is a piece, and all bytes of a piece of its class pass
run_longest : (others : ℕ → Bool) (text : List ℕ) (k : ℕ) → IsPiece (take_while others text) → class_of (take_while others text) ≡ k
    → ((v : List ℕ) → class_of v ≡ k → IsPiece v → list_all others v ≡ true)
    → IsLongest text (take_while others text) (drop (prefix_len others text) text)
run_longest others text k p same passes = record {
  parts = parts;
  piece = p;
  longest = λ v later e q.
      let joined : take_while others text ++ drop (prefix_len others text) text ≡ v ++ later = sym parts ∙ e in
      let alike : class_of v ≡ k = class_front k v (take_while others text) later (drop (prefix_len others text) text) same joined (piece_some (take_while others text) p) (piece_some v q) in
      subst (λ (z : List ℕ). length v ≤ length (take_while others z)) (sym e) (front_within others v later (passes v alike q));
}
  where
    parts : text ≡ take_while others text ++ drop (prefix_len others text) text
    parts = sym (take-append-drop (prefix_len others text) text)

tail_passes : (first others : ℕ → Bool) (v : List ℕ) → ((b : ℕ) → first b ≡ true → others b ≡ true) → IsRun first others v → list_all others v ≡ true
tail_passes first others [] weaker h = absurd h
tail_passes first others (b ∷ v) weaker h = rw (weaker b h.0, h.1) refl

-- ---- the four sorts of runs

letter_weaker : (b : ℕ) → is_letter b ≡ true → is_name_byte b ≡ true
letter_weaker b h = rw h refl

same_weaker : (p : ℕ → Bool) (b : ℕ) → p b ≡ true → p b ≡ true
same_weaker p b h = h

percent_weaker : (b : ℕ) → is_percent b ≡ true → is_in_line b ≡ true
percent_weaker b h = subst (λ (x : ℕ). is_in_line x ≡ true) (sym (eqb-true b 37 h)) refl

word_passes : (v : List ℕ) → class_of v ≡ 1 → IsPiece v → list_all is_name_byte v ≡ true
word_passes v c (word h) = tail_passes is_letter is_name_byte v letter_weaker h
word_passes v c (blank h) = absurd (omega (arith, class_of-blank v h))
word_passes v c (comment h) = absurd (omega (arith, class_of-comment v h))
word_passes v c (number h) = absurd (omega (arith, class_of-number v h))
word_passes v c (symbol s h) = absurd (omega (arith, class_of-symbol v s h))

number_passes : (v : List ℕ) → class_of v ≡ 2 → IsPiece v → list_all is_digit v ≡ true
number_passes v c (number h) = tail_passes is_digit is_digit v (same_weaker is_digit) h
number_passes v c (word h) = absurd (omega (arith, class_of-word v h))
number_passes v c (blank h) = absurd (omega (arith, class_of-blank v h))
number_passes v c (comment h) = absurd (omega (arith, class_of-comment v h))
number_passes v c (symbol s h) = absurd (omega (arith, class_of-symbol v s h))

blank_passes : (v : List ℕ) → class_of v ≡ 3 → IsPiece v → list_all is_white v ≡ true
blank_passes v c (blank h) = tail_passes is_white is_white v (same_weaker is_white) h
blank_passes v c (word h) = absurd (omega (arith, class_of-word v h))
blank_passes v c (number h) = absurd (omega (arith, class_of-number v h))
blank_passes v c (comment h) = absurd (omega (arith, class_of-comment v h))
blank_passes v c (symbol s h) = absurd (omega (arith, class_of-symbol v s h))

comment_passes : (v : List ℕ) → class_of v ≡ 4 → IsPiece v → list_all is_in_line v ≡ true
comment_passes v c (comment h) = tail_passes is_percent is_in_line v percent_weaker h
comment_passes v c (word h) = absurd (omega (arith, class_of-word v h))
comment_passes v c (number h) = absurd (omega (arith, class_of-number v h))
comment_passes v c (blank h) = absurd (omega (arith, class_of-blank v h))
comment_passes v c (symbol s h) = absurd (omega (arith, class_of-symbol v s h))

pub word_front : (text : List ℕ) (n : ℕ) → begins is_letter text ≡ true → n ≡ prefix_len is_name_byte text → IsWord (take n text)
word_front text n h e = subst (λ (k : ℕ). IsWord (take k text)) (sym e) (run_front is_letter is_name_byte text letter_weaker h)

pub word_longest : (text : List ℕ) (n : ℕ) → begins is_letter text ≡ true → n ≡ prefix_len is_name_byte text → IsLongest text (take n text) (drop n text)
word_longest text n h e =
    let front : IsWord (take_while is_name_byte text) = run_front is_letter is_name_byte text letter_weaker h in
    subst (λ (k : ℕ). IsLongest text (take k text) (drop k text)) (sym e) (run_longest is_name_byte text 1 (word front) (class_of-word _ front) word_passes)

pub number_front : (text : List ℕ) (n : ℕ) → begins is_digit text ≡ true → n ≡ prefix_len is_digit text → IsNumber (take n text)
number_front text n h e = subst (λ (k : ℕ). IsNumber (take k text)) (sym e) (run_front is_digit is_digit text (same_weaker is_digit) h)

pub number_longest : (text : List ℕ) (n : ℕ) → begins is_digit text ≡ true → n ≡ prefix_len is_digit text → IsLongest text (take n text) (drop n text)
number_longest text n h e =
    let front : IsNumber (take_while is_digit text) = run_front is_digit is_digit text (same_weaker is_digit) h in
    subst (λ (k : ℕ). IsLongest text (take k text) (drop k text)) (sym e) (run_longest is_digit text 2 (number front) (class_of-number _ front) number_passes)

pub blank_front : (text : List ℕ) (n : ℕ) → begins is_white text ≡ true → n ≡ prefix_len is_white text → IsBlank (take n text)
blank_front text n h e = subst (λ (k : ℕ). IsBlank (take k text)) (sym e) (run_front is_white is_white text (same_weaker is_white) h)

pub blank_longest : (text : List ℕ) (n : ℕ) → begins is_white text ≡ true → n ≡ prefix_len is_white text → IsLongest text (take n text) (drop n text)
blank_longest text n h e =
    let front : IsBlank (take_while is_white text) = run_front is_white is_white text (same_weaker is_white) h in
    subst (λ (k : ℕ). IsLongest text (take k text) (drop k text)) (sym e) (run_longest is_white text 3 (blank front) (class_of-blank _ front) blank_passes)

pub comment_front : (text : List ℕ) (n : ℕ) → begins is_percent text ≡ true → n ≡ prefix_len is_in_line text → IsComment (take n text)
comment_front text n h e = subst (λ (k : ℕ). IsComment (take k text)) (sym e) (run_front is_percent is_in_line text percent_weaker h)

pub comment_longest : (text : List ℕ) (n : ℕ) → begins is_percent text ≡ true → n ≡ prefix_len is_in_line text → IsLongest text (take n text) (drop n text)
comment_longest text n h e =
    let front : IsComment (take_while is_in_line text) = run_front is_percent is_in_line text percent_weaker h in
    subst (λ (k : ℕ). IsLongest text (take k text) (drop k text)) (sym e) (run_longest is_in_line text 4 (comment front) (class_of-comment _ front) comment_passes)

-- the bytes of a number are digits
pub run_passes : (w : List ℕ) → IsNumber w → list_all is_digit w ≡ true
run_passes w h = tail_passes is_digit is_digit w (same_weaker is_digit) h

-- the first byte passes the test
pub begins_at : (p : ℕ → Bool) (text : List ℕ) → 1 ≤ length text → p (slice_index_or text 0 0) ≡ true → begins p text ≡ true
begins_at p [] some h = absurd (omega arith)
begins_at p (b ∷ text) some h = h
