-- The longest symbol is the longest piece where no run begins.
use Rattle.std.proofs.Common.{◌≡◌, ℕ, ◌≤◌, inl, inr, true, false, List, [], ◌∷◌, ◌++◌, Option, Some, None, take, drop, length, refl, sym, ◌∙◌, ap, subst, arith}
use Rattle.std.specs.Prelude.{IfSome, IfNone, slice_get}
use Rattle.std.specs.Option.{option_or}
use Rattle.std.proofs.lemmas.Bool.{eqb-true, cases_lt}
use Rattle.std.proofs.lemmas.List.{take-append-drop, length-append}
use Rattle.std.proofs.Math.Seq.{take-append_seam}
use Rattle.df_syntax.specs.declared.symbol.Symbol.{Symbol}
use Rattle.df_syntax.specs.Symbols.{sign, symbol_at}
use Rattle.df_syntax.specs.Pieces.{IsPiece, blank, comment, word, number, symbol, IsLongest}
use Rattle.df_syntax.specs.Tokens.{IsBad, no_token}
use Rattle.df_syntax.proofs.Classes.{class_of, class_of-word, class_of-number, class_of-blank, class_of-comment}
use Rattle.df_syntax.proofs.Spellings.{symbol_found, symbol_missing, is_short_sign, is_short_sign-sign}
use Rattle.df_syntax.proofs.OneReading.{piece_some}
use Rattle.df_lexer.specs.Symbols.{is_equals_second, IsLongestSymbol, BeginsNoSymbol}
use Rattle.df_lexer.specs.Steps.{BeginsNoRun}

-- ---- among symbols

short_length : (w : List ℕ) → is_short_sign w ≡ true → length w ≤ 2
short_length [] h = omega arith
short_length (a ∷ []) h = omega arith
short_length (a ∷ b ∷ []) h = omega arith
short_length (a ∷ b ∷ c ∷ w) h = cc

-- a symbol of two bytes at the front of a text
two_at_front : (text : List ℕ) (a : ℕ) (w rest : List ℕ) → slice_get text 0 ≡ Some a → is_short_sign w ≡ true → text ≡ w ++ rest → 2 ≤ length w → (is_equals_second text ≡ true) × (w ≡ a ∷ 61 ∷ [])
two_at_front text a [] rest g h e long = cc
two_at_front text a (x ∷ []) rest g h e long = absurd (omega arith)
two_at_front text a (x ∷ y ∷ []) rest g h e long =
    let second : y ≡ 61 = eqb-true y 61 h in
    let first : Some x ≡ Some a = ap (λ (z : List ℕ). slice_get z 0) (sym e) ∙ g in
    (rw e h, cc (second, first))
two_at_front text a (x ∷ y ∷ z ∷ w) rest g h e long = cc

one_at_front : (text : List ℕ) (a : ℕ) (w rest : List ℕ) → slice_get text 0 ≡ Some a → is_short_sign w ≡ true → text ≡ w ++ rest → length w ≤ 1 → w ≡ a ∷ []
one_at_front text a [] rest g h e small = cc
one_at_front text a (x ∷ []) rest g h e small =
    let first : Some x ≡ Some a = ap (λ (z : List ℕ). slice_get z 0) (sym e) ∙ g in
    cc
one_at_front text a (x ∷ y ∷ w) rest g h e small = absurd (omega arith)

split_first : (text : List ℕ) (a : ℕ) → slice_get text 0 ≡ Some a → (rest : List ℕ) × (text ≡ a ∷ rest)
split_first [] a g = cc
split_first (x ∷ text) a g = (text, cc)

split_second : (text : List ℕ) (a : ℕ) → slice_get text 0 ≡ Some a → is_equals_second text ≡ true → (rest : List ℕ) × (text ≡ a ∷ 61 ∷ rest)
split_second [] a g h = cc
split_second (x ∷ []) a g h = cc
split_second (x ∷ y ∷ text) a g h = (text, (let second : y ≡ 61 = eqb-true y 61 h in cc))

pub equals_longest : (text : List ℕ) (a : ℕ) (s : Symbol) → slice_get text 0 ≡ Some a → is_equals_second text ≡ true → symbol_at (a ∷ 61 ∷ []) ≡ Some s → IsLongestSymbol text s
equals_longest text a s g h found =
    let here : a ∷ 61 ∷ [] ≡ sign s = symbol_found (a ∷ 61 ∷ []) s found in
    let parts : (rest : List ℕ) × (text ≡ a ∷ 61 ∷ rest) = split_second text a g h in
    record {
      begins = (parts.0, parts.1 ∙ ap (λ (z : List ℕ). z ++ parts.0) here);
      longest = λ t rest e. omega (arith, short_length (sign t) (is_short_sign-sign t), ap length here);
    }

pub single_longest : (text : List ℕ) (a : ℕ) (s : Symbol) → slice_get text 0 ≡ Some a → (is_equals_second text ≡ true → symbol_at (a ∷ 61 ∷ []) ≡ None) → symbol_at (a ∷ []) ≡ Some s → IsLongestSymbol text s
single_longest text a s g none found =
    let here : a ∷ [] ≡ sign s = symbol_found (a ∷ []) s found in
    let parts : (rest : List ℕ) × (text ≡ a ∷ rest) = split_first text a g in
    record {
      begins = (parts.0, parts.1 ∙ ap (λ (z : List ℕ). z ++ parts.0) here);
      longest = λ t rest e. elim (cases_lt (length (sign t)) 2) [
        | inl small ↦ omega (arith, ap length here)
        | inr long ↦ (
            let two : (is_equals_second text ≡ true) × (sign t ≡ a ∷ 61 ∷ []) = two_at_front text a (sign t) rest g (is_short_sign-sign t) e long in
            absurd (symbol_missing (a ∷ 61 ∷ []) (none two.0) t (sym two.1)))
      ];
    }

pub none_there : (text : List ℕ) (a : ℕ) → slice_get text 0 ≡ Some a → (is_equals_second text ≡ true → symbol_at (a ∷ 61 ∷ []) ≡ None) → symbol_at (a ∷ []) ≡ None → BeginsNoSymbol text
none_there text a g none missing = record {
  none = λ s rest e. elim (cases_lt (length (sign s)) 2) [
    | inl small ↦ symbol_missing (a ∷ []) missing s (sym (one_at_front text a (sign s) rest g (is_short_sign-sign s) e (omega arith)))
    | inr long ↦ (
        let two : (is_equals_second text ≡ true) × (sign s ≡ a ∷ 61 ∷ []) = two_at_front text a (sign s) rest g (is_short_sign-sign s) e long in
        symbol_missing (a ∷ 61 ∷ []) (none two.0) s (sym two.1))
  ];
}

-- what is found is the longest symbol, and where nothing is found there is none
pub record IsAnswer (text : List ℕ) (o : Option Symbol) : Type 0 where
  pub found : IfSome o (IsLongestSymbol text)
  pub none : IfNone o (BeginsNoSymbol text)

pub with_equals_answer : (text : List ℕ) (a : ℕ) (p q o : Option Symbol) → slice_get text 0 ≡ Some a → is_equals_second text ≡ true → p ≡ symbol_at (a ∷ 61 ∷ []) → q ≡ symbol_at (a ∷ []) → o ≡ option_or p q → IsAnswer text o
with_equals_answer text a (Some s) q o g h x y e =
    subst (IsAnswer text) (sym e) (record { found = equals_longest text a s g h (sym x); none = tt })
with_equals_answer text a None (Some s) o g h x y e =
    subst (IsAnswer text) (sym e) (record { found = single_longest text a s g (λ second. sym x) (sym y); none = tt })
with_equals_answer text a None None o g h x y e =
    subst (IsAnswer text) (sym e) (record { found = tt; none = none_there text a g (λ second. sym x) (sym y) })

pub single_answer : (text : List ℕ) (a : ℕ) (o : Option Symbol) → slice_get text 0 ≡ Some a → is_equals_second text ≡ false → o ≡ symbol_at (a ∷ []) → IsAnswer text o
single_answer text a (Some s) g h x = record { found = single_longest text a s g (λ second. cc (second, h)) (sym x); none = tt }
single_answer text a None g h x = record { found = tt; none = none_there text a g (λ second. cc (second, h)) (sym x) }

-- ---- among all pieces

class_of-other : (text : List ℕ) → BeginsNoRun text → class_of text ≡ 0
class_of-other [] h = absurd (omega (arith, h.some))
class_of-other (b ∷ text) h = rw (h.letter, h.digit, h.white, h.percent) refl

class_of-front : (text v rest : List ℕ) → text ≡ v ++ rest → 1 ≤ length v → class_of v ≡ class_of text
class_of-front text [] rest e h = absurd (omega arith)
class_of-front text (b ∷ v) rest e h = rw e refl

-- each piece there is a symbol
only_symbols : (text v rest : List ℕ) → BeginsNoRun text → text ≡ v ++ rest → IsPiece v → (s : Symbol) × (v ≡ sign s)
only_symbols text v rest h e (symbol s q) = (s, q)
only_symbols text v rest h e (word q) = absurd (omega (arith, class_of-other text h, class_of-front text v rest e (piece_some v (word q)), class_of-word v q))
only_symbols text v rest h e (number q) = absurd (omega (arith, class_of-other text h, class_of-front text v rest e (piece_some v (number q)), class_of-number v q))
only_symbols text v rest h e (blank q) = absurd (omega (arith, class_of-other text h, class_of-front text v rest e (piece_some v (blank q)), class_of-blank v q))
only_symbols text v rest h e (comment q) = absurd (omega (arith, class_of-other text h, class_of-front text v rest e (piece_some v (comment q)), class_of-comment v q))

-- the front of a text that is a symbol
pub symbol_front : (text : List ℕ) (s : Symbol) (n : ℕ) → IsLongestSymbol text s → n ≡ length (sign s) → take n text ≡ sign s
symbol_front text s n h e =
    let joined : take (length (sign s)) text ≡ sign s = rw h.begins.1 (take-append_seam (sign s) h.begins.0) in
    subst (λ (k : ℕ). take k text ≡ sign s) (sym e) joined

pub symbol_within : (text : List ℕ) (s : Symbol) (n : ℕ) → IsLongestSymbol text s → n ≡ length (sign s) → n ≤ length text
symbol_within text s n h e = omega (arith, e, ap length h.begins.1, length-append (sign s) h.begins.0)

pub symbol_longest : (text : List ℕ) (s : Symbol) (n : ℕ) → BeginsNoRun text → IsLongestSymbol text s → n ≡ length (sign s) → IsLongest text (take n text) (drop n text)
symbol_longest text s n other h e =
    let front : take n text ≡ sign s = symbol_front text s n h e in
    record {
      parts = sym (take-append-drop n text);
      piece = symbol s front;
      longest = λ v later q p.
          let there : (t : Symbol) × (v ≡ sign t) = only_symbols text v later other q p in
          let fits : length (sign there.0) ≤ length (sign s) = h.longest there.0 later (q ∙ ap (λ (z : List ℕ). z ++ later) there.1) in
          omega (arith, fits, ap length there.1, ap length front);
    }

pub no_piece : (text : List ℕ) → BeginsNoRun text → BeginsNoSymbol text → IsBad no_token text
no_piece text other h = (
  λ e. omega (arith, other.some, ap length e),
  λ w rest e p.
      let there : (t : Symbol) × (w ≡ sign t) = only_symbols text w rest other e p in
      h.none there.0 rest (e ∙ ap (λ (z : List ℕ). z ++ rest) there.1),
)
