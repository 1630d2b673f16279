-- Digits are text, and `parse` reads them.
use Rattle.std.proofs.Common.{◌≡◌, ◌<◌, ◌≤◌, ◌^◌, ◌==◌, ℕ, ℤ, false, List, [], ◌∷◌, length, true, rules, arith, Result, Ok, Err, refl, zero, suc, pos, neg_ℤ, Bool, cond, w64, sym, ap, subst, ◌∙◌}
use mir.Syntax.{Width}
use mir.Val.{hbits}
use Rattle.std.specs.List.{list_all}
use Rattle.std.specs.Char.{is_ascii_digit}
use Rattle.std.specs.Str.{IsUtf8, IsAscii}
use Rattle.std.specs.Str.Parse.{digits_value, ParsesUnsigned, ParsesSigned}
use Rattle.std.specs.Result.{OkIff}
use Rattle.std.proofs.lemmas.Fmt.{IsAscii-from_digits}
use Rattle.std.proofs.lemmas.Bool.{ne_eqb, eqb-true}
use Rattle.std.proofs.lemmas.Int.{ints}
use Rattle.std.proofs.lemmas.Str.{IsUtf8-from_ascii}
use Rattle.std.proofs.lemmas.Str.Parse.{IsNumeralModel, numerals_by_value, parse_gives, parse_digits, not_in_digits, parse_signed_minus, parse_signed_plain}
use Rattle.df_values.specs.Values.{least, greatest, IsOrdinary}
use Rattle.df_iotext.specs.Numbers.{IsNumber, IsInteger, without_minus}
use Rattle.df_iotext.specs.Numbers.IsInteger.{plain, minus}

pub numerals : IsNumeralModel (λ ds. list_all is_ascii_digit ds ≡ true) (digits_value 10)
numerals = numerals_by_value _ (search rules)

-- a number is text
pub number_is_text : (word : List ℕ) → list_all is_ascii_digit word ≡ true → IsUtf8 word
number_is_text word digits = IsUtf8-from_ascii word (IsAscii-from_digits word (numerals.to word digits))

-- a number that fits is read
pub number_is_read : {E : Type 0} → (word text : List ℕ) (n : ℕ) (r : Result ℕ E) → n < 2 ^ 32 → IsNumber word n → text ≡ word → ParsesUnsigned 32 10 text r → r ≡ Ok n
number_is_read word text n r small is same p =
    let small_value : digits_value 10 word < 2 ^ 32 = omega (arith, is.value) in
    parse_gives numerals 32 word r (subst (λ t. ParsesUnsigned 32 10 t r) same p) is.digits is.some small_value ∙ ap Ok is.value

-- what is read of digits is their number
pub read_is_number : {E : Type 0} → (word text : List ℕ) (n : ℕ) (r : Result ℕ E) → list_all is_ascii_digit word ≡ true → text ≡ word → ParsesUnsigned 32 10 text r → r ≡ Ok n → IsNumber word n
read_is_number word text n r digits same p ok =
    let g = subst (λ s. OkIff s ((0 < length word) × (digits_value 10 word < 2 ^ 32)) (digits_value 10 word)) ok (parse_digits numerals 32 word r (subst (λ t. ParsesUnsigned 32 10 t r) same p) digits) in
    record { some = g.0.0; digits = digits; value = sym g.1 }

-- ---- integers

-- how wide an integer is in the code, and the number that its greatest and its least one are next to
abbrev pub width : Width
width = w64

abbrev limit : ℕ
limit = 2 ^ hbits width

pub digit_starts : (byte : ℕ) (word : List ℕ) → list_all is_ascii_digit (byte ∷ word) ≡ true → (byte == 45) ≡ false
digit_starts byte word digits = ne_eqb byte 45 (not_in_digits numerals (byte ∷ word) 45 digits (λ r. omega (arith, r)) 0 (omega arith))

pub integer_has_digits : (word : List ℕ) (z : ℤ) → IsInteger word z → list_all is_ascii_digit (without_minus word) ≡ true
integer_has_digits [] z (plain w n is) = refl
integer_has_digits (byte ∷ word) z (plain w n is) = rw (digit_starts byte word is.digits) is.digits
integer_has_digits (byte ∷ word) z (minus w n is) = is.digits

minus_ascii : (byte : ℕ) (word : List ℕ) → byte ≡ 45 → IsAscii word → IsAscii (byte ∷ word)
minus_ascii byte word e h zero = omega (arith, e)
minus_ascii byte word e h (suc i) = h i

text_by : (byte : ℕ) (word : List ℕ) (t : Bool) → (byte == 45) ≡ t → list_all is_ascii_digit (cond t word (byte ∷ word)) ≡ true → IsAscii (byte ∷ word)
text_by byte word true e digits = minus_ascii byte word (eqb-true byte 45 e) (IsAscii-from_digits word (numerals.to word digits))
text_by byte word false e digits = IsAscii-from_digits (byte ∷ word) (numerals.to (byte ∷ word) digits)

-- digits behind a minus, if there is one, are text
pub integer_is_text : (word : List ℕ) → list_all is_ascii_digit (without_minus word) ≡ true → IsUtf8 word
integer_is_text [] digits = number_is_text [] digits
integer_is_text (byte ∷ word) digits = IsUtf8-from_ascii (byte ∷ word) (text_by byte word (byte == 45) refl digits)

ordinary_minus : (n : ℕ) → n ≤ limit → IsOrdinary (neg_ℤ (pos n))
unfolding least greatest
ordinary_minus n h = (omega (arith, ints), omega (arith, ints))

ordinary_plain : (n : ℕ) → n < limit → IsOrdinary (pos n)
unfolding least greatest
ordinary_plain n h = (omega (arith, ints), omega (arith, ints))

small_minus : (n : ℕ) → IsOrdinary (neg_ℤ (pos n)) → n ≤ limit
unfolding least greatest
small_minus n h = omega (arith, ints, h.0, h.1)

small_plain : (n : ℕ) → IsOrdinary (pos n) → n < limit
unfolding least greatest
small_plain n h = omega (arith, ints, h.0, h.1)

-- `parse` on digits, and on digits behind a minus
abbrev ReadsPlain : {E : Type 0} → List ℕ → Result ℤ E → Type 0
ReadsPlain word r = OkIff r ((list_all is_ascii_digit word ≡ true) × (0 < length word) × (digits_value 10 word < limit)) (pos (digits_value 10 word))

abbrev ReadsMinus : {E : Type 0} → List ℕ → Result ℤ E → Type 0
ReadsMinus word r = OkIff r ((list_all is_ascii_digit word ≡ true) × (0 < length word) × (digits_value 10 word ≤ limit)) (neg_ℤ (pos (digits_value 10 word)))

reads_minus : {E : Type 0} → (byte : ℕ) (word : List ℕ) (r : Result ℤ E) → byte ≡ 45 → ParsesSigned width 10 (byte ∷ word) r → ReadsMinus word r
reads_minus byte word r e p = parse_signed_minus numerals width (byte ∷ word) r p e

reads_plain : {E : Type 0} → (byte : ℕ) (word : List ℕ) (r : Result ℤ E) → list_all is_ascii_digit (byte ∷ word) ≡ true → ParsesSigned width 10 (byte ∷ word) r → ReadsPlain (byte ∷ word) r
reads_plain byte word r digits p =
    parse_signed_plain numerals width (byte ∷ word) r p
    (not_in_digits numerals (byte ∷ word) 43 digits (λ h. omega (arith, h)) 0 (omega arith))
    (not_in_digits numerals (byte ∷ word) 45 digits (λ h. omega (arith, h)) 0 (omega arith))

was_plain : (word : List ℕ) (z : ℤ) → OkIff {E = ℕ} (Ok z) ((list_all is_ascii_digit word ≡ true) × (0 < length word) × (digits_value 10 word < limit)) (pos (digits_value 10 word)) → IsInteger word z × IsOrdinary z
was_plain word z g = (
  subst (IsInteger word) (sym g.1) (plain word (digits_value 10 word) (record { some = g.0.1; digits = g.0.0; value = refl })),
  subst IsOrdinary (sym g.1) (ordinary_plain (digits_value 10 word) g.0.2),
)

was_minus : (byte : ℕ) (word : List ℕ) (z : ℤ) → byte ≡ 45 → OkIff {E = ℕ} (Ok z) ((list_all is_ascii_digit word ≡ true) × (0 < length word) × (digits_value 10 word ≤ limit)) (neg_ℤ (pos (digits_value 10 word))) → IsInteger (byte ∷ word) z × IsOrdinary z
was_minus byte word z e g = (
  subst (λ b. IsInteger (b ∷ word) z) (sym e) (subst (IsInteger (45 ∷ word)) (sym g.1) (minus word (digits_value 10 word) (record { some = g.0.1; digits = g.0.0; value = refl }))),
  subst IsOrdinary (sym g.1) (ordinary_minus (digits_value 10 word) g.0.2),
)

was_by : {E : Type 0} → (byte : ℕ) (word : List ℕ) (z : ℤ) (r : Result ℤ E) (t : Bool) → (byte == 45) ≡ t → list_all is_ascii_digit (cond t word (byte ∷ word)) ≡ true → ParsesSigned width 10 (byte ∷ word) r → r ≡ Ok z
    → IsInteger (byte ∷ word) z × IsOrdinary z
was_by byte word z r true e digits p ok =
    let byte_is : byte ≡ 45 = eqb-true byte 45 e in
    was_minus byte word z byte_is (subst (ReadsMinus word) ok (reads_minus byte word r byte_is p))
was_by byte word z r false e digits p ok = was_plain (byte ∷ word) z (subst (ReadsPlain (byte ∷ word)) ok (reads_plain byte word r digits p))

-- what is read of a word is its integer
pub read_is_integer : {E : Type 0} → (word text : List ℕ) (z : ℤ) (r : Result ℤ E) → list_all is_ascii_digit (without_minus word) ≡ true → text ≡ word → ParsesSigned width 10 text r → r ≡ Ok z → IsInteger word z × IsOrdinary z
read_is_integer [] text z r digits same p ok =
    absurd (omega (arith, (subst (λ s. ParsesSigned width 10 [] s) ok (subst (λ t. ParsesSigned width 10 t r) same p)).0.0))
read_is_integer (byte ∷ word) text z r digits same p ok = was_by byte word z r (byte == 45) refl digits (subst (λ t. ParsesSigned width 10 t r) same p) ok

none_minus : {E : Type 0} → (word : List ℕ) (n : ℕ) (e : E) → IsNumber word n → IsOrdinary (neg_ℤ (pos n)) → ReadsMinus word (Err e) → ⊥
none_minus word n e is ordinary g = let small = small_minus n ordinary in g (is.digits, is.some, omega (arith, is.value, small))

none_plain : {E : Type 0} → (word : List ℕ) (n : ℕ) (e : E) → IsNumber word n → IsOrdinary (pos n) → ReadsPlain word (Err e) → ⊥
none_plain word n e is ordinary g = let small = small_plain n ordinary in g (is.digits, is.some, omega (arith, is.value, small))

none_for : {E : Type 0} → (word : List ℕ) (z : ℤ) (e : E) → IsInteger word z → IsOrdinary z → ParsesSigned width 10 word (Err e) → ⊥
none_for [] z e (plain w n is) ordinary p = omega (arith, is.some)
none_for (byte ∷ word) z e (plain w n is) ordinary p = none_plain (byte ∷ word) n e is ordinary (reads_plain byte word (Err e) is.digits p)
none_for (byte ∷ word) z e (minus w n is) ordinary p = none_minus word n e is ordinary (reads_minus 45 word (Err e) refl p)

-- an ordinary integer is read
pub integer_is_read : {E : Type 0} → (word text : List ℕ) (z : ℤ) (r : Result ℤ E) (e : E) → IsInteger word z → IsOrdinary z → text ≡ word → ParsesSigned width 10 text r → r ≡ Err e → ⊥
integer_is_read word text z r e is ordinary same p err =
    none_for word z e is ordinary (subst (λ s. ParsesSigned width 10 word s) err (subst (λ t. ParsesSigned width 10 t r) same p))
