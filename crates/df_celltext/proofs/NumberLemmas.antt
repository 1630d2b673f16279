-- A word spells a number only as its decimal.
use Rattle.std.proofs.Common.{◌≡◌, ℕ, ℤ, pos, negsuc, suc, ◌<◌, ◌≤◌, ◌^◌, ◌==◌, nat_le, not, Bool, true, false, ◌&&◌, List, [], ◌++◌, Some, None, length, drop, get_or, refl, sym, ap, subst, ◌∙◌, append-nil, le-leb, arith}
use Rattle.std.specs.Fmt.{decimal, signed_decimal}
use Rattle.std.specs.Int.Signed.{lt_z}
use Rattle.std.specs.Str.Parse.{digits_value, signed_digits_value}
use Rattle.std.specs.Prelude.{bytes_eq}
use Rattle.std.proofs.lemmas.Bool.{leb-true, ne_eqb}
use Rattle.std.proofs.lemmas.Str.Parse.{digit_at}
use Rattle.std.proofs.Math.IntN.{neg_ℤ}
use Rattle.std.proofs.lemmas.Fmt.{decimal_is_IsNumeral}
use Rattle.std.proofs.lemmas.Int.{ints}
use Rattle.std.proofs.lemmas.List.{drop_all, length-drop}
use Rattle.df_values.specs.Values.{least, greatest, IsOrdinary}
use Rattle.df_values.specs.Decimals.{LeadsWith, LeadsWithInteger}
use Rattle.df_values.proofs.Limits.{small_from_ordinary}
use Rattle.df_values.proofs.DecimalLemmas.{one_number, one_integer}
use Rattle.df_celltext.specs.Reading.{number_in, integer_in, is_ordinary}
use Rattle.df_celltext.proofs.OptionLemmas.{none_from, passed_some, both_true, same_bytes, bytes_same}

-- ---- numbers

pub number_again : (n : ℕ) → n ≤ 4294967295 → number_in (decimal n) ≡ Some n
unfolding number_in
number_again n small =
    let same : digits_value 10 (decimal n) ≡ n = (decimal_is_IsNumeral n (omega arith)).1 in
    let within : nat_le n 4294967295 ≡ true = le-leb _ _ small in
    rw (same, within, bytes_same (decimal n) (decimal n) refl) refl

pub number_found : (word : List ℕ) (n : ℕ) → number_in word ≡ Some n → (word ≡ decimal n) × (n ≤ 4294967295)
unfolding number_in
number_found word n h =
    let d = digits_value 10 word in
    let p = passed_some (nat_le d 4294967295 && bytes_eq word (decimal d)) d n h in
    let q = both_true (nat_le d 4294967295) (bytes_eq word (decimal d)) p.0 in
    (same_bytes _ _ q.1 ∙ ap decimal p.1, omega (arith, leb-true _ _ q.0, p.1))

pub number_none : (word : List ℕ) → ((n : ℕ) → n ≤ 4294967295 → ¬ (word ≡ decimal n)) → number_in word ≡ None
number_none word none = none_from (number_in word) (λ n h. none n (number_found word n h).1 (number_found word n h).0)

whole_number : (word : List ℕ) (n : ℕ) → word ≡ decimal n → LeadsWith word n []
whole_number word n e = record { parts = e ∙ sym (append-nil (decimal n)); ends = refl }

pub number_read : (word : List ℕ) (n length_read : ℕ) → LeadsWith word n (drop length_read word) → length word ≤ length_read → n ≤ 4294967295 → number_in word ≡ Some n
number_read word n k leads whole small =
    let none : drop k word ≡ [] = drop_all k word whole in
    let e : word ≡ decimal n = leads.parts ∙ ap (λ rest. decimal n ++ rest) none ∙ append-nil (decimal n) in
    ap number_in e ∙ number_again n small

pub number_missing : (word : List ℕ) → ((n : ℕ) (rest : List ℕ) → n < 2 ^ 64 → ¬ LeadsWith word n rest) → number_in word ≡ None
number_missing word none = number_none word (λ n small e. none n [] (omega arith) (whole_number word n e))

pub number_too_long : (word : List ℕ) (n k : ℕ) → n < 2 ^ 64 → LeadsWith word n (drop k word) → k < length word → number_in word ≡ None
number_too_long word n k small leads short =
    number_none word (λ m within e.
    let rest : drop k word ≡ [] = (one_number word (drop k word) [] n m small (omega arith) leads (whole_number word m e)).1 in
    omega (arith, length-drop k word, ap length rest))

pub number_too_large : (word : List ℕ) (n k : ℕ) → n < 2 ^ 64 → LeadsWith word n (drop k word) → 4294967295 < n → number_in word ≡ None
number_too_large word n k small leads large =
    number_none word (λ m within e.
    omega (arith, (one_number word (drop k word) [] n m small (omega arith) leads (whole_number word m e)).0))

-- ---- integers

ordinary_true : (z : ℤ) → IsOrdinary z → is_ordinary z ≡ true
ordinary_true z h =
    let low : lt_z z least ≡ false = grind (arith, ints, h.0) in
    let high : lt_z greatest z ≡ false = grind (arith, ints, h.1) in
    rw (low, high) refl

pub not_false : (b : Bool) → not b ≡ true → b ≡ false
not_false true h = cc
not_false false h = refl

true_ordinary : (z : ℤ) → is_ordinary z ≡ true → IsOrdinary z
true_ordinary z h =
    let both = both_true (not (lt_z z least)) (not (lt_z greatest z)) h in
    let low : lt_z z least ≡ false = not_false _ both.0 in
    let high : lt_z greatest z ≡ false = not_false _ both.1 in
    (grind (arith, ints, low), grind (arith, ints, high))

digits_of_integer : (z : ℤ) → IsOrdinary z → signed_digits_value 10 (signed_decimal z) ≡ z
digits_of_integer (pos n) h =
    let small : n < 2 ^ 63 = small_from_ordinary (pos n) h in
    let wide : n < 2 ^ 64 = omega arith in
    let k = decimal_is_IsNumeral n wide in
    let first = digit_at (decimal n) 0 k.0.1 k.0.0 in
    let minus : (get_or (decimal n) 0 0 == 45) ≡ false = ne_eqb _ _ (λ e. omega (arith, first, e)) in
    let plus : (get_or (decimal n) 0 0 == 43) ≡ false = ne_eqb _ _ (λ e. omega (arith, first, e)) in
    rw (minus, plus, k.1) refl
digits_of_integer (negsuc n) h =
    let small : suc n < 2 ^ 64 = let m = small_from_ordinary (negsuc n) h in omega arith in
    ap (λ d. neg_ℤ (pos d)) (decimal_is_IsNumeral (suc n) small).1

pub integer_again : (z : ℤ) → IsOrdinary z → integer_in (signed_decimal z) ≡ Some z
unfolding integer_in
integer_again z h =
    let same : signed_digits_value 10 (signed_decimal z) ≡ z = digits_of_integer z h in
    rw (same, ordinary_true z h, bytes_same (signed_decimal z) (signed_decimal z) refl) refl

pub integer_found : (word : List ℕ) (z : ℤ) → integer_in word ≡ Some z → (word ≡ signed_decimal z) × IsOrdinary z
unfolding integer_in
integer_found word z h =
    let d = signed_digits_value 10 word in
    let p = passed_some (is_ordinary d && bytes_eq word (signed_decimal d)) d z h in
    let q = both_true (is_ordinary d) (bytes_eq word (signed_decimal d)) p.0 in
    (same_bytes _ _ q.1 ∙ ap signed_decimal p.1, let P : ℤ → Type 0 = IsOrdinary in subst P p.1 (true_ordinary d q.0))

pub integer_none : (word : List ℕ) → ((z : ℤ) → IsOrdinary z → ¬ (word ≡ signed_decimal z)) → integer_in word ≡ None
integer_none word none = none_from (integer_in word) (λ z h. none z (integer_found word z h).1 (integer_found word z h).0)

whole_integer : (word : List ℕ) (z : ℤ) → word ≡ signed_decimal z → LeadsWithInteger word z []
whole_integer word z e = record { parts = e ∙ sym (append-nil (signed_decimal z)); ends = refl }

pub integer_read : (word : List ℕ) (z : ℤ) (k : ℕ) → LeadsWithInteger word z (drop k word) → length word ≤ k → IsOrdinary z → integer_in word ≡ Some z
integer_read word z k leads whole ordinary =
    let none : drop k word ≡ [] = drop_all k word whole in
    let e : word ≡ signed_decimal z = leads.parts ∙ ap (λ rest. signed_decimal z ++ rest) none ∙ append-nil (signed_decimal z) in
    ap integer_in e ∙ integer_again z ordinary

pub integer_missing : (word : List ℕ) → ((z : ℤ) (rest : List ℕ) → IsOrdinary z → ¬ LeadsWithInteger word z rest) → integer_in word ≡ None
integer_missing word none = integer_none word (λ z ordinary e. none z [] ordinary (whole_integer word z e))

pub integer_too_long : (word : List ℕ) (z : ℤ) (k : ℕ) → IsOrdinary z → LeadsWithInteger word z (drop k word) → k < length word → integer_in word ≡ None
integer_too_long word z k ordinary leads short =
    integer_none word (λ y within e.
    let rest : drop k word ≡ [] = (one_integer word z y (drop k word) [] (small_from_ordinary z ordinary) (small_from_ordinary y within) leads (whole_integer word y e)).1 in
    omega (arith, length-drop k word, ap length rest))
