-- A schedule that is printed is read back.
use Rattle.std.proofs.Common.{◌≡◌, ℕ, zero, suc, ◌<◌, ◌≤◌, ◌^◌, Bool, true, false, List, [], ◌∷◌, ◌++◌, length, map, get_or, codes, refl, sym, ap, ◌∙◌, subst, arith, append_assoc, lit<, Ok}
use Rattle.std.specs.Prelude.{All}
use Rattle.std.specs.List.{slice_split, filter, join_with_byte, AllByRecursion}
use Rattle.std.specs.Fmt.{decimal}
use Rattle.std.proofs.lemmas.Grind.{common_steps}
use Rattle.std.proofs.lemmas.List.{get_or_default}
use Rattle.std.proofs.lemmas.List.Splits.{slice_split_at}
use Rattle.std.proofs.lemmas.Fmt.{decimal_is_IsNumeral}
use Rattle.std.proofs.lemmas.Str.Parse.{digit_at}
use Rattle.df_cells.specs.declared.schedules.Schedule.{Schedule}
use Rattle.df_iotext.specs.Words.{is_gap}
use Rattle.df_iotext.specs.Numbers.{IsNumber}
use Rattle.df_iotext.specs.Schedules.{IsChoice, drain_word, AreDrain, AreWords, ReadsSchedule, schedule_words}
use Rattle.df_iotext.specs.Printed.{drain_text, schedule_text}
use Rattle.df_iotext.specs.declared.words.Gaps.TheVariants.{BlanksAndLineEnds}
use Rattle.df_iotext.proofs.WordLemmas.{has_bytes, kept}
use Rattle.df_iotext.proofs.NumberLemmas.{numerals}

abbrev gap : ℕ → Bool
gap = is_gap BlanksAndLineEnds

-- ---- a word before a gap

word_before : (word rest : List ℕ) (g : ℕ) → 0 < length word → All (λ b. gap b ≡ false) word → gap g ≡ true → schedule_words (word ++ g ∷ rest) ≡ word ∷ schedule_words rest
word_before word rest g some inside is =
    ap (filter has_bytes) (slice_split_at gap word g rest inside is) ∙ kept word (slice_split gap rest) some

digit_is_no_gap : (b : ℕ) → 48 ≤ b → b ≤ 57 → gap b ≡ false
digit_is_no_gap b low high = grind (arith, common_steps)

decimal_inside : (n : ℕ) → n < 2 ^ 64 → All (λ b. gap b ≡ false) (decimal n)
decimal_inside n small k d below =
    let digits = (decimal_is_IsNumeral n small).0.1 in
    let at = digit_at (decimal n) k digits below in
    let same : get_or (decimal n) k d ≡ get_or (decimal n) k 0 = get_or_default (decimal n) k d 0 below in
    digit_is_no_gap (get_or (decimal n) k d) (omega (arith, at, same)) (omega (arith, at, same))

decimal_number : (n : ℕ) → n < 2 ^ 64 → IsNumber (decimal n) n
decimal_number n small =
    let k = decimal_is_IsNumeral n small in
    record { some = k.0.0; digits = numerals.from (decimal n) k.0.1; value = k.1 }

decimal_before : (n : ℕ) (rest : List ℕ) (g : ℕ) → n < 2 ^ 64 → gap g ≡ true → schedule_words (decimal n ++ g ∷ rest) ≡ decimal n ∷ schedule_words rest
decimal_before n rest g small is = word_before (decimal n) rest g (decimal_is_IsNumeral n small).0.0 (decimal_inside n small) is

-- ---- the words behind the choices

abbrev behind : ℕ → List ℕ
behind drain = drain_text drain ++ codes "\n"

-- the first byte behind the choices, which is a gap, and the others
first_behind : ℕ → ℕ
first_behind zero = 10
first_behind (suc n) = 32

rest_behind : ℕ → List ℕ
rest_behind zero = []
rest_behind (suc n) = codes "drain" ++ 32 ∷ (decimal (suc n) ++ codes "\n")

behind_is : (drain : ℕ) → behind drain ≡ first_behind drain ∷ rest_behind drain
unfolding first_behind rest_behind
behind_is zero = refl
behind_is (suc n) = refl

is_gap_behind : (drain : ℕ) → gap (first_behind drain) ≡ true
unfolding first_behind
is_gap_behind zero = refl
is_gap_behind (suc n) = refl

drain_inside : All (λ b. gap b ≡ false) drain_word
drain_inside zero d h = refl
drain_inside (suc zero) d h = refl
drain_inside (suc (suc zero)) d h = refl
drain_inside (suc (suc (suc zero))) d h = refl
drain_inside (suc (suc (suc (suc zero)))) d h = refl
drain_inside (suc (suc (suc (suc (suc k))))) d h = absurd (omega arith)

drain_words : (drain : ℕ) → drain ≤ 1_000_000_000 → AreDrain (schedule_words (rest_behind drain)) drain
unfolding rest_behind
drain_words zero h = refl
drain_words (suc n) h =
    let fits : suc n < 2 ^ 64 = omega arith in
    let two : schedule_words (rest_behind (suc n)) ≡ drain_word ∷ decimal (suc n) ∷ [] =
    word_before drain_word (decimal (suc n) ++ codes "\n") 32 (lit< tt) drain_inside refl ∙ ap (λ ws. drain_word ∷ ws) (decimal_before (suc n) [] 10 fits refl) in
    subst (λ ws. AreDrain ws (suc n)) (sym two) (refl, record { number = decimal_number (suc n) fits; small = h })

choice_word : (c : ℕ) → c ≤ 4_294_967_295 → IsChoice (decimal c) c
choice_word c small = record { number = decimal_number c (omega arith); small = small }

-- a gap at the front parts nothing
drains_behind : (drain : ℕ) → drain ≤ 1_000_000_000 → AreDrain (schedule_words (first_behind drain ∷ rest_behind drain)) drain
unfolding first_behind rest_behind
drains_behind zero short = refl
drains_behind (suc n) short = drain_words (suc n) short

-- the words of the choices and the drain
choice_words : (choices : List ℕ) (drain : ℕ) → AllByRecursion (λ c. c ≤ 4_294_967_295) choices → drain ≤ 1_000_000_000 → AreWords (schedule_words (join_with_byte 32 (map decimal choices) ++ (first_behind drain ∷ rest_behind drain))) choices drain
choice_words [] drain small short = drains_behind drain short
choice_words (c ∷ []) drain small short =
    let fits : c < 2 ^ 64 = omega (arith, small.0) in
    subst (λ ws. AreWords ws (c ∷ []) drain) (sym (decimal_before c (rest_behind drain) (first_behind drain) fits (is_gap_behind drain))) (choice_word c small.0, drain_words drain short)
choice_words (c ∷ next ∷ choices) drain small short =
    let fits : c < 2 ^ 64 = omega (arith, small.0) in
    let rest : List ℕ = join_with_byte 32 (map decimal (next ∷ choices)) in
    let tail : List ℕ = first_behind drain ∷ rest_behind drain in
    let split : schedule_words ((decimal c ++ (32 ∷ rest)) ++ tail) ≡ decimal c ∷ schedule_words (rest ++ tail) =
    ap schedule_words (append_assoc (decimal c) (32 ∷ rest) tail) ∙ decimal_before c (rest ++ tail) 32 fits refl in
    subst (λ ws. AreWords ws (c ∷ next ∷ choices) drain) (sym split) (choice_word c small.0, choice_words (next ∷ choices) drain small.1 short)

pub printed_is_read : (schedule : Schedule) → AllByRecursion (λ c. c ≤ 4_294_967_295) schedule.choices → length schedule.choices ≤ 1_000_000 → schedule.drain ≤ 1_000_000_000 → ReadsSchedule (schedule_text schedule) (Ok schedule)
printed_is_read schedule small few short = record {
  few = few;
  each =
      subst (λ t. AreWords (schedule_words (join_with_byte 32 (map decimal schedule.choices) ++ t)) schedule.choices schedule.drain) (sym (behind_is schedule.drain))
      (choice_words schedule.choices schedule.drain small short);
}
