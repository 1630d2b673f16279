-- Every text has a reading as a schedule.
use Rattle.std.proofs.Common.{◌≡◌, ◌≢◌, ℕ, ◌+◌, ◌≤◌, ◌⊎◌, inl, inr, List, [], ◌∷◌, ◌++◌, length, refl, sym, ap, ◌∙◌, subst, arith, append_assoc, bytes_eq, lit≤, Result, Ok, Err, ⊎_elim}
use Rattle.std.specs.List.{AllZip, list_all}
use Rattle.std.specs.Char.{is_ascii_digit}
use Rattle.std.specs.Str.Parse.{digits_value}
use Rattle.std.proofs.lemmas.Bool.{cases_eq, cases_Bool, cases_lt, true≢false}
use Rattle.std.proofs.lemmas.List.{length-append}
use Rattle.std.proofs.lemmas.Slice.Eq.{bytes_eq-Decides}
use Rattle.df_cells.specs.declared.schedules.Schedule.{Schedule}
use Rattle.df_iotext.specs.Numbers.{IsNumber}
use Rattle.df_iotext.specs.Schedules.{IsChoice, IsCount, drain_word, AreWords, AreSchedule, IsBadWord, ReadsSchedule, schedule_words}
use Rattle.df_iotext.specs.Schedules.IsBadWord.{wrong as bad_word}
use Rattle.df_iotext.specs.Readers.IsBadDrain.{missing, wrong as bad_count, longer}
use Rattle.df_iotext.proofs.ScheduleLemmas.{words_from, choice_goes_wrong, bad_drain, zip_push}

-- a word is a number up to a limit, or none
number_or_not : (word : List ℕ) (most : ℕ) → ((n : ℕ) × (IsNumber word n × (n ≤ most))) ⊎ ((n : ℕ) → n ≤ most → ¬ IsNumber word n)
number_or_not word most =
    ⊎_elim
    (λ digits. ⊎_elim
    (λ some. ⊎_elim
    (λ over. inr (λ n small is. omega (arith, over, small, is.value)))
    (λ small. inl (digits_value 10 word, (record { some = some; digits = digits; value = refl }, small)))
    (cases_lt most (digits_value 10 word)))
    (λ none. inr (λ n small is. omega (arith, none, is.some)))
    (cases_lt 0 (length word)))
    (λ other. inr (λ n small is. true≢false (sym is.digits ∙ other)))
    (cases_Bool (list_all is_ascii_digit word))

-- one of the two, for all words
abbrev WordsRead : List (List ℕ) → Type 0
WordsRead text = ((schedule : Schedule) × AreSchedule text schedule) ⊎ ((k : ℕ) × IsBadWord text k)

counted : (text before : List (List ℕ)) (word : List ℕ) (behind : List (List ℕ)) (choices : List ℕ) (count : ℕ) → AllZip IsChoice before choices → length choices ≤ 1_000_000 → IsCount word count
    → text ≡ before ++ drain_word ∷ word ∷ behind → WordsRead text
counted text before word [] choices count p few is e =
    inl (record { choices = choices; drain = count }, record { few = few; each = subst (λ t. AreWords t choices count) (sym e) (words_from before (drain_word ∷ word ∷ []) choices count p (refl, is)) })
counted text before word (next ∷ more) choices count p few is e =
    inr (length before + 3, bad_drain text before (word ∷ next ∷ more) choices (length before + 1) (length before + 3) p few e refl (longer word count next more refl is (omega arith)))

behind_drain : (text before behind : List (List ℕ)) (choices : List ℕ) → AllZip IsChoice before choices → length choices ≤ 1_000_000 → text ≡ before ++ drain_word ∷ behind → WordsRead text
behind_drain text before [] choices p few e =
    inr (length before + 1, bad_drain text before [] choices (length before + 1) (length before + 1) p few e refl (missing refl refl))
behind_drain text before (word ∷ behind) choices p few e =
    ⊎_elim
    (λ n. counted text before word behind choices n.0 p few (record { number = n.1.0; small = n.1.1 }) e)
    (λ none. inr (length before + 2, bad_drain text before (word ∷ behind) choices (length before + 1) (length before + 2) p few e refl (bad_count word behind refl (λ n is. none n is.small is.number) (omega arith))))
    (number_or_not word 1_000_000_000)

words_read : (text before rest : List (List ℕ)) (choices : List ℕ) → AllZip IsChoice before choices → length choices ≤ 1_000_000 → text ≡ before ++ rest → WordsRead text
words_read text before [] choices p few e =
    inl (record { choices = choices; drain = 0 }, record { few = few; each = subst (λ t. AreWords t choices 0) (sym e) (words_from before [] choices 0 p refl) })
words_read text before (word ∷ rest) choices p few e =
    ⊎_elim
    (λ yes. behind_drain text before rest choices p few (e ∙ ap (λ w. before ++ w ∷ rest) ((bytes_eq-Decides word drain_word).0 yes)))
    (λ other.
    let apart : word ≢ drain_word = λ same. true≢false (sym ((bytes_eq-Decides word drain_word).1 same) ∙ other) in
    ⊎_elim
    (λ full. inr (length before + 1, bad_word before word rest e refl (choice_goes_wrong before word choices p few apart (inl full))))
    (λ room. ⊎_elim
    (λ n.
    let more : length (choices ++ n.0 ∷ []) ≤ 1_000_000 = omega (arith, few, room, length-append choices (n.0 ∷ [])) in
    words_read text (before ++ word ∷ []) rest (choices ++ n.0 ∷ []) (zip_push before choices word n.0 p (record { number = n.1.0; small = n.1.1 })) more (e ∙ sym (append_assoc before (word ∷ []) rest)))
    (λ none. inr (length before + 1, bad_word before word rest e refl (choice_goes_wrong before word choices p few apart (inr none))))
    (number_or_not word 4_294_967_295))
    (cases_eq (length choices) 1_000_000))
    (cases_Bool (bytes_eq word drain_word))

pub some_reading : (text : List ℕ) → (reading : Result Schedule ℕ) × ReadsSchedule text reading
some_reading text = ⊎_elim (λ s. (Ok s.0, s.1)) (λ b. (Err b.0, b.1)) (words_read (schedule_words text) [] (schedule_words text) [] tt (lit≤ tt) refl)
