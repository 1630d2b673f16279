-- A text has one reading at most as a schedule.
use Rattle.std.proofs.Common.{◌≡◌, ℕ, ◌+◌, ◌<◌, List, [], ◌∷◌, ◌++◌, length, refl, sym, ap, ◌∙◌, subst, arith, append_assoc, append-nil, Result, Ok, Err, ⊎_elim}
use Rattle.std.proofs.lemmas.Bool.{cases_order}
use Rattle.std.proofs.lemmas.List.{same_from_push}
use Rattle.df_cells.specs.declared.schedules.Schedule.{Schedule}
use Rattle.df_iotext.specs.Schedules.{IsChoice, drain_word, AreDrain, AreWords, AreSchedule, BeginSchedule, GoWrong, IsBadWord, schedule_words, ReadsSchedule}
use Rattle.df_iotext.specs.Schedules.IsBadWord.{wrong, unfinished}
use Rattle.df_iotext.proofs.ScheduleLemmas.{drain_is_no_number, drain_leads}

record Same (choices others : List ℕ) (drain other : ℕ) : Type 0 where
  same_choices : choices ≡ others
  same_drain : drain ≡ other

one_drain : (text : List (List ℕ)) (d e : ℕ) → AreDrain text d → AreDrain text e → d ≡ e
one_drain [] d e p q = p ∙ sym q
one_drain (word ∷ []) d e p q = absurd p
one_drain (word ∷ count ∷ []) d e p q = sym p.1.number.value ∙ q.1.number.value
one_drain (word ∷ count ∷ next ∷ more) d e p q = absurd p

no_choice_leads : (word : List ℕ) (text : List (List ℕ)) (d x : ℕ) → AreDrain (word ∷ text) d → ¬ IsChoice word x
no_choice_leads word text d x p q = drain_is_no_number word x (drain_leads word text d p) q.number

one_words : (text : List (List ℕ)) (xs ys : List ℕ) (d e : ℕ) → AreWords text xs d → AreWords text ys e → Same xs ys d e
one_words text [] [] d e p q = record { same_choices = refl; same_drain = one_drain text d e p q }
one_words [] [] (y ∷ ys) d e p q = absurd q
one_words (word ∷ text) [] (y ∷ ys) d e p q = absurd (no_choice_leads word text d y p q.0)
one_words [] (x ∷ xs) ys d e p q = absurd p
one_words (word ∷ text) (x ∷ xs) [] d e p q = absurd (no_choice_leads word text e x q p.0)
one_words (word ∷ text) (x ∷ xs) (y ∷ ys) d e p q =
    let same = one_words text xs ys d e p.1 q.1 in
    let first : x ≡ y = sym p.0.number.value ∙ q.0.number.value in
    record { same_choices = λ i. first i ∷ same.same_choices i; same_drain = same.same_drain }

same_schedule : (one other : Schedule) → one.choices ≡ other.choices → one.drain ≡ other.drain → one ≡ other
same_schedule one other p q = ap (λ xs. record { choices = xs; drain = one.drain }) p ∙ ap (λ d. record { choices = other.choices; drain = d }) q

-- ---- no schedule ends with `drain`

no_drain_alone : (before : List (List ℕ)) (d : ℕ) → ¬ AreDrain (before ++ drain_word ∷ []) d
no_drain_alone [] d p = p
no_drain_alone (word ∷ []) d p = drain_is_no_number drain_word d refl p.1.number
no_drain_alone (word ∷ next ∷ []) d p = p
no_drain_alone (word ∷ next ∷ more ∷ before) d p = p

never_unfinished : (before : List (List ℕ)) (xs : List ℕ) (d : ℕ) → ¬ AreWords (before ++ drain_word ∷ []) xs d
never_unfinished before [] d p = no_drain_alone before d p
never_unfinished [] (x ∷ xs) d p = drain_is_no_number drain_word x refl p.0.number
never_unfinished (word ∷ before) (x ∷ xs) d p = never_unfinished before xs d p.1

-- ---- what begins a schedule begins it with fewer words

begins_shorter : (text front more : List (List ℕ)) → text ≡ front ++ more → BeginSchedule text → BeginSchedule front
begins_shorter text front more e b =
    (more ++ b.0, (b.1.0, subst (λ t. AreSchedule t b.1.0) (ap (λ t. t ++ b.0) e ∙ append_assoc front more b.0) b.1.1))

record Longer (front whole : List (List ℕ)) : Type 0 where
  more : List (List ℕ)
  parts : whole ≡ front ++ more

longer : (before others : List (List ℕ)) (word other : List ℕ) (behind rest : List (List ℕ)) → before ++ word ∷ behind ≡ others ++ other ∷ rest → length before < length others → Longer (before ++ word ∷ []) others
longer before [] word other behind rest e less = absurd (omega arith)
longer [] (first ∷ others) word other behind rest e less = let same : word ≡ first = cc in record { more = others; parts = ap (λ w. w ∷ others) (sym same) }
longer (start ∷ before) (first ∷ others) word other behind rest e less =
    let same : start ≡ first = cc in
    let tails : before ++ word ∷ behind ≡ others ++ other ∷ rest = cc in
    let h = longer before others word other behind rest tails (omega arith) in
    record { more = h.more; parts = λ i. sym same i ∷ h.parts i }

-- ---- one reading

not_both : (text before : List (List ℕ)) (word : List ℕ) (behind : List (List ℕ)) → text ≡ before ++ word ∷ behind → GoWrong before word → ¬ BeginSchedule text
not_both text before word behind e g b =
    g.wrong (begins_shorter text (before ++ word ∷ []) behind (e ∙ sym (append_assoc before (word ∷ []) behind)) b)

whole_begins : (text : List (List ℕ)) (schedule : Schedule) → AreSchedule text schedule → BeginSchedule text
whole_begins text schedule s = ([], (schedule, subst (λ t. AreSchedule t schedule) (sym (append-nil text)) s))

bad_or_schedule : (text : List (List ℕ)) (schedule : Schedule) (k : ℕ) → AreSchedule text schedule → ¬ IsBadWord text k
bad_or_schedule text schedule k s (wrong before word behind e place g) = not_both text before word behind e g (whole_begins text schedule s)
bad_or_schedule text schedule k s (unfinished before e place b) =
    never_unfinished before schedule.choices schedule.drain (subst (λ t. AreWords t schedule.choices schedule.drain) e s.each)

one_bad_word : (text : List (List ℕ)) (j k : ℕ) → IsBadWord text j → IsBadWord text k → j ≡ k
one_bad_word text j k (wrong before word behind e m g) (wrong others other rest f n h) =
    ⊎_elim (λ same. m ∙ ap (λ i. i + 1) same ∙ sym n)
    (λ apart. ⊎_elim
    (λ less. let l = longer before others word other behind rest (sym e ∙ f) less in absurd (g.wrong (begins_shorter others (before ++ word ∷ []) l.more l.parts h.right)))
    (λ more. let l = longer others before other word rest behind (sym f ∙ e) more in absurd (h.wrong (begins_shorter before (others ++ other ∷ []) l.more l.parts g.right)))
    apart)
    (cases_order (length before) (length others))
one_bad_word text j k (wrong before word behind e m g) (unfinished others f n b) = absurd (not_both text before word behind e g b)
one_bad_word text j k (unfinished others f n b) (wrong before word behind e m g) = absurd (not_both text before word behind e g b)
one_bad_word text j k (unfinished before e m b) (unfinished others f n c) =
    m ∙ ap (λ ws. length ws + 1) (same_from_push before others drain_word drain_word (sym e ∙ f)).0 ∙ sym n

pub one_schedule_reading : (text : List ℕ) (a b : Result Schedule ℕ) → ReadsSchedule text a → ReadsSchedule text b → a ≡ b
one_schedule_reading text (Ok s) (Ok t) p q =
    let same = one_words (schedule_words text) s.choices t.choices s.drain t.drain p.each q.each in ap Ok (same_schedule s t same.same_choices same.same_drain)
one_schedule_reading text (Ok s) (Err k) p q = absurd (bad_or_schedule (schedule_words text) s k p q)
one_schedule_reading text (Err j) (Ok t) p q = absurd (bad_or_schedule (schedule_words text) t j q p)
one_schedule_reading text (Err j) (Err k) p q = ap Err (one_bad_word (schedule_words text) j k p q)
