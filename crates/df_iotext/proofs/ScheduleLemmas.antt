-- The words of a schedule that were read, and where no schedule goes on.
use Rattle.std.proofs.Common.{◌≡◌, ◌≢◌, ℕ, ◌+◌, ◌≤◌, List, [], ◌∷◌, ◌++◌, length, codes, refl, sym, ap, ◌∙◌, subst, arith, append_assoc, append-nil, lit<, lit≤, Result, Err, IsErrAnd, ◌⊎◌, inl, inr}
use Rattle.std.specs.List.{AllZip}
use Rattle.std.proofs.lemmas.Bool.{false≢true}
use Rattle.std.proofs.lemmas.List.{length-append}
use Rattle.df_cells.specs.declared.schedules.Schedule.{Schedule}
use Rattle.df_iotext.specs.declared.schedules.ScheduleAnswer.{ScheduleAnswer}
use Rattle.df_iotext.specs.declared.schedules.ScheduleAnswer.TheVariants.{BadSchedule}
use Rattle.df_iotext.specs.Numbers.{IsNumber}
use Rattle.df_iotext.specs.Schedules.{IsChoice, IsCount, drain_word, AreDrain, AreWords, AreSchedule, BeginSchedule, GoWrong, IsBadWord, schedule_words}
use Rattle.df_iotext.specs.Readers.{IsBadDrain}
use Rattle.df_iotext.specs.Schedules.IsBadWord.{wrong as bad_word, unfinished}
use Rattle.df_iotext.specs.Readers.IsBadDrain.{missing, wrong as bad_count, longer}

pub drain_is_no_number : (word : List ℕ) (n : ℕ) → word ≡ drain_word → ¬ IsNumber word n
drain_is_no_number word n e is = false≢true (subst (λ w. IsNumber w n) e is).digits

pub drain_leads : (word : List ℕ) (more : List (List ℕ)) (d : ℕ) → AreDrain (word ∷ more) d → word ≡ drain_word
drain_leads word [] d h = absurd h
drain_leads word (count ∷ []) d h = h.0
drain_leads word (count ∷ next ∷ more) d h = absurd h

-- ---- the words of the choices that were read stand at the front

pub words_from : (before end : List (List ℕ)) (choices : List ℕ) (d : ℕ) → AllZip IsChoice before choices → AreDrain end d → AreWords (before ++ end) choices d
words_from [] end [] d p q = q
words_from [] end (x ∷ choices) d p q = absurd p
words_from (word ∷ before) end [] d p q = absurd p
words_from (word ∷ before) end (x ∷ choices) d p q = (p.0, words_from before end choices d p.1 q)

-- what is left of a schedule that begins with these words
record Left (tail : List (List ℕ)) (choices all : List ℕ) (d : ℕ) : Type 0 where
  more : List ℕ
  joined : all ≡ choices ++ more
  each : AreWords tail more d

left_of : (before tail : List (List ℕ)) (choices all : List ℕ) (d : ℕ) → AllZip IsChoice before choices → AreWords (before ++ tail) all d → Left tail choices all d
left_of [] tail [] all d p q = record { more = all; joined = refl; each = q }
left_of [] tail (x ∷ choices) all d p q = absurd p
left_of (word ∷ before) tail [] all d p q = absurd p
left_of (word ∷ before) tail (x ∷ choices) [] d p q = absurd (drain_is_no_number word x (drain_leads word (before ++ tail) d q) p.0.number)
left_of (word ∷ before) tail (x ∷ choices) (y ∷ all) d p q =
    let left = left_of before tail choices all d p.1 q.1 in
    let same : y ≡ x = sym q.0.number.value ∙ p.0.number.value in
    record { more = left.more; joined = ap (λ z. z ∷ all) same ∙ ap (λ zs. x ∷ zs) left.joined; each = left.each }

-- ---- where no schedule goes on

-- what was read of a text: a word for each choice
pub record HasRead (text rest : List ℕ) (choices : List ℕ) : Type 0 where
  pub before : List (List ℕ)
  pub parts : schedule_words text ≡ before ++ schedule_words rest
  pub each : AllZip IsChoice before choices
  pub counted : length before ≡ length choices
  pub few : length choices ≤ 1_000_000

begins : (before end : List (List ℕ)) (choices : List ℕ) (d : ℕ) → AllZip IsChoice before choices → length choices ≤ 1_000_000 → AreDrain end d → (text more : List (List ℕ)) → text ++ more ≡ before ++ end → BeginSchedule text
begins before end choices d p few q text more e =
    (more, (record { choices = choices; drain = d }, record { few = few; each = subst (λ t. AreWords t choices d) (sym e) (words_from before end choices d p q) }))

-- no choice stands there
no_choice : (word : List ℕ) (more : List (List ℕ)) (before : List (List ℕ)) (choices all rest : List ℕ) (d : ℕ) → word ≢ drain_word
    → (length choices ≡ 1_000_000) ⊎ ((n : ℕ) → n ≤ 4_294_967_295 → ¬ IsNumber word n) → length all ≤ 1_000_000 → all ≡ choices ++ rest → AreWords (word ∷ more) rest d → ⊥
no_choice word more before choices all [] d apart bad few joined h = apart (drain_leads word more d h)
no_choice word more before choices all (x ∷ rest) d apart (inl full) few joined h = omega (arith, ap length joined, length-append choices (x ∷ rest))
no_choice word more before choices all (x ∷ rest) d apart (inr none) few joined h = none x h.0.small h.0.number

pub choice_goes_wrong : (before : List (List ℕ)) (word : List ℕ) (choices : List ℕ) → AllZip IsChoice before choices → length choices ≤ 1_000_000 → word ≢ drain_word
    → (length choices ≡ 1_000_000) ⊎ ((n : ℕ) → n ≤ 4_294_967_295 → ¬ IsNumber word n) → GoWrong before word
choice_goes_wrong before word choices p few apart bad = record {
  right = begins before [] choices 0 p few refl before [] refl;
  wrong = λ (more, (schedule, s)).
      let left = left_of before (word ∷ more) choices schedule.choices schedule.drain p
      (subst (λ t. AreWords t schedule.choices schedule.drain) (append_assoc before (word ∷ []) more) s.each) in
      no_choice word more before choices schedule.choices left.more schedule.drain apart bad s.few left.joined left.each;
}

-- what stands behind a drain's word is its count alone
drain_left : (behind : List (List ℕ)) (rest : List ℕ) (d : ℕ) → AreWords (drain_word ∷ behind) rest d → AreDrain (drain_word ∷ behind) d
drain_left behind [] d h = h
drain_left behind (x ∷ rest) d h = absurd (drain_is_no_number drain_word x refl h.0.number)

drain_of : (before behind : List (List ℕ)) (choices : List ℕ) (schedule : Schedule) (text : List (List ℕ)) → AllZip IsChoice before choices → text ≡ before ++ drain_word ∷ behind → AreSchedule text schedule
    → AreDrain (drain_word ∷ behind) schedule.drain
drain_of before behind choices schedule text p e s =
    let left = left_of before (drain_word ∷ behind) choices schedule.choices schedule.drain p (subst (λ t. AreWords t schedule.choices schedule.drain) e s.each) in
    drain_left behind left.more schedule.drain left.each

zero_count : IsCount (codes "0") 0
zero_count = record { number = record { some = lit< tt; digits = refl; value = refl }; small = lit≤ tt }

drain_begins : (before : List (List ℕ)) (choices : List ℕ) → AllZip IsChoice before choices → length choices ≤ 1_000_000 → BeginSchedule (before ++ drain_word ∷ [])
drain_begins before choices p few =
    begins before (drain_word ∷ codes "0" ∷ []) choices 0 p few (refl, zero_count) (before ++ drain_word ∷ []) (codes "0" ∷ []) (append_assoc before (drain_word ∷ []) (codes "0" ∷ []))

no_count : (word : List ℕ) (more : List (List ℕ)) (d : ℕ) → ((count : ℕ) → ¬ IsCount word count) → ¬ AreDrain (drain_word ∷ word ∷ more) d
no_count word [] d none h = none d h.1
no_count word (next ∷ more) d none h = h

count_goes_wrong : (before : List (List ℕ)) (word : List ℕ) (choices : List ℕ) → AllZip IsChoice before choices → length choices ≤ 1_000_000 → ((count : ℕ) → ¬ IsCount word count) → GoWrong (before ++ drain_word ∷ []) word
count_goes_wrong before word choices p few none = record {
  right = drain_begins before choices p few;
  wrong = λ (more, (schedule, s)).
      no_count word more schedule.drain none
      (drain_of before (word ∷ more) choices schedule _ p
      (append_assoc (before ++ drain_word ∷ []) (word ∷ []) more ∙ append_assoc before (drain_word ∷ []) (word ∷ more)) s);
}

more_goes_wrong : (before : List (List ℕ)) (word next : List ℕ) (choices : List ℕ) (count : ℕ) → AllZip IsChoice before choices → length choices ≤ 1_000_000 → IsCount word count → GoWrong (before ++ drain_word ∷ word ∷ []) next
more_goes_wrong before word next choices count p few is = record {
  right = begins before (drain_word ∷ word ∷ []) choices count p few (refl, is) (before ++ drain_word ∷ word ∷ []) [] (append-nil (before ++ drain_word ∷ word ∷ []));
  wrong = λ (more, (schedule, s)).
      drain_of before (word ∷ next ∷ more) choices schedule _ p
      (append_assoc (before ++ drain_word ∷ word ∷ []) (next ∷ []) more ∙ append_assoc before (drain_word ∷ word ∷ []) (next ∷ more)) s;
}

-- what is wrong behind a drain is wrong with the text
pub bad_drain : (text before behind : List (List ℕ)) (choices : List ℕ) (number k : ℕ) → AllZip IsChoice before choices → length choices ≤ 1_000_000 → text ≡ before ++ drain_word ∷ behind → number ≡ length before + 1
    → IsBadDrain behind number k → IsBadWord text k
bad_drain text before behind choices number k p few e n (missing none place) =
    let ends : text ≡ before ++ drain_word ∷ [] = e ∙ ap (λ ws. before ++ drain_word ∷ ws) none in
    unfinished before ends (place ∙ n) (subst BeginSchedule (sym ends) (drain_begins before choices p few))
bad_drain text before behind choices number k p few e n (bad_count word more parts none place) =
    bad_word (before ++ drain_word ∷ []) word more
    (e ∙ ap (λ ws. before ++ drain_word ∷ ws) parts ∙ sym (append_assoc before (drain_word ∷ []) (word ∷ more)))
    (omega (arith, place, n, length-append before (drain_word ∷ []))) (count_goes_wrong before word choices p few none)
bad_drain text before behind choices number k p few e n (longer word count next more parts is place) =
    bad_word (before ++ drain_word ∷ word ∷ []) next more
    (e ∙ ap (λ ws. before ++ drain_word ∷ ws) parts ∙ sym (append_assoc before (drain_word ∷ word ∷ []) (next ∷ more)))
    (omega (arith, place, n, length-append before (drain_word ∷ word ∷ []))) (more_goes_wrong before word next choices count p few is)

-- ---- reading on

pub nothing_read : (text : List ℕ) → HasRead text text []
nothing_read text = record { before = []; parts = refl; each = tt; counted = refl; few = lit≤ tt }

pub zip_push : (before : List (List ℕ)) (choices : List ℕ) (word : List ℕ) (x : ℕ) → AllZip IsChoice before choices → IsChoice word x → AllZip IsChoice (before ++ word ∷ []) (choices ++ x ∷ [])
zip_push [] [] word x p q = (q, tt)
zip_push [] (y ∷ choices) word x p q = absurd p
zip_push (w ∷ before) [] word x p q = absurd p
zip_push (w ∷ before) (y ∷ choices) word x p q = (p.0, zip_push before choices word x p.1 q)

pub one_more_read : (text rest word behind choices new : List ℕ) (x : ℕ) → HasRead text rest choices → schedule_words rest ≡ word ∷ schedule_words behind → length choices ≢ 1_000_000 → IsNumber word x → x ≤ 4_294_967_295
    → new ≡ choices ++ x ∷ [] → HasRead text behind new
one_more_read text rest word behind choices new x h next room is small same =
    let few = h.few in let counted = h.counted in
    subst (λ cs. HasRead text behind cs) (sym same) (record {
      before = h.before ++ word ∷ [];
      parts = h.parts ∙ ap (λ ws. h.before ++ ws) next ∙ sym (append_assoc h.before (word ∷ []) (schedule_words behind));
      each = zip_push h.before choices word x h.each (record { number = is; small = small });
      counted = omega (arith, length-append h.before (word ∷ []), length-append choices (x ∷ []));
      few = omega (arith, length-append choices (x ∷ []));
    })

pub is_schedule : (text rest choices : List ℕ) (end : List (List ℕ)) (d : ℕ) → HasRead text rest choices → schedule_words rest ≡ end → AreDrain end d → AreSchedule (schedule_words text) (record { choices = choices; drain = d })
is_schedule text rest choices end d h e q = record {
  few = h.few;
  each = subst (λ t. AreWords t choices d) (sym (h.parts ∙ ap (λ ws. h.before ++ ws) e)) (words_from h.before end choices d h.each q);
}

pub bad_choice : (text rest word behind choices : List ℕ) (k : ℕ) → HasRead text rest choices → schedule_words rest ≡ word ∷ schedule_words behind → word ≢ drain_word
    → (length choices ≡ 1_000_000) ⊎ ((n : ℕ) → n ≤ 4_294_967_295 → ¬ IsNumber word n) → k ≡ length choices + 1 → IsBadWord (schedule_words text) k
bad_choice text rest word behind choices k h next apart bad place =
    bad_word h.before word (schedule_words behind) (h.parts ∙ ap (λ ws. h.before ++ ws) next) (place ∙ ap (λ n. n + 1) (sym h.counted))
    (choice_goes_wrong h.before word choices h.each h.few apart bad)

pub bad_behind : (text rest word behind choices : List ℕ) (number k : ℕ) → HasRead text rest choices → schedule_words rest ≡ word ∷ schedule_words behind → word ≡ drain_word
    → number ≡ length choices + 1 → IsBadDrain (schedule_words behind) number k → IsBadWord (schedule_words text) k
bad_behind text rest word behind choices number k h next is place =
    bad_drain (schedule_words text) h.before (schedule_words behind) choices number k h.each h.few
    (h.parts ∙ ap (λ ws. h.before ++ ws) (next ∙ ap (λ w. w ∷ schedule_words behind) is)) (place ∙ ap (λ n. n + 1) (sym h.counted))

pub drained_schedule : (text rest word behind choices count_word : List ℕ) (d : ℕ) → HasRead text rest choices → schedule_words rest ≡ word ∷ schedule_words behind → word ≡ drain_word
    → schedule_words behind ≡ count_word ∷ [] → IsCount count_word d → AreSchedule (schedule_words text) (record { choices = choices; drain = d })
drained_schedule text rest word behind choices count_word d h next is end q =
    is_schedule text rest choices (drain_word ∷ count_word ∷ []) d h
    (next ∙ ap (λ ws. word ∷ ws) end ∙ ap (λ w. w ∷ count_word ∷ []) is) (refl, q)

-- the word that is answered
pub answered : (m k : ℕ) (e : ◌≡◌ {A = Result Schedule ScheduleAnswer} (Err (BadSchedule m)) (Err (BadSchedule k))) → k ≡ m
answered m k e = let same : m ≡ k = cc in sym same

-- an answer that is handed on
pub handed_on : (r : Result Schedule ScheduleAnswer) (x a : ScheduleAnswer) → r ≡ Err a → IsErrAnd r (λ y. y ≡ x) → x ≡ a
handed_on r x a e h = sym (subst (λ s. IsErrAnd s (λ y. y ≡ x)) e h)
