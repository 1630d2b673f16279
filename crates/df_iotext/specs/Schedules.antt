-- The words of a schedule: its choices, and then its drain if there is one.
use Rattle.std.specs.Prelude.{◌≡◌, ◌≤◌, ◌+◌, ℕ, List, [], ◌∷◌, ◌++◌, length, codes, Result, Ok, Err}
use Rattle.df_cells.specs.declared.schedules.Schedule.{Schedule}
use Rattle.df_iotext.specs.Words.{words}
use Rattle.df_iotext.specs.Numbers.{IsNumber}
use Rattle.df_iotext.specs.declared.words.Gaps.TheVariants.{BlanksAndLineEnds}

-- the word of a choice
pub record IsChoice (word : List ℕ) (choice : ℕ) : Type 0 where
  pub number : IsNumber word choice
  pub small : choice ≤ 4_294_967_295

-- the word of a drain's count
pub record IsCount (word : List ℕ) (count : ℕ) : Type 0 where
  pub number : IsNumber word count
  pub small : count ≤ 1_000_000_000

-- the word that leads a drain
abbrev pub drain_word : List ℕ
drain_word = codes "drain"

-- no words, which is a drain of 0, or `drain` and a count
abbrev pub AreDrain : List (List ℕ) → ℕ → Type 0
AreDrain [] drain = drain ≡ 0
AreDrain (_ ∷ []) drain = ⊥
AreDrain (word ∷ count ∷ []) drain = (word ≡ drain_word) × IsCount count drain
AreDrain (_ ∷ _ ∷ _ ∷ _) drain = ⊥

-- a word for each choice, and then those of the drain
abbrev pub AreWords : List (List ℕ) → List ℕ → ℕ → Type 0
AreWords text [] drain = AreDrain text drain
AreWords [] (choice ∷ choices) drain = ⊥
AreWords (word ∷ text) (choice ∷ choices) drain = IsChoice word choice × AreWords text choices drain

-- the words are those of a schedule, which has at most a million choices
pub record AreSchedule (text : List (List ℕ)) (schedule : Schedule) : Type 0 where
  pub few : length schedule.choices ≤ 1_000_000
  pub each : AreWords text schedule.choices schedule.drain

-- some schedule begins with these words
abbrev pub BeginSchedule : List (List ℕ) → Type 0
BeginSchedule text = (more : List (List ℕ)) × ((schedule : Schedule) × AreSchedule (text ++ more) schedule)

-- the last of these words is the first with which no schedule goes on
pub record GoWrong (before : List (List ℕ)) (word : List ℕ) : Type 0 where
  pub right : BeginSchedule before
  pub wrong : ¬ BeginSchedule (before ++ word ∷ [])

-- word k, counted from 1, is the first with which no schedule goes on, or a `drain` at the end
pub data IsBadWord (text : List (List ℕ)) (k : ℕ) : Type 0 where
  wrong : (before : List (List ℕ)) (word : List ℕ) (behind : List (List ℕ)) → text ≡ before ++ word ∷ behind → k ≡ length before + 1 → GoWrong before word → IsBadWord text k
  unfinished : (before : List (List ℕ)) → text ≡ before ++ drain_word ∷ [] → k ≡ length before + 1 → BeginSchedule text → IsBadWord text k

-- the words of a text with a schedule
abbrev pub schedule_words : List ℕ → List (List ℕ)
schedule_words text = words BlanksAndLineEnds text

-- the reading of a text: the schedule with its words, or the number of its first bad word
abbrev pub ReadsSchedule : List ℕ → Result Schedule ℕ → Type 0
ReadsSchedule text (Ok schedule) = AreSchedule (schedule_words text) schedule
ReadsSchedule text (Err k) = IsBadWord (schedule_words text) k
