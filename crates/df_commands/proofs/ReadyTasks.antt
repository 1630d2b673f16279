-- A schedule that was read has no more choices than it may.
use Rattle.std.proofs.Common.{◌≤◌, List, [], ◌∷◌, ℕ, Ok, replicate, arith}
use Rattle.std.proofs.lemmas.List.{length-append, length-replicate}
use Rattle.df_cells.specs.declared.schedules.Schedule.{Schedule}
use Rattle.df_iotext.specs.Schedules.{AreDrain, AreWords, ReadsSchedule, schedule_words}
use Rattle.df_commands.specs.Ready.{HasFewChoices}

short_drain : (words : List (List ℕ)) (drain : ℕ) → AreDrain words drain → drain ≤ 1_000_000_000
short_drain [] drain is = omega arith
short_drain (word ∷ []) drain is = absurd is
short_drain (word ∷ (count ∷ [])) drain is = is.1.small
short_drain (word ∷ (count ∷ (more ∷ words))) drain is = absurd is

short_words : (words : List (List ℕ)) (choices : List ℕ) (drain : ℕ) → AreWords words choices drain → drain ≤ 1_000_000_000
short_words words [] drain are = short_drain words drain are
short_words [] (choice ∷ choices) drain are = absurd are
short_words (word ∷ words) (choice ∷ choices) drain are = short_words words choices drain are.1

pub few_choices : (text : List ℕ) (schedule : Schedule) → ReadsSchedule text (Ok schedule) → HasFewChoices schedule
few_choices text schedule read =
    let drain = short_words (schedule_words text) schedule.choices schedule.drain read.each in let few = read.few in
    omega (arith, length-append schedule.choices (replicate schedule.drain 0), length-replicate {A = ℕ} schedule.drain 0)
