-- The lines of a run, and the run of given lines.
use Rattle.std.specs.Prelude.{◌≡◌, ◌≢◌, ◌≤◌, ◌-◌, ◌==◌, ◌↔◌, ℕ, cond, List, [], ◌∷◌, ◌++◌, length, take, get_or, Option, Some, None, IsTrue}
use Rattle.std.specs.Option.{option_map}
use Rattle.df_values.specs.declared.values.Value.{Value}
use Rattle.df_cells.specs.declared.cells.Cell.{Cell}
use Rattle.df_machine.specs.declared.packets.Event.{Event}
use Rattle.df_machine.specs.declared.runs.RunEnd.{RunEnd}
use Rattle.df_machine.specs.Events.{possible, chosen, chosen_event}
use Rattle.df_machine.specs.Runs.{after}
use Rattle.df_machine.specs.Seen.{Loaded}
use Rattle.df_machine.specs.States.{State, start}
use Rattle.df_histories.specs.Reached.{IsAfter}
use Rattle.df_trace.specs.declared.replay.ReplayAnswer.{ReplayAnswer}
use Rattle.df_trace.specs.declared.replay.ReplayAnswer.TheVariants.{BadTrace}
use Rattle.df_trace.specs.Lines.{line_of}

-- ---- texts

-- the lines of a text: what stands before each line feed, and behind the last one, if anything does
abbrev pub begun_with : ℕ → List (List ℕ) → List (List ℕ)
begun_with b [] = (b ∷ []) ∷ []
begun_with b (line ∷ lines) = (b ∷ line) ∷ lines

abbrev pub lines_of : List ℕ → List (List ℕ)
lines_of [] = []
lines_of (b ∷ text) = cond (b == 10) ([] ∷ lines_of text) (begun_with b (lines_of text))

-- the line of an event with a line feed, where there is one
abbrev pub line_text : Option Event → List ℕ
line_text None = []
line_text (Some event) = line_of event ++ 10 ∷ []

-- the lines of the events that choices take, in order
abbrev pub trace_text : List Cell → List (List Value) → State → List ℕ → List ℕ
trace_text cells inputs s [] = []
trace_text cells inputs s (k ∷ ks) = line_text (chosen_event cells s k) ++ trace_text cells inputs (chosen cells inputs s k) ks

-- ---- a run of given lines

-- the event of each choice has its line
abbrev pub HaveLines : List Cell → List (List Value) → State → List ℕ → List (List ℕ) → Type 0
HaveLines cells inputs s [] [] = Unit {0}
HaveLines cells inputs s (k ∷ ks) (line ∷ lines) = (option_map line_of (chosen_event cells s k) ≡ Some line) × HaveLines cells inputs (chosen cells inputs s k) ks lines
HaveLines cells inputs s _ _ = ⊥

-- no possible event has the line
abbrev pub IsNoLine : List Cell → State → List ℕ → Type 0
IsNoLine cells s line = (k : ℕ) → option_map line_of (chosen_event cells s k) ≢ Some line

-- all lines are those of possible events at their turns, from the start on
pub record AreLines (cells : List Cell) (inputs : List (List Value)) (lines : List (List ℕ)) : Type 0 where
  pub choices : List ℕ
  pub have : HaveLines cells inputs (start cells) choices lines

-- the lines before this one are, and it is the line of no possible event then
pub record IsWrongAt (cells : List Cell) (inputs : List (List Value)) (lines : List (List ℕ)) (number : ℕ) : Type 0 where
  pub some : 1 ≤ number
  pub within : number ≤ length lines
  pub choices : List ℕ
  pub have : HaveLines cells inputs (start cells) choices (take (number - 1) lines)
  pub wrong : IsNoLine cells (after cells inputs choices) (get_or lines (number - 1) [])

-- the machine did the events with these lines, and no others
pub record HasDone (t : Loaded) (lines : List (List ℕ)) : Type 0 where
  pub choices : List ℕ
  pub have : HaveLines t.cells t.inputs (start t.cells) choices lines
  pub led : IsAfter t choices

-- all lines are those of possible events at their turns, and were done
pub record ReplaysAll (t : Loaded) (lines : List (List ℕ)) (end : RunEnd) : Type 0 where
  pub done : HasDone t lines
  pub events : end.events ≡ length lines
  pub drained : IsTrue end.drained ↔ (possible t.cells t.state ≡ 0)

-- the lines before this one were done, and it is the line of no possible event then
pub record StopsAt (t : Loaded) (lines : List (List ℕ)) (number : ℕ) : Type 0 where
  pub some : 1 ≤ number
  pub within : number ≤ length lines
  pub done : HasDone t (take (number - 1) lines)
  pub wrong : IsNoLine t.cells t.state (get_or lines (number - 1) [])

abbrev pub Refuses : Loaded → List (List ℕ) → ReplayAnswer → Type 0
Refuses t lines (BadTrace number) = StopsAt t lines number
