-- The law of lines.
use Rattle.std.specs.Prelude.{◌≡◌, ◌%◌, ℕ, List, length, Some}
use Rattle.df_values.specs.declared.values.Value.{Value}
use Rattle.df_cells.specs.declared.cells.Cell.{Cell}
use Rattle.df_cells.specs.WellFormed.{WellFormed}
use Rattle.df_machine.specs.declared.packets.Event.{Event}
use Rattle.df_machine.specs.Events.{possible, chosen_event}
use Rattle.df_machine.specs.Runs.{after, events}
use Rattle.df_machine.specs.States.{start}
use Rattle.df_trace.specs.Lines.{line_of}
use Rattle.df_trace.specs.Traces.{HaveLines, AreLines, IsWrongAt}

-- choices of events with the same lines lead to one state, and as many events were done as there are lines
abbrev pub LinesLeadToOneState : Type 0
LinesLeadToOneState = (cells : List Cell) (inputs : List (List Value)) (choices others : List ℕ) (lines : List (List ℕ)) → WellFormed cells
    → HaveLines cells inputs (start cells) choices lines → HaveLines cells inputs (start cells) others lines → after cells inputs choices ≡ after cells inputs others

abbrev pub LinesAreEvents : Type 0
LinesAreEvents = (cells : List Cell) (inputs : List (List Value)) (choices : List ℕ) (lines : List (List ℕ))
    → HaveLines cells inputs (start cells) choices lines → events cells inputs choices ≡ length lines

-- lines are not both those of a run and wrong, and no two are the first wrong one
pub record HaveOneAnswer : Type 0 where
  pub right : (cells : List Cell) (inputs : List (List Value)) (lines : List (List ℕ)) (number : ℕ) → WellFormed cells
      → AreLines cells inputs lines → IsWrongAt cells inputs lines number → ⊥
  pub wrong : (cells : List Cell) (inputs : List (List Value)) (lines : List (List ℕ)) (m n : ℕ) → WellFormed cells
      → IsWrongAt cells inputs lines m → IsWrongAt cells inputs lines n → m ≡ n

-- it can't be that they are neither
abbrev pub HaveSomeAnswer : Type 0
HaveSomeAnswer = (cells : List Cell) (inputs : List (List Value)) (lines : List (List ℕ))
    → ¬ (¬ AreLines cells inputs lines × ((number : ℕ) → ¬ IsWrongAt cells inputs lines number))

-- choices of events with one line are of one place among the possible events
abbrev pub LinesAreApart : Type 0
LinesAreApart = (cells : List Cell) (inputs : List (List Value)) (choices : List ℕ) (j k : ℕ) (e f : Event) → WellFormed cells
    → chosen_event cells (after cells inputs choices) j ≡ Some e → chosen_event cells (after cells inputs choices) k ≡ Some f → line_of e ≡ line_of f
    → j % possible cells (after cells inputs choices) ≡ k % possible cells (after cells inputs choices)
