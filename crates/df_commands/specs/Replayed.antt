-- The report of a run by lines.
use Rattle.std.specs.Prelude.{◌≡◌, ℕ, Bool, List}
use Rattle.df_values.specs.declared.values.Value.{Value}
use Rattle.df_cells.specs.declared.cells.Cell.{Cell}
use Rattle.df_machine.specs.Reports.{report}
use Rattle.df_machine.specs.States.{start}
use Rattle.df_trace.specs.Traces.{HaveLines}
use Rattle.df_commands.specs.Reports.{report_text}

-- the text is the report of the run whose events have these lines
pub record IsRunByLines (cells : List Cell) (inputs : List (List Value)) (lines : List (List ℕ)) (text : List ℕ) (drained : Bool) : Type 0 where
  pub choices : List ℕ
  pub have : HaveLines cells inputs (start cells) choices lines
  pub says : text ≡ report_text (report cells inputs choices)
  pub done : drained ≡ (report cells inputs choices).drained
