use Rattle.std.proofs.Common.{length}
use Rattle.df_trace.proofs.Choices.{all_cells}
use Rattle.df_trace.proofs.OneLine.{same_line}
use Rattle.df_trace.proofs.laws.lines_are_apart.Goals as goal

pub returns : goal.returns
returns c = λ cells inputs choices j k e f w first second is.
    c.events_are_apart.ensures cells inputs choices j k e f w first second
    (same_line c.leads_with_one_number.ensures e f
    (all_cells (length cells) e w.shaped.few (c.events_are_of_cells.ensures cells inputs choices j e w first))
    (all_cells (length cells) f w.shaped.few (c.events_are_of_cells.ensures cells inputs choices k f w second)) is)
