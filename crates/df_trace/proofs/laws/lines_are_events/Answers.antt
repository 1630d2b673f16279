use Rattle.df_trace.proofs.Readings.{count_all}
use Rattle.df_trace.proofs.laws.lines_are_events.Goals as goal

pub returns : goal.returns
returns c = λ cells inputs choices lines h. count_all cells inputs choices lines h
