use Rattle.df_trace.proofs.Readings.{lead_to_one}
use Rattle.df_trace.proofs.laws.lines_lead_to_one_state.Goals as goal

pub returns : goal.returns
returns c = λ cells inputs choices others lines w h g. lead_to_one c.lines_are_apart.ensures cells inputs choices others lines w h g
