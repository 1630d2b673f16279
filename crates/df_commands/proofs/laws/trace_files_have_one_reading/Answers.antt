use Rattle.df_commands.proofs.TraceReadings.{one_trace_reading}
use Rattle.df_commands.proofs.laws.trace_files_have_one_reading.Goals as goal

pub returns : goal.returns
returns c = one_trace_reading c.traces_have_one_answer.ensures
