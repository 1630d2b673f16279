use Rattle.df_commands.proofs.TraceReadings.{some_trace_reading}
use Rattle.df_commands.proofs.laws.trace_files_have_readings.Goals as goal

pub returns : goal.returns
returns c = some_trace_reading c.traces_have_some_answer.ensures
