use Rattle.df_commands.proofs.Readings.{some_verdict}
use Rattle.df_commands.proofs.laws.has_some_verdict.Goals as goal

pub returns : goal.returns
returns c =
    some_verdict c.inputs_have_readings.ensures c.schedules_have_readings.ensures c.cell_files_have_readings.ensures c.trace_files_have_readings.ensures c.dual_files_have_readings.ensures
    c.programs_have_readings.ensures c.compilations_have_readings.ensures
