use Rattle.df_commands.proofs.Readings.{one_verdict}
use Rattle.df_commands.proofs.laws.has_one_verdict.Goals as goal

pub returns : goal.returns
returns c = one_verdict c.inputs_have_one_reading.ensures c.schedules_have_one_reading.ensures c.cell_files_have_one_reading.ensures c.trace_files_have_one_reading.ensures c.dual_files_have_one_reading.ensures c.programs_have_one_reading.ensures c.compilations_have_one_reading.ensures c.accepted_sources_bind_new_names.ensures
