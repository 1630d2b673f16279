use Rattle.df_commands.proofs.Compilations.{some_compilation}
use Rattle.df_commands.proofs.laws.compilations_have_readings.Goals as goal

pub returns : goal.returns
returns c = some_compilation c.programs_have_readings.ensures
