use Rattle.df_commands.proofs.Compilations.{one_compilation}
use Rattle.df_commands.proofs.laws.compilations_have_one_reading.Goals as goal

pub returns : goal.returns
returns c = one_compilation c.programs_have_one_reading.ensures
