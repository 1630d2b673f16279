use Rattle.df_commands.proofs.ProgramReadings.{some_program_reading}
use Rattle.df_commands.proofs.laws.programs_have_readings.Goals as goal

pub returns : goal.returns
returns c = some_program_reading c.text_has_tokens_or_a_bad_place.ensures c.tokens_have_some_answer.ensures
