use Rattle.df_commands.proofs.ProgramReadings.{one_program_reading}
use Rattle.df_commands.proofs.laws.programs_have_one_reading.Goals as goal

pub returns : goal.returns
returns c =
    one_program_reading c.text_has_one_split.ensures c.text_has_one_first_bad_place.ensures c.text_with_tokens_has_no_bad_place.ensures
    c.tokens_have_one_answer.ensures
