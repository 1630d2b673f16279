use Rattle.df_input_names.proofs.Parameters.{source_named}
use Rattle.df_input_names.proofs.laws.inputs_are_named.Goals as goal

pub returns : goal.returns
returns c = source_named c.classes_have_codes_of_their_own.ensures
