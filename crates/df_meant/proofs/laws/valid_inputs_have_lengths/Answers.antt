use Rattle.df_meant.proofs.Lengths.{valid_inputs_have_lengths}
use Rattle.df_meant.proofs.laws.valid_inputs_have_lengths.Goals as goal

pub returns : goal.returns
returns c = valid_inputs_have_lengths
