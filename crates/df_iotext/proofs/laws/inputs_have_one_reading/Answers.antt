use Rattle.df_iotext.proofs.OneReading.{one_reading}
use Rattle.df_iotext.proofs.laws.inputs_have_one_reading.Goals as goal

pub returns : goal.returns
returns c text decls one other names p q = one_reading decls names text one other p q
