use Rattle.df_iotext.proofs.SomeReading.{no_text_without}
use Rattle.df_iotext.proofs.laws.inputs_have_readings.Goals as goal

pub returns : goal.returns
returns c text decls none = no_text_without decls text none
