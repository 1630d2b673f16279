use Rattle.df_celltext.proofs.SomeAnswer.{some_answer}
use Rattle.df_celltext.proofs.laws.is_read_or_wrong.Goals as goal

pub returns : goal.returns
returns c version text = some_answer version text
