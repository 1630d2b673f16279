use Rattle.df_celltext.proofs.OneWrongLine.{one_wrong_line}
use Rattle.df_celltext.proofs.laws.has_one_first_wrong_line.Goals as goal

pub returns : goal.returns
returns c version text m n g h = one_wrong_line version text m n g h
