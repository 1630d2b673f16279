use Rattle.df_dual_check.proofs.OneText.{one_wrong_line}
use Rattle.df_dual_check.proofs.laws.has_one_wrong_line.Goals as goal

pub returns : goal.returns
returns c = one_wrong_line
