use Rattle.df_dual_check.proofs.OneText.{some_wrong_line}
use Rattle.df_dual_check.proofs.laws.others_have_wrong_lines.Goals as goal

pub returns : goal.returns
returns c = some_wrong_line
