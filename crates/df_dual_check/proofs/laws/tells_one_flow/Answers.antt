use Rattle.df_dual_check.proofs.OneText.{one_flow}
use Rattle.df_dual_check.proofs.laws.tells_one_flow.Goals as goal

pub returns : goal.returns
returns c = one_flow
