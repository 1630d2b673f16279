use Rattle.df_dual_check.proofs.OneFault.{some_fault}
use Rattle.df_dual_check.proofs.laws.others_fail.Goals as goal

pub returns : goal.returns
returns c cells flow well_formed = some_fault c.ends_have_stages.ensures cells well_formed (c.has_skeletons.ensures cells well_formed) flow
