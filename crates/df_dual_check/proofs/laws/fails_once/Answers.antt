use Rattle.df_dual_check.proofs.OneFault.{one_fault}
use Rattle.df_dual_check.proofs.laws.fails_once.Goals as goal

pub returns : goal.returns
returns c cells flow one other well_formed = one_fault c.ends_have_stages.ensures cells well_formed (c.has_skeletons.ensures cells well_formed) flow one other
