use Rattle.df_dual_check.proofs.Verdicts.{not_certified}
use Rattle.df_dual_check.proofs.laws.certified_dont_fail.Goals as goal

pub returns : goal.returns
returns c cells flow answer well_formed = not_certified c.ends_have_stages.ensures cells well_formed (c.has_skeletons.ensures cells well_formed) flow answer
