use Rattle.df_meant.proofs.Programs.{skeletons_tell}
use Rattle.df_meant.proofs.laws.skeletons_tell.Goals as goal

pub returns : goal.returns
returns c = skeletons_tell c.patterns_spell.ensures
