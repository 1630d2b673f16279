use Rattle.df_meant.proofs.Blocks.{blocks_are_meant}
use Rattle.df_meant.proofs.laws.blocks_are_meant.Goals as goal

pub returns : goal.returns
returns c = blocks_are_meant c.patterns_spell.ensures
