use Rattle.df_shape.proofs.MeaningKept.{meaning_kept}
use Rattle.df_shape.proofs.laws.shaping_keeps_the_meaning.Goals as goal

pub returns : goal.returns
returns c = meaning_kept
