use Rattle.df_buffers_laws.proofs.SameSkeletons.{same_skeletons}
use Rattle.df_buffers_laws.proofs.laws.same_skeletons.Goals as goal

pub returns : goal.returns
returns c = same_skeletons c.marks_are_unique.ensures c.has_skeletons.ensures
