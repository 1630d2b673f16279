use Rattle.std.proofs.Common.{length}
use Rattle.df_inline.proofs.bodies.+body_of.Given as goal

abbrev pub decreases-body_of : goal.decreases-body_of
decreases-body_of l = length l.functions.now
