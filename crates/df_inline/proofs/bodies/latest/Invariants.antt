use Rattle.df_inline.proofs.Latest.{Among}
use Rattle.df_inline.proofs.bodies.latest.Given as goal

abbrev pub invariant-loop-place : goal.invariant-loop-place
invariant-loop-place l = Among l.functions l.place l.fn.name l.found
