use Rattle.df_build_loops.proofs.Zones.{loops_are_orderly}
use Rattle.df_build_loops.proofs.laws.loops_are_orderly.Goals as goal

pub returns : goal.returns
returns c = loops_are_orderly c.gates_are_orderly.ensures
