use Rattle.df_build_loops.proofs.FrameZones.{loops_stay_in_zone}
use Rattle.df_build_loops.proofs.laws.loops_stay_in_zone.Goals as goal

pub returns : goal.returns
returns c = loops_stay_in_zone c.gates_are_orderly.ensures c.gates_stay_in_zone.ensures
