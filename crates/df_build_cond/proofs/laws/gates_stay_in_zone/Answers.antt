use Rattle.df_build_cond.proofs.OneZone.{gates_stay_in_zone}
use Rattle.df_build_cond.proofs.laws.gates_stay_in_zone.Goals as goal

pub returns : goal.returns
returns c = gates_stay_in_zone
