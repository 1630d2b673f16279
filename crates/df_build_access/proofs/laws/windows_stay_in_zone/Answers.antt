use Rattle.df_build_access.proofs.WindowZones.{windows_stay_in_zone}
use Rattle.df_build_access.proofs.laws.windows_stay_in_zone.Goals as goal

pub returns : goal.returns
returns c = windows_stay_in_zone c.gates_stay_in_zone.ensures
