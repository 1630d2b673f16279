use Rattle.df_build_elem.proofs.CellZones.{skeletons_have_zones}
use Rattle.df_build_elem.proofs.laws.skeletons_have_zones.Goals as goal

pub returns : goal.returns
returns c = skeletons_have_zones c.programs_are_made.ensures c.programs_are_orderly.ensures
