use Rattle.df_build_elem.proofs.Zones.{programs_are_orderly}
use Rattle.df_build_elem.proofs.laws.programs_are_orderly.Goals as goal

pub returns : goal.returns
returns c = programs_are_orderly c.gates_stay_in_zone.ensures c.loops_stay_in_zone.ensures c.terms_stay_in_zone.ensures
