use Rattle.df_build_terms.proofs.Zones.{terms_stay_in_zone}
use Rattle.df_build_terms.proofs.laws.terms_stay_in_zone.Goals as goal

pub returns : goal.returns
returns c = terms_stay_in_zone c.gates_stay_in_zone.ensures c.windows_stay_in_zone.ensures c.loops_stay_in_zone.ensures
