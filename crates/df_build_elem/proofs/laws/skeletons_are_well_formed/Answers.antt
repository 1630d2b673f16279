use Rattle.df_build_elem.proofs.Finished.{skeletons_are_well_formed}
use Rattle.df_build_elem.proofs.Made.{laid_short}
use Rattle.df_build_elem.proofs.laws.skeletons_are_well_formed.Goals as goal

pub returns : goal.returns
returns c =
    skeletons_are_well_formed c.gates_stay_in_zone.ensures c.loops_stay_in_zone.ensures c.terms_stay_in_zone.ensures
    c.terms_are_made.ensures c.programs_are_made.ensures
    (laid_short c.gates_are_made.ensures c.loops_are_made.ensures c.terms_are_made.ensures)
