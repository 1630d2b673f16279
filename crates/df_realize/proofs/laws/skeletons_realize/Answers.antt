use Rattle.df_realize.proofs.Realize.{skeletons_realize}
use Rattle.df_realize.proofs.laws.skeletons_realize.Goals as goal

pub returns : goal.returns
returns c =
    skeletons_realize c.skeletons_are_well_formed.ensures c.skeletons_have_zones.ensures c.obeys_kinds.ensures
    c.skeletons_tell.ensures c.valid_inputs_have_lengths.ensures c.zones_give_places.ensures
    c.realizing_cells_realize_for_all.ensures
