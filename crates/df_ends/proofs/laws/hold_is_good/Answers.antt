use Rattle.df_ends.proofs.Realized.{hold_is_good}
use Rattle.df_ends.proofs.laws.hold_is_good.Goals as goal

pub returns : goal.returns
returns c = hold_is_good
    c.hold_realizes.ensures c.realizing_cells_realize_for_all.ensures c.realizing_for_all_is_good.ensures
