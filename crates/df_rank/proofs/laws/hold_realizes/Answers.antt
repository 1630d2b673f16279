use Rattle.df_rank.proofs.Hold.{hold_realizes}
use Rattle.df_rank.proofs.laws.hold_realizes.Goals as goal

pub returns : goal.returns
returns c = hold_realizes c.zones_give_places.ensures
