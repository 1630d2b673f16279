use Rattle.df_build_cond.proofs.Zones.{gates_are_orderly}
use Rattle.df_build_cond.proofs.laws.gates_are_orderly.Goals as goal

pub returns : goal.returns
returns c = gates_are_orderly
