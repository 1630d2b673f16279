use Rattle.df_core.proofs.Loopless.{values_known}
use Rattle.df_core.proofs.laws.results_are_whole_without_loops.Goals as goal

pub returns : goal.returns
returns c = values_known
