use Rattle.df_core.proofs.Loopless.{program_known}
use Rattle.df_core.proofs.laws.members_are_known_without_loops.Goals as goal

pub returns : goal.returns
returns c = program_known
