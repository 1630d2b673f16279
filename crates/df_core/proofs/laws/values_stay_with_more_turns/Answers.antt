use Rattle.df_core.proofs.Staying.{program_stays}
use Rattle.df_core.proofs.laws.values_stay_with_more_turns.Goals as goal

pub returns : goal.returns
returns c = program_stays
