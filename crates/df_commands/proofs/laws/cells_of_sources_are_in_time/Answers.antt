use Rattle.df_commands.proofs.Good.{in_time_for_source}
use Rattle.df_commands.proofs.laws.cells_of_sources_are_in_time.Goals as goal

pub returns : goal.returns
returns c = in_time_for_source c.keeps_full_rate.ensures c.drains_in_time.ensures c.whole_in_time.ensures c.lowering_keeps_the_meaning.ensures
