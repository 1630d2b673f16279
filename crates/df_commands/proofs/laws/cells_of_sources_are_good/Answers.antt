use Rattle.df_commands.proofs.Good.{good_for_source}
use Rattle.df_commands.proofs.laws.cells_of_sources_are_good.Goals as goal

pub returns : goal.returns
returns c = good_for_source c.realizing_for_all_is_good.ensures c.good_for_all_is_good.ensures c.lowering_keeps_the_meaning.ensures
