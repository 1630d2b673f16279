use Rattle.df_labels.proofs.Clearing.{fed_there}
use Rattle.df_labels.proofs.builder.Builder.fed.Goals as goal

pub returns-in-None : goal.returns-in-None
returns-in-None c = fed_there c.self.inside.cells c.args.self.now c.args.at c.get.result.now c.get-2.result c.self.view_is c.get.ensures.cell c.get-2.ensures c.in-None.is c.requires.port
