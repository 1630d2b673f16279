use Rattle.df_compile.proofs.Filling.{few_counted, not_overfull}
use Rattle.df_compile.proofs.compile.compile.Goals as goal

pub returns-clause-fits : goal.returns-clause-fits
returns-clause-fits c = record {
  few = few_counted c.args.flat.now c.in_ok-cells.cells c.in_ok-cells.ensures.graph c.in_ok-cells.ensures.few;
  room = not_overfull c.same_skeletons.ensures c.args.flat.now c.in_ok-cells.cells c.in_ok-cells.ensures.graph c.in_ok-cells.ensures.well_formed c.in_ok-cells.ensures.plain c.in_ok-it.ensures.room;
}
