use Rattle.std.proofs.Common.{sym, ◌∙◌}
use Rattle.df_cells.specs.Cells.{port_of}
use Rattle.df_stages.proofs.Parts.{fed_within}
use Rattle.df_dual_check.proofs.rising.before.Goals as goal

pub returns-clause-within : goal.returns-clause-within
returns-clause-within c = fed_within c.args.cells.now c.requires.well_formed (port_of c.args.c.0 0) c.in-Some.u c.requires.within (sym c.producer_of.ensures ∙ c.in-Some.is)
