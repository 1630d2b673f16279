use Rattle.std.proofs.Common.{sym, ◌∙◌}
use Rattle.df_stages.proofs.Parts.{fed_within}
use Rattle.df_dual_check.proofs.staged.is_long.Goals as goal

pub origin_of-requires-clause-within : goal.origin_of-requires-clause-within
origin_of-requires-clause-within c = fed_within c.args.cells.now c.requires.well_formed c.args.arc.now.name c.in-Some.from c.requires.name (sym c.producer_of.ensures ∙ c.in-Some.is)
