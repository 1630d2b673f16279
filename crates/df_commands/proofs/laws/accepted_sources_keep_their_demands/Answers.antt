use Rattle.df_syntax.specs.Refusals.{most_open}
use Rattle.df_commands.proofs.laws.accepted_sources_keep_their_demands.Goals as goal

pub returns : goal.returns
returns c text tree is sized ranges extents =
    c.accepted_sources_are_piped.ensures tree (c.trees_are_well_built.ensures most_open is.list.tokens tree is.source.parses is.source.shallow) sized.named sized.formed ranges extents
