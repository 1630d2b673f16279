use Rattle.df_syntax.specs.Refusals.{most_open}
use Rattle.df_commands.proofs.laws.accepted_sources_bind_new_names.Goals as goal

pub returns : goal.returns
returns c text tree is sized =
    c.accepted_names_are_new.ensures tree (c.trees_are_well_built.ensures most_open is.list.tokens tree is.source.parses is.source.shallow).bounded sized.named
