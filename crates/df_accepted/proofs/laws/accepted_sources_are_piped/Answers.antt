-- The law is the lemma.
use Rattle.df_accepted.proofs.PipedSources.{accepted_piped}
use Rattle.df_accepted.proofs.laws.accepted_sources_are_piped.Goals as goal

pub returns : goal.returns
returns c = accepted_piped
