use Rattle.df_types.proofs.NewSources as lemma
use Rattle.df_types.proofs.laws.accepted_names_are_new.Goals as goal

pub returns : goal.returns
returns c = lemma.accepted_names_are_new
