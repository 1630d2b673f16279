use Rattle.df_meant.proofs.Meant.{terms_are_meant}
use Rattle.df_meant.proofs.laws.terms_are_meant.Goals as goal

pub returns : goal.returns
returns c = terms_are_meant c.patterns_spell.ensures
